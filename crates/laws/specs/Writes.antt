-- What is promised of writing a row (document 01, "A row with ECC" and "Jobs").
use Rattle.std.specs.Prelude.{true, List, [], ◌∷◌, ◌⊎◌, ◌↔◌, ◌≡◌, ℕ, ◌+◌, ◌^◌, ◌≤◌, ◌<◌}
use Rattle.answer.specs.Answers.{found_in}
use Rattle.std.specs.Prelude.{if◌then◌else◌}
use Rattle.row.specs.Code.{set_bits, plain, inverted}
use Rattle.decode.specs.Reading.{read_row}
use Rattle.row.specs.Writing.{fits, pulses, ecc_written, raw_written}
use Rattle.answer.specs.declared.answers.Condition.TheVariants.{Clean}
use Rattle.answer.specs.declared.answers.Polarity.{Polarity}
use Rattle.answer.specs.declared.answers.Polarity.TheVariants.{Plain, Inverted}
use Rattle.laws.specs.Reads.{Value}

-- every bit of one row is in another
abbrev pub In : ℕ → ℕ → Type 0
In old row = fits old row ≡ true

-- a write answers 0 or 9
abbrev pub ZeroOrNine : Type 0
ZeroOrNine = (old value : ℕ) → ((ecc_written old value).number ≡ 0) ⊎ ((ecc_written old value).number ≡ 9)

-- the polarity that an ECC write burns: plain, or inverted where the plain row does not hold every bit already set
abbrev pub burnt_in : ℕ → ℕ → Polarity
burnt_in old value = if fits old (plain value) then Plain else Inverted

-- what an ECC write leaves reads back as its value, clean, in that polarity
abbrev pub ReadsBack : Type 0
ReadsBack =
    (old value : ℕ) → Value value → (ecc_written old value).number ≡ 0
    → read_row (ecc_written old value).row ≡ found_in (burnt_in old value) value Clean

-- no burnt bit clears
abbrev pub KeepsBits : Type 0
KeepsBits = (old value : ℕ) → In old (ecc_written old value).row × In old (raw_written old value).row

-- 9 exactly if neither polarity holds every bit already burnt
abbrev pub NineExactly : Type 0
NineExactly =
    (old value : ℕ) → ((ecc_written old value).number ≡ 9) ↔ ((In old (plain value) → ⊥) × (In old (inverted value) → ⊥))

-- a write that is refused leaves the row as it was, and takes no pulse
abbrev pub RefusedKeeps : Type 0
RefusedKeeps =
    (old value : ℕ) → (ecc_written old value).number ≡ 9 → ((ecc_written old value).row ≡ old) × ((ecc_written old value).pulses ≡ 0)

-- with at most one bit set beforehand, 9 is never given
abbrev pub OneBitFits : Type 0
OneBitFits = (old value : ℕ) → old < 2 ^ 24 → Value value → set_bits old ≤ 1 → (ecc_written old value).number ≡ 0

-- the same value written over any row between the old one and what the first write left: the same row
abbrev pub SameEcc : Type 0
SameEcc =
    (old between value : ℕ) → (ecc_written old value).number ≡ 0 → In old between → In between (ecc_written old value).row
    → ((ecc_written between value).number ≡ 0) × ((ecc_written between value).row ≡ (ecc_written old value).row)

-- so for a raw write
abbrev pub SameRaw : Type 0
SameRaw =
    (old between value : ℕ) → In old between → In between (raw_written old value).row
    → (raw_written between value).row ≡ (raw_written old value).row

-- the pulses of a write that is cut and made again add up
abbrev pub PulsesAdd : Type 0
PulsesAdd = (old between row : ℕ) → In old between → In between row → pulses old between + pulses between row ≡ pulses old row

-- a row that stands already takes no pulse
abbrev pub StandsAlready : Type 0
StandsAlready = (row : ℕ) → pulses row row ≡ 0

-- being in a row is an order
abbrev pub InItself : Type 0
InItself = (row : ℕ) → In row row

abbrev pub InThrough : Type 0
InThrough = (a b c : ℕ) → In a b → In b c → In a c

-- the bits newly set between two slices
unfoldable pub newly_set : List ℕ → List ℕ → ℕ
newly_set [] news = 0
newly_set (old ∷ olds) [] = 0
newly_set (old ∷ olds) (new ∷ news) = pulses old new + newly_set olds news
