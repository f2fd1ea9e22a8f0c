-- Request 2026-11: what a repair pass says of a row, exactly, and what it leaves in it.
use Rattle.std.specs.Prelude.{ℕ, ◌<◌, Bool, true, false, ◌⊎◌, ◌↔◌, ◌≡◌}
use Rattle.answer.specs.Answers.{found_in}
use Rattle.answer.specs.declared.answers.Condition.TheVariants as said
use Rattle.row.specs.Code.{bit_at}
use Rattle.decode.specs.Reading.{read_row}
use Rattle.repair.specs.Finding.{found_of, report_entry, left_by}
use Rattle.repair.specs.declared.finding.Found.{Found}
use Rattle.repair.specs.declared.finding.Found.TheVariants.{Clean, Mended, Worn, Damaged, NotPermitted}
use Rattle.laws.specs.Conditions.{Whole, FlippedAt, Agree}
use Rattle.laws.specs.Reads.{Value, Near}

-- a row decodes: some value has a code within one bit
abbrev pub Decodes : ℕ → Type 0
Decodes held = (value : ℕ) × Near held value

-- nothing of it is lost or too many: its bits 21:0 are a value's code, in its polarity
abbrev pub IsCode : ℕ → Type 0
IsCode held = (value : ℕ) × Value value × Whole held value

-- one bit among 21:0 is wrong, and the row as it is stored has this digit there
abbrev pub WrongAt : ℕ → ℕ → ℕ → Type 0
WrongAt held bit digit = (value : ℕ) × Value value × FlippedAt held value bit × (bit_at bit held ≡ digit)

-- a 1 is lost, at a bit
abbrev pub LostOne : ℕ → ℕ → Type 0
LostOne held bit = WrongAt held bit 0

-- it has a 1 too many
abbrev pub OneTooMany : ℕ → Type 0
OneTooMany held = (bit : ℕ) × WrongAt held bit 1

-- what each of the five says of a row that Secure may or may not write, in the request's words
abbrev pub InWords : Bool → ℕ → Found → Type 0
InWords may held Clean = (may ≡ true) × Agree held × IsCode held
InWords may held (Mended bit) = (may ≡ true) × Agree held × LostOne held bit
InWords may held Worn = (may ≡ true) × Decodes held × (OneTooMany held ⊎ (Agree held → ⊥))
InWords may held Damaged = (may ≡ true) × (Decodes held → ⊥)
InWords may held NotPermitted = may ≡ false

-- each of the five is said exactly where its words hold
abbrev pub SaidExactly : Type 0
SaidExactly = (may : Bool) (held : ℕ) (found : Found) → (found_of may held ≡ found) ↔ InWords may held found

-- they exclude each other and leave none out: the words of one hold, and of no other
abbrev pub OneOfFive : Type 0
OneOfFive = (may : Bool) (held : ℕ) → (found : Found) × InWords may held found × ((other : Found) → InWords may held other → other ≡ found)

-- a report entry tells which of the five it was, and the bit
abbrev pub EntryTells : Type 0
EntryTells = (a b : Found) → report_entry a ≡ report_entry b → a ≡ b

-- exactly one bit goes from 0 to 1
abbrev pub OneBitMore : ℕ → ℕ → ℕ → Type 0
OneBitMore bit held left =
    (bit_at bit held ≡ 0) × (bit_at bit left ≡ 1) × ((place : ℕ) → (place ≡ bit → ⊥) → bit_at place left ≡ bit_at place held)

-- a mended row gains the bit, one of 21:0, and then reads clean, in the same polarity, with the value that it read before
abbrev pub MendedReadsClean : Type 0
MendedReadsClean =
    (may : Bool) (held bit : ℕ) → found_of may held ≡ Mended bit
    → (bit < 22) × OneBitMore bit held (left_by (Mended bit) held)
    × (read_row (left_by (Mended bit) held) ≡ found_in (read_row held).polarity (read_row held).value said.Clean)
