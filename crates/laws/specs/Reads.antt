-- What is promised of the code and of reading a row (document 01, "A row with ECC").
use Rattle.std.specs.Prelude.{◌⊎◌, ◌↔◌, ◌≡◌, ℕ, ◌%◌, ◌^◌, ◌≤◌, ◌<◌}
use Rattle.std.specs.Int.Bits.{bit_xor}
use Rattle.answer.specs.Answers.{refused, found, found_in}
use Rattle.row.specs.Code.{distance, code, plain, inverted}
use Rattle.decode.specs.Reading.{upright, flipped_at, read_row}
use Rattle.answer.specs.declared.answers.Condition.TheVariants.{Clean, Repaired, FlagWorn, FlagWornRepaired}
use Rattle.answer.specs.declared.answers.Polarity.TheVariants.{Inverted}

-- a value of 16 bits
abbrev pub Value : ℕ → Type 0
Value value = value < 2 ^ 16

-- the bits 21:0 that a read looks at, with the polarity taken off
abbrev pub looked : ℕ → ℕ
looked row = upright row % 2 ^ 22

-- a value whose code differs from those bits in at most one place
abbrev pub Near : ℕ → ℕ → Type 0
Near row value = Value value × (distance (code value) (looked row) ≤ 1)

-- the code of an exclusive or is the exclusive or of the codes
abbrev pub Linear : Type 0
Linear = (a b : ℕ) → Value a → Value b → code (bit_xor a b) ≡ bit_xor (code a) (code b)

-- two different codes differ in at least four places
abbrev pub FourApart : Type 0
FourApart = (a b : ℕ) → Value a → Value b → (a ≡ b → ⊥) → 4 ≤ distance (code a) (code b)

-- two such values never exist
abbrev pub OneValue : Type 0
OneValue = (row a b : ℕ) → Near row a → Near row b → a ≡ b

-- a read answers 0 or 8
abbrev pub ZeroOrEight : Type 0
ZeroOrEight = (row : ℕ) → ((read_row row).number ≡ 0) ⊎ ((read_row row).number ≡ 8)

-- what a read finds is such a value
abbrev pub Sound : Type 0
Sound = (row : ℕ) → (read_row row).number ≡ 0 → Near row (read_row row).value

-- such a value is what a read finds
abbrev pub Complete : Type 0
Complete = (row value : ℕ) → Near row value → ((read_row row).number ≡ 0) × ((read_row row).value ≡ value)

-- 8 exactly if no value has a code within one bit
abbrev pub EightExactly : Type 0
EightExactly = (row : ℕ) → ((read_row row).number ≡ 8) ↔ ((value : ℕ) → Near row value → ⊥)

-- bits that differ from a code in two places are refused with 8: noticed, and never misread
abbrev pub TwoNoticed : Type 0
TwoNoticed = (row value : ℕ) → Value value → distance (code value) (looked row) ≡ 2 → (read_row row).number ≡ 8

-- an undamaged row is read clean, in its polarity
abbrev pub Undamaged : Type 0
Undamaged =
    (value : ℕ) → Value value
    → (read_row (plain value) ≡ found value Clean) × (read_row (inverted value) ≡ found_in Inverted value Clean)

-- any one flipped bit among 21:0 is corrected in either polarity, and the condition names it, with its polarity
abbrev pub Corrected : Type 0
Corrected =
    (value place : ℕ) → Value value → place < 22
    → (read_row (flipped_at place (plain value)) ≡ found value (Repaired place))
    × (read_row (flipped_at place (inverted value)) ≡ found_in Inverted value (Repaired place))

-- a flip in 23:22 does no harm to a plain row: it is flag worn
abbrev pub PlainFlag : Type 0
PlainFlag = (value flag : ℕ) → Value value → 22 ≤ flag → flag < 24 → read_row (flipped_at flag (plain value)) ≡ found value FlagWorn

-- with one more among 21:0 it is flag worn, with the repaired bit
abbrev pub PlainFlagCorrected : Type 0
PlainFlagCorrected =
    (value place flag : ℕ) → Value value → place < 22 → 22 ≤ flag → flag < 24
    → read_row (flipped_at flag (flipped_at place (plain value))) ≡ found value (FlagWornRepaired place)

-- an inverted row that lost one of the two is refused with 8, never misread
abbrev pub InvertedFlag : Type 0
InvertedFlag = (value place : ℕ) → Value value → 22 ≤ place → place < 24 → read_row (flipped_at place (inverted value)) ≡ refused 8
