-- What is promised of the condition of an ECC read, and of what all other answers say (request 2026-03).
use Rattle.std.specs.Prelude.{List, ◌↔◌, ◌≡◌, ℕ, ◌^◌, ◌≤◌, ◌<◌, length, set}
use Rattle.answer.specs.Answers.{answered}
use Rattle.row.specs.Code.{bit_at, code}
use Rattle.decode.specs.Reading.{flipped_at, decoded, read_row}
use Rattle.answer.specs.declared.answers.Answer.{Answer}
use Rattle.answer.specs.declared.answers.Condition.{Condition}
use Rattle.answer.specs.declared.answers.Condition.TheVariants.{Clean, Repaired, FlagWorn, FlagWornRepaired}
use Rattle.answer.specs.declared.answers.Polarity.TheVariants.{Plain, Inverted}
use Rattle.chip.specs.Slices.{row_at}
use Rattle.chip.specs.declared.state.State.{State}
use Rattle.latch.specs.Resetting.{latched}
use Rattle.access.specs.Reads.{read_ecc_number, read_ecc}
use Rattle.laws.specs.Calls.{Chip, Call, an_ecc_read, perform}
use Rattle.laws.specs.Reads.{looked}

-- the bits that are looked at are a value's code
abbrev pub Whole : ℕ → ℕ → Type 0
Whole row value = looked row ≡ code value

-- they are that code with one bit flipped, among 21:0
abbrev pub FlippedAt : ℕ → ℕ → ℕ → Type 0
FlippedAt row value place = (place < 22) × (looked row ≡ flipped_at place (code value))

-- bits 23 and 22 agree
abbrev pub Agree : ℕ → Type 0
Agree row = bit_at 23 row ≡ bit_at 22 row

-- exactly what a condition says of a row that was read as a value
pub record Says (row value : ℕ) (condition : Condition) : Type 0 where
  pub clean : (condition ≡ Clean) ↔ (Whole row value × Agree row)
  pub repaired : (place : ℕ) → (condition ≡ Repaired place) ↔ (FlippedAt row value place × Agree row)
  pub flag_worn : (condition ≡ FlagWorn) ↔ (Whole row value × (Agree row → ⊥))
  pub flag_worn_repaired : (place : ℕ) → (condition ≡ FlagWornRepaired place) ↔ (FlippedAt row value place × (Agree row → ⊥))

-- every row that decodes: clean, repaired or flag worn
abbrev pub ConditionExactly : Type 0
ConditionExactly = (row : ℕ) → (read_row row).number ≡ 0 → Says row (read_row row).value (read_row row).condition

-- bits 23 and 22 are both set
abbrev pub BothSet : ℕ → Type 0
BothSet row = (bit_at 23 row ≡ 1) × (bit_at 22 row ≡ 1)

-- every row that decodes: inverted exactly if bits 23 and 22 are both set, and otherwise plain
abbrev pub PolarityExactly : Type 0
PolarityExactly =
    (row : ℕ) → (read_row row).number ≡ 0
    → (((read_row row).polarity ≡ Inverted) ↔ BothSet row) × (((read_row row).polarity ≡ Plain) ↔ (BothSet row → ⊥))

-- a condition as document 01 has it: of bits 21:0 alone
abbrev pub without_flag : Condition → Condition
without_flag Clean = Clean
without_flag (Repaired bit) = Repaired bit
without_flag FlagWorn = Clean
without_flag (FlagWornRepaired bit) = Repaired bit

-- an answer with the new facts dropped
abbrev pub dropped : Answer → Answer
dropped answer = record {
  number = answer.number;
  value = answer.value;
  condition = without_flag answer.condition;
  polarity = Plain;
  place = answer.place;
  pulses = answer.pulses;
}

-- a read with the new facts dropped is document 01's: values, numbers and repaired bits did not move
abbrev pub OldReadStays : Type 0
OldReadStays = (row : ℕ) → dropped (read_row row) ≡ decoded (looked row)

-- and so is the call
abbrev pub OldCallStays : Type 0
OldCallStays =
    (rows : List ℕ) (state : State) (caller row : ℕ)
    → dropped (read_ecc rows state caller row) ≡ answered (read_ecc_number rows state caller row) (decoded (looked (row_at rows row)))

-- an ECC read that is done
abbrev pub EccReadDone : Chip → Call → Type 0
EccReadDone chip call = (caller : ℕ) × (row : ℕ) × (call ≡ an_ecc_read caller row) × ((perform chip call).answer.number ≡ 0)

-- every other answer says plain and agreeing: it is clean
abbrev pub OthersPlainAgreeing : Type 0
OthersPlainAgreeing =
    (chip : Chip) (call : Call) → (EccReadDone chip call → ⊥)
    → ((perform chip call).answer.condition ≡ Clean) × ((perform chip call).answer.polarity ≡ Plain)

-- two rows that read as the same value, or both do not decode
abbrev pub ReadAlike : ℕ → ℕ → Type 0
ReadAlike a b = ((read_row a).number ≡ (read_row b).number) × ((read_row a).value ≡ (read_row b).value)

-- key latching goes by the value of a key row and whether it decodes, and by nothing else that a read says
abbrev pub KeysByReading : Type 0
KeysByReading =
    (rows left : List ℕ) → ((row : ℕ) → 0xf48 ≤ row → ReadAlike (row_at left row) (row_at rows row))
    → ((row : ℕ) → 0xf78 ≤ row → row_at left row ≡ row_at rows row) → (latched left).keys ≡ (latched rows).keys

-- so wear changes no key: a plain key row with one of bits 23:22 worn latches the same ones
abbrev pub WornKeyLatches : Type 0
WornKeyLatches =
    (rows : List ℕ) (row flag : ℕ) → length rows ≡ 4096 → 0xf48 ≤ row → row < 0xf78 → row_at rows row < 2 ^ 22 → 22 ≤ flag → flag < 24
    → (latched (set rows row (flipped_at flag (row_at rows row)))).keys ≡ (latched rows).keys
