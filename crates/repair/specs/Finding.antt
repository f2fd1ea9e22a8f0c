-- What is found of a row that is looked at by itself, and what that means for it (request 2026-11).
use Rattle.std.specs.Prelude.{ℕ, ◌+◌, ◌*◌, ◌^◌, Bool, not, eqb}
use Rattle.std.specs.Int.Bits.{bit_or}
use Rattle.std.specs.Prelude.{if◌then◌else◌}
use Rattle.answer.specs.declared.answers.Condition.{Condition}
use Rattle.answer.specs.declared.answers.Condition.TheVariants as said
use Rattle.row.specs.Code.{bit_at}
use Rattle.decode.specs.Reading.{read_row, undecodable}
use Rattle.repair.specs.declared.finding.Found.{Found}
use Rattle.repair.specs.declared.finding.Found.TheVariants.{Clean, Mended, Worn, Damaged, NotPermitted}

-- a row that reads repaired: the bit is a 1 that the row lacks as it is stored, and is mended; or it is a 1 too many, worn
abbrev pub found_repaired : ℕ → ℕ → Found
found_repaired held bit = if eqb (bit_at bit held) 0 then Mended bit else Worn

-- a row that decodes, by the condition that its read says: where the flag bits disagree, worn
abbrev pub found_read : ℕ → Condition → Found
found_read held said.Clean = Clean
found_read held (said.Repaired bit) = found_repaired held bit
found_read held said.FlagWorn = Worn
found_read held (said.FlagWornRepaired bit) = Worn

-- a row that may or may not be written: not permitted is said first; then damaged, if it does not decode
unfoldable pub found_of : Bool → ℕ → Found
found_of may held =
    if not may then NotPermitted
    else if undecodable held then Damaged
    else found_read held (read_row held).condition

-- the kinds of a report
abbrev pub kind_of : Found → ℕ
kind_of Clean = 0
kind_of (Mended bit) = 1
kind_of Worn = 2
kind_of Damaged = 3
kind_of NotPermitted = 4

-- the bit's number in the row, 0 but for mended
abbrev pub bit_of : Found → ℕ
bit_of Clean = 0
bit_of (Mended bit) = bit
bit_of Worn = 0
bit_of Damaged = 0
bit_of NotPermitted = 0

-- a report entry: kind + 256 x bit
abbrev pub report_entry : Found → ℕ
report_entry found = kind_of found + 256 * bit_of found

-- what the row holds then: mended, that bit too; and otherwise what it held
abbrev pub left_by : Found → ℕ → ℕ
left_by Clean held = held
left_by (Mended bit) held = bit_or held (2 ^ bit)
left_by Worn held = held
left_by Damaged held = held
left_by NotPermitted held = held

-- the pulses: one for a mended row
abbrev pub pulses_by : Found → ℕ
pulses_by Clean = 0
pulses_by (Mended bit) = 1
pulses_by Worn = 0
pulses_by Damaged = 0
pulses_by NotPermitted = 0
