-- The reads of one row: raw and ECC (document 01). Each has its number, first test first, and what it answers.
use Rattle.std.specs.Prelude.{ℕ, List, [], ◌∷◌, ◌++◌}
use Rattle.answer.specs.Answers.{told, answered}
use Rattle.decode.specs.Reading.{read_row, undecodable}
use Rattle.answer.specs.Rungs.{◌when◌, first_of}
use Rattle.answer.specs.declared.answers.Answer.{Answer}
use Rattle.permit.specs.Permission.{may_read}
use Rattle.chip.specs.Slices.{row_at}
use Rattle.chip.specs.declared.state.State.{State}
use Rattle.access.specs.Judging.{raw, ecc, no_value, call_rungs}

-- read raw
abbrev pub read_raw_number : List ℕ → State → ℕ → ℕ → ℕ
read_raw_number rows state caller row = first_of (call_rungs rows state caller row raw no_value (may_read state caller row))

unfoldable pub read_raw : List ℕ → State → ℕ → ℕ → Answer
read_raw rows state caller row = answered (read_raw_number rows state caller row) (told (row_at rows row))

-- read ECC: where no value has a code within one bit, 8
abbrev pub read_ecc_number : List ℕ → State → ℕ → ℕ → ℕ
read_ecc_number rows state caller row =
    first_of (call_rungs rows state caller row ecc no_value (may_read state caller row) ++ (8 when undecodable (row_at rows row) ∷ []))

unfoldable pub read_ecc : List ℕ → State → ℕ → ℕ → Answer
read_ecc rows state caller row = answered (read_ecc_number rows state caller row) (read_row (row_at rows row))
