-- The writes: raw and ECC (document 01). Each has its number, first test first, and what it leaves.
use Rattle.std.specs.Prelude.{ℕ, List, [], ◌∷◌, ◌++◌, ltb}
use Rattle.answer.specs.Rungs.{◌when◌, first_of}
use Rattle.row.specs.Writing.{ecc_written, raw_written, neither_fits}
use Rattle.permit.specs.Permission.{may_write}
use Rattle.chip.specs.Slices.{row_at}
use Rattle.chip.specs.declared.state.State.{State}
use Rattle.burn.specs.Burning.{Left, one_row}
use Rattle.access.specs.Judging.{raw, ecc, call_rungs}

-- write raw: a value above 16,777,215 is too large
abbrev pub write_raw_number : List ℕ → State → ℕ → ℕ → ℕ → ℕ
write_raw_number rows state caller row value = first_of (call_rungs rows state caller row raw (ltb 16777215 value) (may_write state caller row))

unfoldable pub write_raw : List ℕ → State → ℕ → ℕ → ℕ → Left
write_raw rows state caller row value =
    one_row (write_raw_number rows state caller row value) rows state row (raw_written (row_at rows row) value)

-- write ECC: a value above 65,535 is too large; where neither polarity fits, 9
abbrev pub write_ecc_number : List ℕ → State → ℕ → ℕ → ℕ → ℕ
write_ecc_number rows state caller row value =
    first_of
    (call_rungs rows state caller row ecc (ltb 65535 value) (may_write state caller row)
    ++ (9 when neither_fits (row_at rows row) value ∷ []))

unfoldable pub write_ecc : List ℕ → State → ℕ → ℕ → ℕ → Left
write_ecc rows state caller row value =
    one_row (write_ecc_number rows state caller row value) rows state row (ecc_written (row_at rows row) value)
