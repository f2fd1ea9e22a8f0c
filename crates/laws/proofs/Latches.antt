-- Reset: what it asks of a slice, what its keys go by, and the state that it leaves.
-- Assumes nothing.
use mathlib.Core.Bool.{true, not}
use mathlib.Core.List.{List}
use mathlib.Core.Path.{◌≡◌, refl}
use Prim.Native.Nat.{ℕ, zero, suc, ◌+◌, ◌≤◌}
use native.Mathlib.Omega.{arith}
use borrow.Author.Tests.{eq-eqb, not-false}
use lib.ListN.{length}
use Rattle.permit.specs.Keys.{key_row, valid_row}
use Rattle.chip.specs.Slices.{not_whole}
use Rattle.chip.specs.Slices.{row_at}
use Rattle.chip.specs.declared.state.State.{State}
use Rattle.latch.specs.Resetting.{all_decode, all_in_range, word_of, latched, reset_number, reset}
use Rattle.answer.proofs.Ladders.{passed}
use Rattle.access.proofs.Passing.{whole}
use Rattle.laws.specs.Conditions.{ReadAlike, KeysByReading}

-- ---- what keys go by

module _ (rows left : List ℕ) (alike : (row : ℕ) → 0xf48 ≤ row → ReadAlike (row_at left row) (row_at rows row)) where
  decode_same : (first n : ℕ) → 0xf48 ≤ first → all_decode left first n ≡ all_decode rows first n
  unfolding all_decode
  decode_same first zero high = refl
  decode_same first (suc n) high = rw (decode_same first n high, (alike (first + n) (omega arith)).0)

pub keys_by_reading : KeysByReading
unfolding latched
keys_by_reading rows left alike same =
    let word : (k i : ℕ) → word_of (row_at left (key_row k + i)) ≡ word_of (row_at rows (key_row k + i)) = λ k i. (alike (key_row k + i) (omega arith)).1 in
    let valid : (k : ℕ) → row_at left (valid_row k) ≡ row_at rows (valid_row k) = λ k. same (valid_row k) (omega arith) in
    let decode : (k : ℕ) → all_decode left (key_row k) 8 ≡ all_decode rows (key_row k) 8 = λ k. decode_same rows left alike (key_row k) 8 (omega arith) in
    simp (word, valid, decode)

-- ---- what reset asks

pub reset_passed : (rows : List ℕ) → reset_number rows ≡ 0 → (length rows ≡ 4096) × (all_in_range rows ≡ true)
reset_passed rows e =
    let one = passed (not_whole rows) 0 _ e in
    let three = passed (not (all_in_range rows)) 2 0 one.1 in
    (whole rows one.0, not-false (all_in_range rows) three.0)

pub reset_done : (rows : List ℕ) → length rows ≡ 4096 → all_in_range rows ≡ true → reset_number rows ≡ 0
reset_done rows long small = rw (eq-eqb (length rows) 4096 long, small)

-- ---- the state of a chip just reset

pub reset_state : (rows : List ℕ) (before : State) → reset_number rows ≡ 0 → (reset rows before).state ≡ latched rows
unfolding reset
reset_state rows before e = rw e
