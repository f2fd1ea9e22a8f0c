-- What a call on rows knows where its number is 0: the slice is whole, its row is in it, and what the row holds is in range.
-- Assumes nothing.
use mathlib.Core.Path.{◌≡◌, sym}
use mathlib.Core.Bool.{Bool, true, false, not, ◌&&◌, ◌||◌}
use mathlib.Core.List.{List}
use Prim.Native.Nat.{ℕ, ◌+◌, ◌≤◌, ◌<◌}
use native.Mathlib.Omega.{arith}
use borrow.Author.Tests.{le-ltb, ltb-false, eqb-true, not-false}
use lib.Dec.{eqb, ltb}
use lib.ListN.{length}
use Rattle.answer.specs.Rungs.{first_of}
use Rattle.answer.proofs.Ladders.{passed}
use Rattle.chip.specs.Callers.{no_caller}
use Rattle.permit.specs.Keys.{hidden}
use Rattle.chip.specs.Pages.{is_lock_row}
use Rattle.chip.specs.Slices.{row_at, not_whole, too_large}
use Rattle.chip.specs.declared.state.State.{State}
use Rattle.access.specs.Judging.{row_rungs, call_rungs}
use Rattle.access.specs.Votes.{read_vote_number}

module _ (rows : List ℕ) where
  -- the slice has 4,096 entries
  pub whole : not_whole rows ≡ false → length rows ≡ 4096
  whole e = eqb-true (length rows) 4096 (not-false (eqb (length rows) 4096) e)

  pub call_passed : (state : State) (caller row : ℕ) (coded value_too_large may : Bool)
      → first_of (call_rungs rows state caller row coded value_too_large may) ≡ 0
      → (row < length rows) × (value_too_large ≡ false) × (row_at rows row ≤ 16777215) × ((coded && is_lock_row row) ≡ false)
      × (hidden state row ≡ false) × (may ≡ true)
  unfolding call_rungs row_rungs
  call_passed state caller row coded value_too_large may e =
      let one = passed (not_whole rows) 0 _ e in
      let caller-four = passed (no_caller caller) 3 _ one.1 in
      let four = passed value_too_large 3 _ caller-four.1 in
      let two = passed (ltb 4095 row) 1 _ four.1 in
      let five = passed (coded && is_lock_row row) 4 _ two.1 in
      let six = passed (hidden state row) 5 _ five.1 in
      let seven = passed (not may) 6 _ six.1 in
      let three = passed (too_large rows row) 2 0 seven.1 in
      let long : length rows ≡ 4096 = whole one.0 in
      let low : row ≤ 4095 = ltb-false 4095 row two.0 in
      (omega arith, four.0, ltb-false 16777215 (row_at rows row) three.0, five.0, six.0, not-false may seven.0)

  -- the row that such a call has used can be used again with ECC, over a slice of the same length that holds a row there
  pub call_again : (state : State) (caller row : ℕ) (value_too_large may again : Bool) (left : List ℕ)
      → first_of (call_rungs rows state caller row true value_too_large may) ≡ 0 → length left ≡ length rows → row_at left row ≤ 16777215
      → again ≡ true → first_of (call_rungs left state caller row true false again) ≡ 0
  unfolding call_rungs row_rungs
  call_again state caller row value_too_large may again left e same small ok =
      let one = passed (not_whole rows) 0 _ e in
      let caller-four = passed (no_caller caller) 3 _ one.1 in
      let four = passed value_too_large 3 _ caller-four.1 in
      let two = passed (ltb 4095 row) 1 _ four.1 in
      let five = passed (is_lock_row row) 4 _ two.1 in
      let six = passed (hidden state row) 5 _ five.1 in
      rw (same, one.0, caller-four.0, two.0, five.0, six.0, ok, le-ltb 16777215 (row_at left row) small)

  pub vote_passed : (state : State) (caller row count : ℕ) → 0 ≡ read_vote_number rows state caller row count
      → (row + count ≤ length rows) × ((eqb count 3 || eqb count 8) ≡ true)
  vote_passed state caller row count e =
      let one = passed (not_whole rows) 0 _ (sym e) in
      let caller-four = passed (no_caller caller) 3 _ one.1 in
      let four = passed (not (eqb count 3 || eqb count 8)) 3 _ caller-four.1 in
      let two = passed (ltb 4096 (row + count)) 1 _ four.1 in
      let long : length rows ≡ 4096 = whole one.0 in
      let low : row + count ≤ 4096 = ltb-false 4096 (row + count) two.0 in
      (omega arith, not-false (eqb count 3 || eqb count 8) four.0)
