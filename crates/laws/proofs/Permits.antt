-- What a write that is permitted says of the levels, and that who may write a row may read it.
-- Assumes nothing.
use mathlib.Core.Bool.{Bool, true, false, ◌&&◌, ◌||◌, and-eq-true_iff}
use mathlib.Core.Path.{◌≡◌, refl}
use borrow.Author.Tests.{eqb-true}
use Prim.Native.Nat.{ℕ, max}
use lib.Dec.{eqb, leb}
use Rattle.chip.specs.Pages.{is_lock_row}
use Rattle.permit.specs.Permission.{row_key_level, caller_level, may_read, may_write}
use Rattle.chip.specs.declared.state.State.{State}
use Rattle.laws.specs.Promises.{MayWriteMayRead}
use Rattle.answer.proofs.Choices.{both_ways}

or_true : (t : Bool) → (t || true) ≡ true
or_true true = refl
or_true false = refl

pub all_zero : (state : State) (caller row : ℕ) → may_write state caller row ≡ true
    → (caller_level state caller row ≡ 0) × (caller_level state 0 row ≡ 0) × (row_key_level state row ≡ 0)
unfolding may_write
all_zero state caller row may =
    let own : Bool = eqb (caller_level state caller row) 0 in
    let secure : Bool = eqb (caller_level state 0 row) 0 in
    let key : Bool = eqb (row_key_level state row) 0 in
    let parts = (and-eq-true_iff (own && secure) key).0 may in
    let levels = (and-eq-true_iff own secure).0 parts.0 in
    (eqb-true _ 0 levels.0, eqb-true _ 0 levels.1, eqb-true _ 0 parts.1)

pub may_write_may_read : MayWriteMayRead
unfolding may_read
may_write_may_read state caller row may =
    let zero = all_zero state caller row may in
    rw (zero.0, zero.1, zero.2)
    (both_ways (λ (l : ℕ). (is_lock_row row || leb (max l 0) 1) ≡ true) (eqb caller 2) 0 0 (or_true (is_lock_row row)) (or_true (is_lock_row row)))
