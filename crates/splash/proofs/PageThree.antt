-- The card's rows are all in page 3, and none of them is a key's or a lock's: so the one look at who may read serves each of them.
-- Assumes nothing.
use mathlib.Core.Bool.{Bool}
use mathlib.Core.List.{List}
use mathlib.Core.Path.{◌≡◌}
use Prim.Native.Nat.{ℕ, ◌/◌, ◌≤◌}
use native.Mathlib.Omega.{arith}
use borrow.Author.Tests.{le-ltb, lt-leb}
use lib.Dec.{eqb}
use Rattle.answer.proofs.Choices.{both_ways}
use Rattle.chip.specs.declared.state.State.{State}
use Rattle.permit.specs.Keys.{hidden}
use Rattle.permit.specs.Permission.{may_read}
use Rattle.access.specs.Judging.{row_rungs, call_rungs}
use Rattle.access.specs.Reads.{read_ecc}
use Rattle.splash.specs.Reading.{read_as, read_where, line_row}

-- a row of the card
abbrev pub OfCard : ℕ → Type 0
OfCard row = (0x0c0 ≤ row) × (row ≤ 0x0c5)

-- the row of the bytes in a line is one
pub line_in : (version : ℕ) → OfCard (line_row version)
line_in version = both_ways OfCard (eqb version 2) 0x0c5 0x0c3 (omega arith, omega arith) (omega arith, omega arith)

pub page_three : (rows : List ℕ) (state : State) (may : Bool) → may ≡ may_read state 1 0x0c0 → (row : ℕ) → OfCard row
    → read_where rows may row ≡ read_as rows state row
unfolding read_ecc call_rungs row_rungs hidden may_read
page_three rows state may e row of =
    let page : row / 64 ≡ 3 = omega (arith, of.0, of.1) in
    rw (e, le-ltb 4095 row (omega (arith, of.1)), lt-leb 0xf80 row (omega (arith, of.1)), lt-leb 0xf48 row (omega (arith, of.1)), page)
