-- What a card's row reads as, by what the row holds.
-- Assumes nothing.
use mathlib.Core.Bool.{true}
use mathlib.Core.List.{List}
use mathlib.Core.Path.{◌≡◌, refl, sym, ◌∙◌}
use Prim.Native.Nat.{ℕ, ◌≤◌}
use borrow.Author.Tests.{le-ltb, eq-eqb}
use lib.ListN.{length}
use Rattle.answer.specs.declared.answers.Answer.{Answer}
use Rattle.decode.specs.Reading.{read_row}
use Rattle.chip.specs.Slices.{row_at}
use Rattle.chip.specs.declared.state.State.{State}
use Rattle.permit.specs.Permission.{may_read}
use Rattle.splash.specs.Reading.{read_as}
use Rattle.splash.proofs.PageThree.{OfCard, page_three}

module _ (rows : List ℕ) (state : State) (whole : length rows ≡ 4096) (may : may_read state 1 0x0c0 ≡ true) (row : ℕ) (of : OfCard row) where
  -- in range and decoded: as the row reads
  pub read_there : (answer : Answer) → row_at rows row ≤ 16777215 → read_row (row_at rows row) ≡ answer → answer.number ≡ 0 → read_as rows state row ≡ answer
  read_there answer small reads done =
      sym (page_three rows state (may_read state 1 0x0c0) refl row of)
      ∙ rw (may, eq-eqb (length rows) 4096 whole, le-ltb 16777215 (row_at rows row) small, reads, done)
