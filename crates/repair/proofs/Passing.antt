-- A pass as it is judged: what it was let by for, and what it leaves.
-- Assumes nothing.
use Prim.Native.Nat.{ℕ, ◌≤◌}
use mathlib.Core.Bool.{false}
use mathlib.Core.List.{List}
use mathlib.Core.Path.{◌≡◌, refl, sym, ap, ◌∙◌}
use borrow.Author.Tests.{eq-eqb, ne_eqb, eqb-true, not-false, ltb-false}
use lib.Dec.{eqb, ltb}
use lib.ListN.{length}
use Rattle.answer.proofs.Choices.{own_number}
use Rattle.answer.proofs.Ladders.{passed}
use Rattle.chip.specs.Slices.{not_whole}
use Rattle.chip.specs.declared.state.State.{State}
use Rattle.burn.specs.Burning.{burnt, kept}
use Rattle.repair.specs.Pass.{Passed, out_of_order, some_too_large, repair_number, looks, mended_rows, mending_pulses, mending_gains, report_from, repair}

module _ (rows : List ℕ) (state : State) (list report : List ℕ) where
  -- none of the four tests holds
  pub let_by : repair_number rows state list report ≡ 0
      → (length rows ≡ 4096) × (out_of_order 0 list ≡ false) × (length list ≤ length report) × (some_too_large rows state list ≡ false)
  let_by none =
      let one = passed (not_whole rows) 0 _ none in
      let eleven = passed (out_of_order 0 list) 10 _ one.1 in
      let twelve = passed (ltb (length report) (length list)) 11 _ eleven.1 in
      let three = passed (some_too_large rows state list) 2 _ twelve.1 in
      (eqb-true (length rows) 4096 (not-false (eqb (length rows) 4096) one.0), eleven.0, ltb-false (length report) (length list) twelve.0, three.0)

  -- it answers its number
  pub pass_number : (repair rows state list report).left.outcome.answer.number ≡ repair_number rows state list report
  unfolding repair
  pass_number = own_number (λ (p : Passed). p.left.outcome.answer.number) (repair_number rows state list report) _ _ refl refl

  -- any number but 0 leaves all as it was
  pub pass_refused : (number : ℕ) → number ≡ repair_number rows state list report → (number ≡ 0 → ⊥)
      → repair rows state list report ≡ record { left = kept state rows number 0; report = report }
  unfolding repair
  pass_refused number e some =
      rw (ne_eqb (repair_number rows state list report) 0 (λ none. some (e ∙ none))) (ap (λ (n : ℕ). record { left = kept state rows n 0; report = report }) (sym e))

  -- 0 leaves what was found, mended, counted and reported
  pub pass_done : repair_number rows state list report ≡ 0
      → repair rows state list report ≡ record {
        left = burnt state (mending_gains (looks rows state list)) (mended_rows rows (looks rows state list)) 0 (mending_pulses (looks rows state list));
        report = report_from report 0 (looks rows state list);
      }
  unfolding repair
  pass_done none = rw (eq-eqb (repair_number rows state list report) 0 none)
