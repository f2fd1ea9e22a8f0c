-- The entries of a report, one by one.
-- Assumes nothing.
use mathlib.Core.List.{List, [], ◌∷◌}
use mathlib.Core.Path.{◌≡◌, refl, ◌∙◌}
use Prim.Native.Nat.{ℕ, zero, suc, ◌+◌, ◌≤◌, ◌<◌}
use native.Mathlib.Nat.{le_of_suc-le-suc, not-suc-le-zero}
use native.Mathlib.Omega.{arith}
use lib.ListN.{length, get_or, set, length-set}
use lib.Seq.{get_or-set_same, get_or-set_other}
use Rattle.chip.specs.declared.state.State.{State}
use Rattle.repair.specs.Finding.{report_entry}
use Rattle.repair.specs.Pass.{look_at, looks, report_from}

module _ (rows : List ℕ) (state : State) where
  -- the entry of a row
  abbrev entry_of : ℕ → ℕ
  entry_of row = report_entry (look_at rows state row).found

  pub length_report : (list report : List ℕ) (place : ℕ) → length (report_from report place (looks rows state list)) ≡ length report
  unfolding looks report_from
  length_report [] report place = refl
  length_report (row ∷ others) report place =
      length_report others (set report place (entry_of row)) (place + 1) ∙ length-set report place (entry_of row)

  -- before the place, and past the list
  pub entry_stays : (list report : List ℕ) (place k : ℕ) → (place ≤ k → place + length list ≤ k)
      → get_or (report_from report place (looks rows state list)) k 0 ≡ get_or report k 0
  unfolding looks report_from
  entry_stays [] report place k outside = refl
  entry_stays (row ∷ others) report place k outside =
      entry_stays others (set report place (entry_of row)) (place + 1) k (λ from. omega (arith, outside (omega (arith, from))))
      ∙ get_or-set_other report place k (entry_of row) 0 (λ same. omega (arith, same, outside (omega (arith, same))))

  entry_said : (list report : List ℕ) (place : ℕ) → place + length list ≤ length report → (i : ℕ) → i < length list
      → get_or (report_from report place (looks rows state list)) (place + i) 0 ≡ entry_of (get_or list i 0)
  unfolding looks report_from
  entry_said [] report place room i below = absurd (not-suc-le-zero below)
  entry_said (row ∷ others) report place room zero below =
      let here : place + 0 ≡ place = omega arith in
      rw here
      (entry_stays others (set report place (entry_of row)) (place + 1) place (λ from. absurd (omega (arith, from)))
      ∙ get_or-set_same report place (entry_of row) 0 (omega (arith, room)))
  entry_said (row ∷ others) report place room (suc i) below =
      let later : place + suc i ≡ place + 1 + i = omega arith in
      rw later (entry_said others (set report place (entry_of row)) (place + 1) (rw (length-set report place (entry_of row)) (omega (arith, room))) i (le_of_suc-le-suc below))

  pub entry_at_lem : (list report : List ℕ) → length list ≤ length report → (i : ℕ) → i < length list
      → get_or (report_from report 0 (looks rows state list)) i 0 ≡ entry_of (get_or list i 0)
  entry_at_lem list report room i below =
      let from : 0 + i ≡ i = omega arith in
      rw from at (entry_said list report 0 (omega (arith, room)) i below)
