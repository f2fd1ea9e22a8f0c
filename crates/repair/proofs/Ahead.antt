-- The listed rows looked at in order: what was mended, counted and reported already, ahead of what is left, is the whole.
-- Assumes nothing.
use Prim.Native.Nat.{ℕ, ◌+◌, ◌≤◌, ◌<◌}
use mathlib.Core.Bool.{Bool, false}
use mathlib.Core.List.{List, [], ◌∷◌}
use mathlib.Core.Path.{◌≡◌, refl, sym, ap, ap₂, ◌∙◌, subst}
use native.Mathlib.Nat.{add-zero, zero-add, le_refl}
use native.Mathlib.Omega.{arith}
use lib.ListN.{length, get_or, drop, set}
use lib.Seq.{get_or-set_other}
use Rattle.permit.specs.Permission.{may_write}
use Rattle.chip.specs.Slices.{row_at}
use Rattle.chip.specs.Tallies.{◌gains◌, with_gain, with_gains}
use Rattle.chip.specs.declared.state.State.{State}
use Rattle.repair.specs.Finding.{found_of, report_entry, left_by, pulses_by}
use Rattle.repair.specs.Pass.{Look, out_of_order, look_at, looks, mended_rows, mending_pulses, mending_gains, report_from}
use Rattle.repair.specs.declared.finding.Found.{Found}
use Rattle.repair.proofs.Rising.{rises, next_row, no_row}

module _ (rows₀ tallies₀ : List ℕ) (state : State) (list report₀ : List ℕ) where
  -- what is found of the listed rows from a place on, in the rows of the beginning
  abbrev pub left : ℕ → List Look
  left i = looks rows₀ state (drop i list)

  abbrev pub whole : List Look
  whole = looks rows₀ state list

  pub record Ahead (rows tallies report : List ℕ) (pulses i : ℕ) : Type 0 where
    pub unmoved : (k : ℕ) → i ≤ k → k < length list → row_at rows (get_or list k 0) ≡ row_at rows₀ (get_or list k 0)
    pub spent : mending_pulses whole ≡ pulses + mending_pulses (left i)
    pub mended : mended_rows rows₀ whole ≡ mended_rows rows (left i)
    pub counted : with_gains tallies₀ (mending_gains whole) ≡ with_gains tallies (mending_gains (left i))
    pub reported : report_from report₀ 0 whole ≡ report_from report i (left i)

  pub none_ahead : Ahead rows₀ tallies₀ report₀ 0 0
  none_ahead = record { unmoved = λ k h in_List. refl; spent = sym (zero-add (mending_pulses whole)); mended = refl; counted = refl; reported = refl }

  -- one row more
  module _ (order : out_of_order 0 list ≡ false) (i : ℕ) (h : i < length list) where
    abbrev row : ℕ
    row = get_or list i 0

    abbrev found : Found
    found = found_of (may_write state 0 row) (row_at rows₀ row)

    one_left : left i ≡ look_at rows₀ state row ∷ left (i + 1)
    unfolding looks
    one_left = rw (next_row list i h)

    pub one_ahead : (rows tallies report : List ℕ) (pulses : ℕ) → Ahead rows tallies report pulses i
        → Ahead (set rows row (left_by found (row_at rows₀ row))) (with_gain tallies (row gains pulses_by found)) (set report i (report_entry found))
        (pulses + pulses_by found) (i + 1)
    unfolding mended_rows mending_pulses mending_gains report_from
    one_ahead rows tallies report pulses a = record {
      unmoved = λ k later in_List.
          get_or-set_other rows row (get_or list k 0) _ 0 (λ same. apart k later in_List same) ∙ a.unmoved k (omega (arith, later)) in_List;
      spent = omega (arith, a.spent, ap mending_pulses one_left);
      mended = a.mended ∙ ap (mended_rows rows) one_left;
      counted = a.counted ∙ ap (λ (ls : List Look). with_gains tallies (mending_gains ls)) one_left;
      reported = a.reported ∙ ap (report_from report i) one_left;
    }
      where
        apart : (k : ℕ) → i + 1 ≤ k → k < length list → get_or list k 0 ≡ row → ⊥
        apart k later in_List same = omega (arith, same, rises 0 list order i k (omega (arith, later)) in_List)

    -- by what was learnt of the row
    pub step_ahead : (rows tallies report next counts : List ℕ) (pulses entry bits : ℕ) (may : Bool) (seen : Found)
        → Ahead rows tallies report pulses i → may ≡ may_write state 0 row
        → (seen ≡ found_of may (row_at rows row))
        × (next ≡ set rows row (left_by (found_of may (row_at rows row)) (row_at rows row)))
        × (counts ≡ with_gain tallies (row gains pulses_by (found_of may (row_at rows row))))
        → entry ≡ report_entry seen → bits ≡ pulses_by seen
        → Ahead next counts (set report i entry) (pulses + bits) (i + 1)
    step_ahead rows tallies report next counts pulses entry bits may seen a right (is, left_at, counted-at) reports takes =
        subst (λ (x : List ℕ). Ahead x counts (set report i entry) (pulses + bits) (i + 1))
        (sym (left_at ∙ ap₂ (λ (f : Found) (held : ℕ). set rows row (left_by f held)) same held_still))
        (subst (λ (x : List ℕ). Ahead after x (set report i entry) (pulses + bits) (i + 1))
        (sym (counted-at ∙ ap (λ (f : Found). with_gain tallies (row gains pulses_by f)) same))
        (subst (λ (x : ℕ). Ahead after gained (set report i x) (pulses + bits) (i + 1)) (sym (reports ∙ ap report_entry (is ∙ same)))
        (subst (λ (x : ℕ). Ahead after gained (set report i (report_entry found)) (pulses + x) (i + 1)) (sym (takes ∙ ap pulses_by (is ∙ same)))
        (one_ahead rows tallies report pulses a))))
      where
        held_still : row_at rows row ≡ row_at rows₀ row
        held_still = a.unmoved i (le_refl i) h

        same : found_of may (row_at rows row) ≡ found
        same = ap₂ found_of right held_still

        after : List ℕ
        after = set rows row (left_by found (row_at rows₀ row))

        gained : List ℕ
        gained = with_gain tallies (row gains pulses_by found)

  -- none left
  pub all_ahead : (rows tallies report : List ℕ) (pulses i : ℕ) → i ≡ length list → Ahead rows tallies report pulses i
      → (pulses ≡ mending_pulses whole)
      × (rows ≡ mended_rows rows₀ whole)
      × (tallies ≡ with_gains tallies₀ (mending_gains whole))
      × (report ≡ report_from report₀ 0 whole)
  unfolding looks mended_rows mending_pulses mending_gains report_from
  all_ahead rows tallies report pulses i all a =
      let none : left i ≡ [] = ap (looks rows₀ state) (no_row list i all) in (
        sym (a.spent ∙ ap (λ (ls : List Look). pulses + mending_pulses ls) none ∙ add-zero pulses),
        sym (a.mended ∙ ap (mended_rows rows) none),
        sym (a.counted ∙ ap (λ (ls : List Look). with_gains tallies (mending_gains ls)) none),
        sym (a.reported ∙ ap (report_from report i) none),
      )
