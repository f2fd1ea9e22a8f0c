-- The rows that a pass leaves, one by one: what is left in a listed one, and that every other is as it was; the same of the report.
-- Assumes nothing.
use mathlib.Core.Bool.{Bool, true, false, ◌&&◌}
use mathlib.Core.List.{List, [], ◌∷◌}
use mathlib.Core.Logic.{◌⊎◌, inl, inr}
use mathlib.Core.Path.{◌≡◌, refl, sym, ◌∙◌}
use Prim.Native.Nat.{ℕ, zero, suc, ◌+◌, ◌≤◌, ◌<◌, zero-le, suc-le-suc}
use native.Mathlib.Nat.{le_of_suc-le-suc, not-suc-le-zero}
use native.Mathlib.Omega.{arith}
use borrow.Author.Tests.{eqb-true, eqb-false, ltb-false, le-ltb}
use lib.Dec.{eqb}
use lib.ListN.{length, get_or, set, length-set}
use lib.Seq.{get_or-set_same, get_or-set_other}
use Rattle.answer.proofs.Ladders.{neither}
use Rattle.permit.specs.Permission.{may_write}
use Rattle.chip.specs.Slices.{row_at, too_large}
use Rattle.chip.specs.declared.state.State.{State}
use Rattle.repair.specs.Finding.{left_by}
use Rattle.repair.specs.Pass.{out_of_order, some_too_large, look_at, looks, mended_rows}
use Rattle.repair.proofs.Rising.{first_row_lem, each_row}

-- a row is at some place of a list, or at none
abbrev pub AtPlace : List ℕ → ℕ → ℕ → Type 0
AtPlace list k i = (i < length list) × (get_or list i 0 ≡ k)

abbrev pub Unlisted : List ℕ → ℕ → Type 0
Unlisted list k = (i : ℕ) → i < length list → get_or list i 0 ≡ k → ⊥

pub listed_or_not : (list : List ℕ) (k : ℕ) → ((i : ℕ) × AtPlace list k i) ⊎ Unlisted list k
listed_or_not [] k = inr (λ i below. absurd (not-suc-le-zero below))
listed_or_not (row ∷ others) k = go (eqb row k) refl (listed_or_not others k)
  where
    go : (t : Bool) → eqb row k ≡ t → ((i : ℕ) × AtPlace others k i) ⊎ Unlisted others k → ((i : ℕ) × AtPlace (row ∷ others) k i) ⊎ Unlisted (row ∷ others) k
    go true e rest = inl (0, (suc-le-suc zero-le, eqb-true row k e))
    go false e (inl found) = inl (suc found.0, (suc-le-suc found.1.0, found.1.1))
    go false e (inr none) = inr apart
      where
        apart : Unlisted (row ∷ others) k
        apart zero below = eqb-false row k e
        apart (suc i) below = none i (le_of_suc-le-suc below)

-- ---- the rows

module _ (rows₀ : List ℕ) (state : State) where
  -- what is left in a row that is looked at by itself
  abbrev pub left_at : ℕ → ℕ
  left_at row = left_by (look_at rows₀ state row).found (row_at rows₀ row)

  pub length_mended : (list rows : List ℕ) → length (mended_rows rows (looks rows₀ state list)) ≡ length rows
  unfolding looks mended_rows
  length_mended [] rows = refl
  length_mended (row ∷ others) rows = length_mended others (set rows row (left_at row)) ∙ length-set rows row (left_at row)

  -- one that is not listed
  pub unlisted_stays : (list rows : List ℕ) (k : ℕ) → Unlisted list k → row_at (mended_rows rows (looks rows₀ state list)) k ≡ row_at rows k
  unfolding looks mended_rows
  unlisted_stays [] rows k apart = refl
  unlisted_stays (row ∷ others) rows k apart =
      unlisted_stays others (set rows row (left_at row)) k (λ i below. apart (suc i) (suc-le-suc below))
      ∙ get_or-set_other rows row k (left_at row) 0 (λ same. apart 0 (suc-le-suc zero-le) (sym same))

  -- one that is
  listed_left : (list rows : List ℕ) (least : ℕ) → out_of_order least list ≡ false → length rows ≡ 4096 → (i : ℕ) → i < length list
      → row_at (mended_rows rows (looks rows₀ state list)) (get_or list i 0) ≡ left_at (get_or list i 0)
  unfolding looks mended_rows
  listed_left [] rows least order long i below = absurd (not-suc-le-zero below)
  listed_left (row ∷ others) rows least order long zero below =
      let first = first_row_lem least row others order in
      unlisted_stays others (set rows row (left_at row)) row
      (λ i in_List same. omega (arith, same, (each_row (row + 1) others first.2 i in_List).1))
      ∙ get_or-set_same rows row (left_at row) 0 (omega (arith, first.0, long))
  listed_left (row ∷ others) rows least order long (suc i) below =
      listed_left others (set rows row (left_at row)) (row + 1) (first_row_lem least row others order).2 (length-set rows row _ ∙ long) i (le_of_suc-le-suc below)

  pub listed_leaves : (list : List ℕ) → out_of_order 0 list ≡ false → length rows₀ ≡ 4096 → (i : ℕ) → i < length list
      → row_at (mended_rows rows₀ (looks rows₀ state list)) (get_or list i 0) ≡ left_at (get_or list i 0)
  listed_leaves list order long = listed_left list rows₀ 0 order long

-- ---- none is too large

module _ (rows : List ℕ) (state : State) where
  pub small_at : (list : List ℕ) → some_too_large rows state list ≡ false → (i : ℕ) → i < length list → may_write state 0 (get_or list i 0) ≡ true
      → row_at rows (get_or list i 0) ≤ 16777215
  unfolding some_too_large
  small_at [] none i below may = absurd (not-suc-le-zero below)
  small_at (row ∷ others) none zero below may =
      ltb-false 16777215 (row_at rows row) (rw may at (neither (may_write state 0 row && too_large rows row) _ none).0)
  small_at (row ∷ others) none (suc i) below may = small_at others (neither (may_write state 0 row && too_large rows row) (some_too_large rows state others) none).1 i (le_of_suc-le-suc below) may

  pub none_large : (list : List ℕ)
      → ((i : ℕ) → i < length list → may_write state 0 (get_or list i 0) ≡ true → row_at rows (get_or list i 0) ≤ 16777215)
      → some_too_large rows state list ≡ false
  unfolding some_too_large
  none_large [] all = refl
  none_large (row ∷ others) all =
      go (may_write state 0 row) refl (none_large others (λ i below may. all (suc i) (suc-le-suc below) may))
    where
      go : (may : Bool) → may_write state 0 row ≡ may → some_too_large rows state others ≡ false → some_too_large rows state (row ∷ others) ≡ false
      go true may rest = rw (may, le-ltb 16777215 (row_at rows row) (all 0 (suc-le-suc zero-le) may), rest)
      go false may rest = rw (may, rest)
