-- The listed rows, one after the other: none of them has moved before its turn comes.
-- Assumes nothing.
use Prim.Native.Nat.{ℕ, ◌+◌, ◌≤◌, ◌<◌}
use mathlib.Core.Bool.{false}
use mathlib.Core.List.{List, [], ◌∷◌}
use mathlib.Core.Path.{◌≡◌, refl, ◌∙◌}
use native.Mathlib.Omega.{arith}
use lib.ListN.{set}
use lib.Seq.{get_or-set_other}
use Rattle.chip.specs.Slices.{row_at}
use Rattle.chip.specs.declared.state.State.{State}
use Rattle.repair.specs.Finding.{left_by}
use Rattle.repair.specs.Pass.{out_of_order, look_at}
use Rattle.repair.proofs.Rising.{first_row_lem}

-- what holds of no rows, and of a row and those after it once it holds of those, holds of a list in order
module _ (rows₀ : List ℕ) (state : State) (P : List ℕ → List ℕ → Type 0) (none : (rows : List ℕ) → P rows [])
    (one : (rows : List ℕ) (row : ℕ) (others : List ℕ) → row < 0xf40 → row_at rows row ≡ row_at rows₀ row
    → P (set rows row (left_by (look_at rows₀ state row).found (row_at rows₀ row))) others → P rows (row ∷ others)) where
  turns : (list rows : List ℕ) (least : ℕ) → out_of_order least list ≡ false → ((k : ℕ) → least ≤ k → row_at rows k ≡ row_at rows₀ k) → P rows list
  turns [] rows least order unmoved = none rows
  turns (row ∷ others) rows least order unmoved =
      let first = first_row_lem least row others order in
      one rows row others first.0 (unmoved row first.1)
      (turns others _ (row + 1) first.2
      (λ k above. get_or-set_other rows row k _ 0 (λ same. omega (arith, same, above)) ∙ unmoved k (omega (arith, first.1, above))))

  pub in_turn_lem : (list : List ℕ) → out_of_order 0 list ≡ false → P rows₀ list
  in_turn_lem list order = turns list rows₀ 0 order (λ k above. refl)
