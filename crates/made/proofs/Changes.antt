-- The changes between two images as a list: each entry a row that differs, in order, and none left out.
-- Assumes nothing.
use mathlib.Core.Bool.{Bool, true, false}
use mathlib.Core.List.{List, [], ◌∷◌, ◌++◌, append-nil}
use mathlib.Core.Path.{◌≡◌, refl, sym, subst}
use Prim.Native.Nat.{ℕ, zero, suc, ◌+◌, ◌≤◌, ◌<◌}
use native.Mathlib.Omega.{arith}
use borrow.Author.Tests.{eqb-true, eqb-false, ltb-true, ltb-false}
use lib.Dec.{eqb, ltb}
use Rattle.chip.specs.Slices.{row_at}
use Rattle.form.specs.declared.entries.Entry.{Entry}
use Rattle.maker.specs.Images.{change_at, changes_below}
use Rattle.made.specs.Refusing.{Differs}

module _ (present wanted : List ℕ) where
  -- the entry of a row
  abbrev pub entry_of : ℕ → Entry
  entry_of row = record { row = row; kind = 1; value = row_at wanted row }

  -- the rows below 0xf40 from one on, and below another, are the same
  abbrev pub SameRows : ℕ → ℕ → Type 0
  SameRows from past = (row : ℕ) → from ≤ row → row < past → row < 0xf40 → row_at present row ≡ row_at wanted row

  -- the changes of the rows from one on, and below another
  pub data Changes : ℕ → ℕ → List Entry → Type 0 where
    none : {from past : ℕ} → SameRows from past → Changes from past []
    more : {from past : ℕ} {others : List Entry} (row : ℕ) → from ≤ row → row < past → row < 0xf40 → Differs present wanted row
        → SameRows from row → Changes (row + 1) past others → Changes from past (entry_of row ∷ others)

  -- no row lies there
  no_row : {from past : ℕ} → past ≤ from → SameRows from past
  no_row empty row low high data-row = absurd (omega arith)

  -- one row more that is the same
  same_more : {from past : ℕ} → SameRows from past → (past < 0xf40 → row_at present past ≡ row_at wanted past) → SameRows from (suc past)
  same_more {from} {past} same here row low high data-row = go (eqb row past) refl
    where
      go : (t : Bool) → eqb row past ≡ t → row_at present row ≡ row_at wanted row
      go true e =
          let last = eqb-true row past e in
          subst (λ (r : ℕ). row_at present r ≡ row_at wanted r) (sym last) (here (omega arith))
      go false e = same row low (omega (arith, eqb-false row past e)) data-row

  then_same : {from past : ℕ} {es : List Entry} → (past < 0xf40 → row_at present past ≡ row_at wanted past) → Changes from past es → Changes from (suc past) es
  then_same here (Changes.none same) = Changes.none (same_more same here)
  then_same {past = past} here (Changes.more row low high data-row differs same rest) =
      Changes.more {past = suc past} row low (omega arith) data-row differs same (then_same here rest)

  -- one row more that differs
  then-differs : {from past : ℕ} {es : List Entry} → from ≤ past → past < 0xf40 → Differs present wanted past → Changes from past es
      → Changes from (suc past) (es ++ (entry_of past ∷ []))
  then-differs {past = past} low data-row differs (Changes.none same) =
      Changes.more {past = suc past} past low (omega arith) data-row differs same (Changes.none (no_row {from = past + 1} {past = suc past} (omega arith)))
  then-differs {past = past} low data-row differs (Changes.more row low' high data-row' differs' same rest) =
      Changes.more {past = suc past} row low' (omega arith) data-row' differs' same (then-differs (omega arith) data-row differs rest)

  -- the list of a making's entries is such a list
  pub changed : (n : ℕ) → Changes 0 n (changes_below present wanted n)
  unfolding changes_below
  changed zero = Changes.none (no_row {from = 0} {past = 0} (omega arith))
  changed (suc n) = go (ltb n 0xf40) (eqb (row_at present n) (row_at wanted n)) refl refl (changes_below present wanted n) (changed n)
    where
      go : (low equal : Bool) → ltb n 0xf40 ≡ low → eqb (row_at present n) (row_at wanted n) ≡ equal → (es : List Entry) → Changes 0 n es
          → Changes 0 (suc n) (es ++ change_at n (row_at present n) (row_at wanted n))
      go false equal high e es below =
          rw (high, append-nil es) (then_same (λ data-row. absurd (omega (arith, ltb-false n 0xf40 high))) below)
      go true true data-row same es below = rw (data-row, same, append-nil es) (then_same (λ h. eqb-true (row_at present n) (row_at wanted n) same) below)
      go true false data-row other es below =
          rw (data-row, other)
          (then-differs (omega arith) (ltb-true n 0xf40 data-row) (eqb-false (row_at present n) (row_at wanted n) other) below)
