-- Two images row by row: some row is such a row or none is, and how many differ.
-- Assumes nothing.
use mathlib.Core.Bool.{Bool, true, false, ◌&&◌, ◌||◌, true≢false}
use mathlib.Core.List.{List}
use mathlib.Core.Logic.{◌⊎◌, inl, inr}
use mathlib.Core.Path.{◌≡◌, refl, sym, ap₂, subst, ◌∙◌}
use Prim.Native.Nat.{ℕ, zero, suc, ◌+◌, ◌≤◌, ◌<◌}
use native.Mathlib.Omega.{arith}
use borrow.Author.Tests.{eqb-true, eqb-false, ltb-false}
use lib.Dec.{eqb, ltb}
use lib.ListN.{length, length-append, get_or-eq_default}
use Rattle.std.specs.Prelude.{if◌then◌else◌}
use Rattle.answer.proofs.Ladders.{neither}
use Rattle.chip.specs.Slices.{row_at}
use Rattle.maker.specs.Images.{data_differs, some_below, change_at, changes_below}
use Rattle.maker.proofs.Changing.{change_length}
use Rattle.made.specs.Refusing.{differing}

-- one of two tests holds
or_holds : (a b : Bool) → (a || b) ≡ true → (a ≡ true) ⊎ (b ≡ true)
or_holds true b e = inl refl
or_holds false b e = inr e

-- a row past the end holds nothing
pub past_end : (rows : List ℕ) (row : ℕ) → length rows ≤ row → row_at rows row ≡ 0
past_end rows row h = get_or-eq_default rows 0 h

module _ (such : ℕ → ℕ → ℕ → Bool) (present wanted : List ℕ) where
  abbrev at : ℕ → Bool
  at row = such row (row_at present row) (row_at wanted row)

  -- no row is
  pub none_such : (n : ℕ) → some_below such present wanted n ≡ false → (row : ℕ) → row < n → at row ≡ false
  unfolding some_below
  none_such zero e row h = absurd (omega arith)
  none_such (suc n) e row h =
      let two = neither (some_below such present wanted n) (at n) e in
      go (eqb row n) refl two.1 (none_such n two.0 row)
    where
      go : (t : Bool) → eqb row n ≡ t → at n ≡ false → (row < n → at row ≡ false) → at row ≡ false
      go true same last below = subst (λ (r : ℕ). at r ≡ false) (sym (eqb-true row n same)) last
      go false other last below = below (omega (arith, eqb-false row n other))

  -- some row is
  pub some_such : (n : ℕ) → some_below such present wanted n ≡ true → (row : ℕ) × (row < n) × (at row ≡ true)
  unfolding some_below
  some_such zero e = absurd (true≢false (sym e))
  some_such (suc n) e = go (or_holds (some_below such present wanted n) (at n) e) (some_such n)
    where
      go : (some_below such present wanted n ≡ true) ⊎ (at n ≡ true) → (some_below such present wanted n ≡ true → (row : ℕ) × (row < n) × (at row ≡ true))
          → (row : ℕ) × (row < suc n) × (at row ≡ true)
      go (inl below) rest =
          let found = rest below in
          (found.0, omega (arith, found.1), found.2)
      go (inr last) rest = (n, omega arith, last)

  -- none is, so no search finds one
  pub no_such : (n : ℕ) → ((row : ℕ) → row < n → at row ≡ false) → some_below such present wanted n ≡ false
  no_such n none = go (some_below such present wanted n) refl
    where
      go : (t : Bool) → some_below such present wanted n ≡ t → t ≡ false
      go false e = refl
      go true e =
          let found = some_such n e in
          sym found.2 ∙ none found.0 found.1

-- where no row from 0xf40 up differs, there are as many changes as rows that differ
module _ (present wanted : List ℕ) (same : (row : ℕ) → 0xf40 ≤ row → row_at present row ≡ row_at wanted row) where
  -- how many a row is of each
  abbrev change : ℕ → ℕ
  change row = if data_differs row (row_at present row) (row_at wanted row) then 1 else 0

  abbrev differ : ℕ → ℕ
  differ row = if eqb (row_at present row) (row_at wanted row) then 0 else 1

  as_many : (row : ℕ) → change row ≡ differ row
  as_many row = go (ltb row 0xf40) (eqb (row_at present row) (row_at wanted row)) refl refl
    where
      none : (t : Bool) → ◌≡◌ {A = ℕ} (if t && false then 1 else 0) 0
      none true = refl
      none false = refl

      go : (low equal : Bool) → ltb row 0xf40 ≡ low → eqb (row_at present row) (row_at wanted row) ≡ equal → change row ≡ differ row
      go low true e equal = rw equal (none (ltb row 0xf40))
      go true false below other = rw (below, other)
      go false false above other = absurd (eqb-false (row_at present row) (row_at wanted row) other (same row (ltb-false row 0xf40 above)))

  pub counted : (n : ℕ) → length (changes_below present wanted n) ≡ differing present wanted n
  unfolding changes_below differing
  counted zero = refl
  counted (suc row) =
      let next = change_at row (row_at present row) (row_at wanted row) in
      length-append (changes_below present wanted row) next
      ∙ ap₂ ◌+◌ (counted row) (change_length row (row_at present row) (row_at wanted row) ∙ as_many row)
