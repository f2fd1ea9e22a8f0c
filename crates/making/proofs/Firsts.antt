-- What is found of two images is the first such row, and there is one where the making of a job finds one.
-- Assumes nothing.
use mathlib.Core.Bool.{Bool, true, false, ◌||◌}
use mathlib.Core.List.{List}
use mathlib.Core.Path.{◌≡◌, refl, ap, ◌∙◌}
use Prim.Native.Nat.{ℕ, zero, suc, ◌+◌, ◌<◌}
use native.Mathlib.Omega.{arith}
use borrow.Author.Tests.{lt-ltb, eqb-true, eqb-false}
use lib.Dec.{eqb, ltb}
use Rattle.chip.specs.Slices.{row_at}
use Rattle.maker.specs.Images.{some_below}
use Rattle.making.specs.Found.{such, with_row, found_below, First}
use Rattle.making.specs.declared.found.Found.{Found}
use Rattle.making.specs.declared.found.Why.{Why}

module _ (why : Why) (present wanted : List ℕ) where
  abbrev test : ℕ → Bool
  test row = such why row (row_at present row) (row_at wanted row)

  -- what is found of the rows below a number
  record Below (n : ℕ) (found : Found) : Type 0 where
    none : found.rows ≡ 0 → (row : ℕ) → row < n → test row ≡ false
    before : (row : ℕ) → row < found.row → test row ≡ false
    own : 0 < found.rows → test found.row ≡ true
    some : some_below (such why) present wanted n ≡ ltb 0 found.rows

  -- one row more that is no such row
  without : (n : ℕ) (found : Found) → Below n found → test n ≡ false → Below (suc n) found
  unfolding some_below
  without n found b e = record {
    none = λ z row h. go row h (b.none z row) (eqb row n) refl;
    before = b.before;
    own = b.own;
    some = rw e (rw b.some (or_false (ltb 0 found.rows)));
  }
    where
      or_false : (t : Bool) → t || false ≡ t
      or_false true = refl
      or_false false = refl

      go : (row : ℕ) → row < suc n → (row < n → test row ≡ false) → (t : Bool) → eqb row n ≡ t → test row ≡ false
      go row h lower true s = ap test (eqb-true row n s) ∙ e
      go row h lower false s = lower (omega (arith, eqb-false row n s))

  -- one row more that is
  with_one_lem : (n : ℕ) (found : Found) → Below n found → test n ≡ true → Below (suc n) (with_row found n true)
  unfolding some_below
  with_one_lem n found b e = go (eqb found.rows 0) refl
    where
      or_true : (t : Bool) → t || true ≡ true
      or_true true = refl
      or_true false = refl

      there : some_below (such why) present wanted (suc n) ≡ ltb 0 (found.rows + 1)
      there = rw e (rw (lt-ltb 0 (found.rows + 1) (omega arith)) (or_true (some_below (such why) present wanted n)))

      go : (t : Bool) → eqb found.rows 0 ≡ t → Below (suc n) (with_row found n true)
      go true z = record {
        none = λ more. absurd (omega arith);
        before = rw z (b.none (eqb-true found.rows 0 z));
        own = λ _. rw z e;
        some = there;
      }
      go false z = record {
        none = λ more. absurd (omega arith);
        before = rw z b.before;
        own = λ _. rw z (b.own (omega (arith, eqb-false found.rows 0 z)));
        some = there;
      }

  one_more : (n : ℕ) (found : Found) → Below n found → (t : Bool) → test n ≡ t → Below (suc n) (with_row found n t)
  one_more n found b true e = with_one_lem n found b e
  one_more n found b false e = without n found b e

  below : (n : ℕ) → Below n (found_below why present wanted n)
  unfolding found_below some_below
  below zero = record { none = λ z row h. absurd (omega arith); before = λ row h. absurd (omega arith); own = λ h. absurd (omega arith); some = refl }
  below (suc n) = one_more n (found_below why present wanted n) (below n) (test n) refl

  pub first : First why present wanted (found_below why present wanted 4096)
  first = let b = below 4096 in record { before = b.before; own = b.own; some = b.some }
