-- An entry changes at most one row, so no fewer entries than rows that differ do it.
-- Assumes nothing.
use mathlib.Core.Bool.{Bool, true, false}
use mathlib.Core.List.{List, [], ◌∷◌}
use mathlib.Core.Path.{◌≡◌, refl}
use Prim.Native.Nat.{ℕ, zero, suc, ◌+◌, ◌≤◌}
use native.Mathlib.Omega.{arith}
use borrow.Author.Tests.{eq-eqb, eqb-true, eqb-false}
use lib.Dec.{eqb, ltb}
use lib.ListN.{length, set}
use lib.Seq.{get_or-set_other}
use Rattle.std.specs.Prelude.{if◌then◌else◌}
use Rattle.chip.specs.Slices.{row_at}
use Rattle.form.specs.declared.entries.Entry.{Entry}
use Rattle.job.specs.Burning.{with_entry, written_over, all_written}
use Rattle.made.specs.Refusing.{differing}

-- an image does not differ from itself
none_differs : (rows : List ℕ) (n : ℕ) → differing rows rows n ≡ 0
unfolding differing
none_differs rows zero = refl
none_differs rows (suc n) = rw (eq-eqb (row_at rows n) (row_at rows n) refl) (omega (arith, none_differs rows n))

-- how many a row is
abbrev one_row_lem : ℕ → ℕ → ℕ
one_row_lem a b = if eqb a b then 0 else 1

at_most_one : (t : Bool) → (if t then 0 else 1) ≤ 1
at_most_one true = omega arith
at_most_one false = omega arith

-- one row set makes at most one more differ
module _ (present rows : List ℕ) (row new : ℕ) where
  abbrev next : List ℕ
  next = set rows row new

  below : (n : ℕ) → n ≤ row → differing present next n ≡ differing present rows n
  unfolding differing
  below zero h = refl
  below (suc n) h = rw (get_or-set_other rows row n new 0 (λ e. omega arith), below n (omega arith))

  one_more : (n : ℕ) → differing present next n ≤ differing present rows n + 1
  unfolding differing
  one_more zero = omega arith
  one_more (suc n) = go (ltb n row) (eqb n row) refl refl (one_more n)
    where
      go : (less here : Bool) → ltb n row ≡ less → eqb n row ≡ here → differing present next n ≤ differing present rows n + 1
          → differing present next n + one_row_lem (row_at present n) (row_at next n)
          ≤ differing present rows n + one_row_lem (row_at present n) (row_at rows n) + 1
      go less true e here rest =
          omega (arith, below n (omega (arith, eqb-true n row here)), at_most_one (eqb (row_at present n) (row_at next n)))
      go less false e other rest = rw (get_or-set_other rows row n new 0 (eqb-false n row other)) (omega arith)

-- so n entries make at most n more differ
pub entries_change : (present : List ℕ) (es : List Entry) (rows : List ℕ) (n : ℕ) → differing present (all_written rows es) n ≤ differing present rows n + length es
unfolding all_written
entries_change present [] rows n = omega arith
entries_change present (e ∷ others) rows n =
    omega (arith, entries_change present others (with_entry rows e) n, one_more present rows e.row (written_over rows e).row n)

pub at_least : (present : List ℕ) (es : List Entry) (n : ℕ) → differing present (all_written present es) n ≤ length es
at_least present es n = omega (arith, entries_change present es present n, none_differs present n)
