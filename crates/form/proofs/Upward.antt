-- Entries taken in order, one after the other: those that are left.
-- Assumes nothing.
use mathlib.Core.Path.{◌≡◌, sym, ap}
use mathlib.Core.List.{List, [], ◌∷◌}
use Prim.Native.Nat.{ℕ, suc, ◌+◌, ◌-◌, ◌<◌}
use native.Mathlib.Nat.{sub-zero}
use native.Mathlib.Numerals.{add-one}
use native.Mathlib.Omega.{arith}
use Rattle.form.specs.Entries.{entry_at, entries_from}

module _ (job : List ℕ) (count : ℕ) where
  -- before the first entry all are left
  pub all_left : entries_from job 0 count ≡ entries_from job 0 (count - 0)
  all_left = ap (entries_from job 0) (sym (sub-zero count))

  -- the next entry, and those after it
  pub next_left : (i : ℕ) → i < count → entries_from job i (count - i) ≡ entry_at job i ∷ entries_from job (i + 1) (count - (i + 1))
  unfolding entries_from
  next_left i h =
      let more : count - i ≡ suc (count - (i + 1)) = omega arith in
      rw (more, add-one)

  -- after the last none is left
  pub none_left : (i : ℕ) → i ≡ count → entries_from job i (count - i) ≡ []
  unfolding entries_from
  none_left i e =
      let none : count - i ≡ 0 = omega arith in
      rw none
