-- What `==` of two slices of numbers answers is whether they are the same.
-- Assumes nothing.
use mathlib.Core.Path.{◌≡◌, refl}
use mathlib.Core.List.{List, [], ◌∷◌}
use Prim.Native.Nat.{ℕ}
use lib.Dec.{eqb}
use lib.Pointwise.{pointwise}
use Rattle.chip.specs.Lists.{same}

pub same_as : (a b : List ℕ) → pointwise eqb a b ≡ same a b
unfolding same
same_as [] [] = refl
same_as [] (b ∷ bs) = refl
same_as (a ∷ firsts) [] = refl
same_as (a ∷ firsts) (b ∷ bs) = rw (same_as firsts bs)
