-- Tests that a definition makes in one and the code in two.
-- Assumes nothing.
use mathlib.Core.Path.{◌≡◌, refl}
use mathlib.Core.Bool.{Bool, true, false}
use Prim.Native.Nat.{ℕ, ◌≤◌, ◌<◌, max}
use native.Mathlib.Nat.{max-le, le-max_left, le-max_right, lt_of_lt_of_le}
use borrow.Author.Tests.{le-leb, lt-leb, leb-true, leb-false}
use lib.Dec.{leb}

-- the higher of two is at most a bound if both are
pub max_low : (a b m : ℕ) → a ≤ m → leb (max a b) m ≡ leb b m
max_low a b m h = go (leb b m) refl
  where
    go : (t : Bool) → leb b m ≡ t → leb (max a b) m ≡ t
    go true e = le-leb (max a b) m (max-le h (leb-true b m e))
    go false e = lt-leb (max a b) m (lt_of_lt_of_le (leb-false b m e) (le-max_right a b))

pub max_high : (a b m : ℕ) → m < a → leb (max a b) m ≡ false
max_high a b m h = lt-leb (max a b) m (lt_of_lt_of_le h (le-max_left a b))
