-- Equations between digits, which are 0 or 1, settled by trying every case: a test that antt computes.
-- Assumes nothing.
use mathlib.Core.Logic.{◌⊎◌, inl, inr}
use mathlib.Core.Path.{◌≡◌, refl, sym, subst}
use mathlib.Core.Bool.{Bool, true, ◌&&◌}
use Prim.Native.Nat.{ℕ, zero, suc, ◌<◌}
use native.Mathlib.Nat.{le_of_suc-le-suc, not-suc-le-zero, eq-or-lt_of_le}
use lib.Dec.{T, eqb, eqb→eq}
use Rattle.answer.proofs.Choices.{both_left, both_right}

pub zero_or_one : (x : ℕ) → x < 2 → (x ≡ 0) ⊎ (x ≡ 1)
zero_or_one zero h = inl refl
zero_or_one (suc zero) h = inr refl
zero_or_one (suc (suc x)) h = absurd (not-suc-le-zero (le_of_suc-le-suc (le_of_suc-le-suc h)))

-- a test of a digit passes at 0 and at 1, so at every digit
abbrev pub either : (ℕ → Bool) → Bool
either f = f 0 && f 1

pub at_digit : (f : ℕ → Bool) → T (either f) → (x : ℕ) → x < 2 → T (f x)
at_digit f t x h = go (zero_or_one x h)
  where
    go : (x ≡ 0) ⊎ (x ≡ 1) → T (f x)
    go (inl e) = rw e (both_left (f 0) (f 1) t)
    go (inr e) = rw e (both_right (f 0) (f 1) t)

abbrev pub tried2 : (ℕ → ℕ → Bool) → Bool
tried2 f = either (λ x. either (f x))

pub at_digits2 : (f : ℕ → ℕ → Bool) → T (tried2 f) → (x y : ℕ) → x < 2 → y < 2 → T (f x y)
at_digits2 f t x y hx hy = at_digit (f x) (at_digit (λ x'. either (f x')) t x hx) y hy

abbrev pub tried3 : (ℕ → ℕ → ℕ → Bool) → Bool
tried3 f = either (λ x. tried2 (f x))

pub at_digits3 : (f : ℕ → ℕ → ℕ → Bool) → T (tried3 f) → (x y z : ℕ) → x < 2 → y < 2 → z < 2 → T (f x y z)
at_digits3 f t x y z hx hy hz = at_digits2 (f x) (at_digit (λ x'. tried2 (f x')) t x hx) y z hy hz

-- two terms over digits that agree in every case are equal
pub equal2 : (f g : ℕ → ℕ → ℕ) → T (tried2 (λ x y. eqb (f x y) (g x y))) → (x y : ℕ) → x < 2 → y < 2 → f x y ≡ g x y
equal2 f g t x y hx hy = eqb→eq (f x y) (g x y) (at_digits2 (λ x' y'. eqb (f x' y') (g x' y')) t x y hx hy)

pub equal3 : (f g : ℕ → ℕ → ℕ → ℕ) → T (tried3 (λ x y z. eqb (f x y z) (g x y z)))
    → (x y z : ℕ) → x < 2 → y < 2 → z < 2 → f x y z ≡ g x y z
equal3 f g t x y z hx hy hz = eqb→eq (f x y z) (g x y z) (at_digits3 (λ x' y' z'. eqb (f x' y' z') (g x' y' z')) t x y z hx hy hz)

-- a test passes at each number below n
abbrev pub all_below : ℕ → (ℕ → Bool) → Bool
all_below zero f = true
all_below (suc n) f = f n && all_below n f

pub at_below : (n : ℕ) (f : ℕ → Bool) → T (all_below n f) → (k : ℕ) → k < n → T (f k)
at_below zero f t k h = absurd (not-suc-le-zero h)
at_below (suc n) f t k h = go (eq-or-lt_of_le (le_of_suc-le-suc h)) (at_below n f (both_right (f n) (all_below n f) t) k)
  where
    go : (k ≡ n) ⊎ (k < n) → (k < n → T (f k)) → T (f k)
    go (inl e) rest = subst (λ (m : ℕ). T (f m)) (sym e) (both_left (f n) (all_below n f) t)
    go (inr l) rest = rest l

-- a number is none of the first n keys
abbrev pub NoneOf : (ℕ → ℕ) → ℕ → ℕ → Type 0
NoneOf key zero x = Unit
NoneOf key (suc n) x = NoneOf key n x × (x ≡ key n → ⊥)
