-- A choice by a test: what holds of both sides holds of it, what is made of it is chosen by the same test, and the number of a call that is
-- refused with a number. And the two sides of a test that joins two.
-- Assumes nothing.
use mathlib.Core.Bool.{Bool, true, false, ◌&&◌}
use mathlib.Core.Path.{◌≡◌, refl, sym, ◌∙◌}
use Prim.Native.Nat.{ℕ}
use borrow.Author.Tests.{eqb-true}
use lib.Dec.{T, eqb}
use Rattle.std.specs.Prelude.{if◌then◌else◌}

module _ {A : Type 0} where
  pub both_ways : (P : A → Type 0) (t : Bool) (a b : A) → P a → P b → P (if t then a else b)
  both_ways P true a b pa pb = pa
  both_ways P false a b pa pb = pb

  pub made_of : {B : Type 0} (f : A → B) (t : Bool) (a b : A) → f (if t then a else b) ≡ (if t then f a else f b)
  made_of f true a b = refl
  made_of f false a b = refl

  -- a call that is refused with a number answers that number, and one that is not answers 0
  pub own_number : (number_of : A → ℕ) (number : ℕ) (finished refusal : A) → number_of finished ≡ 0 → number_of refusal ≡ number
      → number_of (if eqb number 0 then finished else refusal) ≡ number
  own_number number_of number finished refusal none same = go (eqb number 0) refl
    where
      go : (t : Bool) → eqb number 0 ≡ t → number_of (if t then finished else refusal) ≡ number
      go true e = none ∙ sym (eqb-true number 0 e)
      go false e = same

pub both_left : (a b : Bool) → T (a && b) → T a
both_left true b t = tt
both_left false b t = t

pub both_right : (a b : Bool) → T (a && b) → T b
both_right true b t = t
both_right false b t = absurd t
