-- Down a ladder of refusals: where the number is 0 no test on the way held, and a ladder that goes on answers where its first part does not.
-- Assumes nothing.
use mathlib.Core.Bool.{Bool, true, false, cond, not, ◌&&◌, ◌||◌}
use mathlib.Core.List.{List, [], ◌∷◌, ◌++◌}
use mathlib.Core.Path.{◌≡◌, refl, sym, subst}
use Prim.Native.Nat.{ℕ, zero, suc}
use borrow.Author.Tests.{eqb-true}
use lib.Dec.{T, eqb}
use Rattle.std.specs.Prelude.{if◌then◌else◌}
use Rattle.answer.specs.Rungs.{Rung, first_of, or_else}
use Rattle.answer.proofs.Choices.{both_left, both_right}

is_zero : ℕ → Type 0
is_zero zero = Unit
is_zero (suc n) = ⊥

pub never_zero : (n : ℕ) → suc n ≡ 0 → ⊥
unfolding is_zero
never_zero n e = subst is_zero (sym e) tt

-- a rung that was passed: its test failed, and the rest gives 0
pub passed : (t : Bool) (n rest : ℕ) → (if t then suc n else rest) ≡ 0 → (t ≡ false) × (rest ≡ 0)
passed true n rest e = absurd (never_zero n e)
passed false n rest e = (refl, e)

pub neither : (a b : Bool) → (a || b) ≡ false → (a ≡ false) × (b ≡ false)
neither true b e = absurd (subst (λ (t : Bool). cond t (Unit {0}) ⊥) e tt)
neither false b e = (refl, e)

-- ---- one ladder after another

-- nothing is added by a next that is 0
pub or_nothing : (number : ℕ) → or_else number 0 ≡ number
or_nothing number = go (eqb number 0) refl
  where
    go : (t : Bool) → eqb number 0 ≡ t → or_else number 0 ≡ number
    go true e = rw e (sym (eqb-true number 0 e))
    go false e = rw e

-- no rung gives 0
unfoldable pub refusing : List Rung → Bool
refusing [] = true
refusing (rung ∷ others) = not (eqb rung.number 0) && refusing others

-- where the first rungs give 0 none of them held, so the next ones answer
pub then_rungs : (first next : List Rung) → T (refusing first) → first_of (first ++ next) ≡ or_else (first_of first) (first_of next)
unfolding refusing
then_rungs [] next t = refl
then_rungs (rung ∷ others) next t =
    let some : Bool = not (eqb rung.number 0) in
    go rung.test (eqb rung.number 0) refl (both_left some (refusing others) t)
    (then_rungs others next (both_right some (refusing others) t))
  where
    go : (holds none : Bool) → eqb rung.number 0 ≡ none → T (not none) → first_of (others ++ next) ≡ or_else (first_of others) (first_of next)
        → (if holds then rung.number else first_of (others ++ next))
        ≡ or_else (if holds then rung.number else first_of others) (first_of next)
    go true true e t rest = absurd t
    go true false e t rest = rw e
    go false none e t rest = rest
