-- The numbers of a condition and of a polarity tell them apart: so two answers with the same numbers are the same answer.
-- Assumes nothing.
use mathlib.Core.Path.{◌≡◌, refl, ap₂, ◌∙◌, sym}
use Prim.Native.Nat.{ℕ}
use lib.Dec.{eqb}
use Rattle.std.specs.Prelude.{if◌then◌else◌}
use Rattle.answer.specs.Conditions.{condition_number, repaired_bit, polarity_number}
use Rattle.answer.specs.declared.answers.Condition.{Condition}
use Rattle.answer.specs.declared.answers.Condition.TheVariants.{Clean, Repaired, FlagWorn, FlagWornRepaired}
use Rattle.answer.specs.declared.answers.Polarity.{Polarity}
use Rattle.answer.specs.declared.answers.Polarity.TheVariants.{Plain, Inverted}
use Rattle.answer.proofs.Telling.{told_apart}

-- the condition that has a number and a bit
abbrev condition_with : ℕ → ℕ → Condition
condition_with number bit =
    if eqb number 0 then Clean
    else if eqb number 1 then Repaired bit
    else if eqb number 2 then FlagWorn
    else FlagWornRepaired bit

conditioned : (condition : Condition) → condition_with (condition_number condition) (repaired_bit condition) ≡ condition
conditioned Clean = refl
conditioned (Repaired bit) = refl
conditioned FlagWorn = refl
conditioned (FlagWornRepaired bit) = refl

pub condition_tells : (a b : Condition) → condition_number a ≡ condition_number b → repaired_bit a ≡ repaired_bit b → a ≡ b
condition_tells a b number bit = sym (conditioned a) ∙ ap₂ condition_with number bit ∙ conditioned b

abbrev polarity_with : ℕ → Polarity
polarity_with number = if eqb number 0 then Plain else Inverted

polarised : (polarity : Polarity) → polarity_with (polarity_number polarity) ≡ polarity
polarised Plain = refl
polarised Inverted = refl

pub polarity_tells : (a b : Polarity) → polarity_number a ≡ polarity_number b → a ≡ b
polarity_tells = told_apart polarity_number polarity_with polarised
