-- The bit of a mended row is one of its 24, and it takes one pulse.
-- Assumes nothing.
use Prim.Native.Nat.{ℕ, zero, suc, ◌%◌, ◌^◌, ◌≤◌, ◌<◌}
use mathlib.Core.Bool.{Bool, not}
use mathlib.Core.Path.{◌≡◌, refl}
use native.Mathlib.Nat.{le_refl, le_of_lt}
use native.Mathlib.Omega.{arith}
use lib.Dec.{eqb}
use Rattle.answer.specs.Conditions.{repaired_bit}
use Rattle.answer.specs.declared.answers.Answer.{Answer}
use Rattle.answer.specs.declared.answers.Condition.{Condition}
use Rattle.answer.specs.declared.answers.Condition.TheVariants as said
use Rattle.answer.proofs.Choices.{both_ways}
use Rattle.row.specs.Code.{bit_at}
use Rattle.decode.specs.Reading.{upright, is_code, flipped_at, repaired_below, decoded, disagree, flag_worn, said_of, read_row, undecodable}
use Rattle.repair.specs.Finding.{found_read, found_of, bit_of, pulses_by}
use Rattle.repair.specs.declared.finding.Found.{Found}
use Rattle.repair.specs.declared.finding.Found.TheVariants as found

-- an answer whose repaired bit, if there is one, is below 24
abbrev Low : Answer → Type 0
Low answer = repaired_bit answer.condition < 24

low_below : (places bits : ℕ) → places ≤ 22 → Low (repaired_below places bits)
unfolding repaired_below
low_below zero bits few = omega arith
low_below (suc place) bits few = both_ways Low (is_code (flipped_at place bits)) _ _ (omega (arith, few)) (low_below place bits (le_of_lt few))

low_decoded : (bits : ℕ) → Low (decoded bits)
unfolding decoded
low_decoded bits = both_ways Low (is_code bits) _ _ (omega arith) (low_below 22 bits (le_refl 22))

-- a worn flag changes no bit
same_bit : (condition : Condition) → repaired_bit (flag_worn condition) ≡ repaired_bit condition
same_bit said.Clean = refl
same_bit (said.Repaired bit) = refl
same_bit said.FlagWorn = refl
same_bit (said.FlagWornRepaired bit) = refl

pub low_read : (row : ℕ) → repaired_bit (read_row row).condition < 24
low_read row = go (decoded (upright row % 2 ^ 22)) (low_decoded (upright row % 2 ^ 22))
  where
    go : (held : Answer) → Low held → Low (said_of row held)
    go held low =
        both_ways Low (eqb held.number 0) _ _
        (both_ways (λ (c : Condition). repaired_bit c < 24) (disagree row) _ _ (rw (same_bit held.condition) low) low) (omega arith)

found_low_read : (held : ℕ) (condition : Condition) → repaired_bit condition < 24 → bit_of (found_read held condition) < 24
found_low_read held said.Clean low = omega arith
found_low_read held (said.Repaired bit) low = both_ways (λ (f : Found). bit_of f < 24) (eqb (bit_at bit held) 0) _ _ low (omega arith)
found_low_read held said.FlagWorn low = omega arith
found_low_read held (said.FlagWornRepaired bit) low = omega arith

pub found_low : (may : Bool) (held : ℕ) → bit_of (found_of may held) < 24
unfolding found_of
found_low may held =
    both_ways (λ (f : Found). bit_of f < 24) (not may) _ _ (omega arith)
    (both_ways (λ (f : Found). bit_of f < 24) (undecodable held) _ _ (omega arith) (found_low_read held (read_row held).condition (low_read held)))

-- a row takes a pulse or none
pub one_pulse : (found : Found) → pulses_by found ≤ 1
one_pulse found.Clean = omega arith
one_pulse (found.Mended bit) = omega arith
one_pulse found.Worn = omega arith
one_pulse found.Damaged = omega arith
one_pulse found.NotPermitted = omega arith
