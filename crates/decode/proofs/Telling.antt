-- What the code finds in bits 21:0 can be told from the answer that the definitions have.
-- Assumes nothing.
use mathlib.Core.Path.{◌≡◌, refl, ap}
use Rattle.std.specs.Prelude.{ℕ, Option, Some, None, Result, Ok, Err, eqb}
use Rattle.std.specs.Prelude.{if◌then◌else◌}
use Rattle.answer.specs.declared.answers.Answer.{Answer}
use Rattle.answer.specs.declared.answers.Condition.{Condition}
use Rattle.answer.specs.declared.answers.Condition.TheVariants.{Clean, Repaired, FlagWorn, FlagWornRepaired}
use Rattle.answer.specs.declared.refusals.Refusal.{Refusal}
use Rattle.answer.proofs.Numbered.{not_done, refusal_with, numbered}
use Rattle.answer.proofs.Telling.{told_apart}
use Rattle.decode.specs.Reading.{repaired_at, held_by}
use Rattle.decode.specs.declared.reading.Held.{Held}

-- the bit that was repaired; of a row's flags `Held` says nothing
abbrev repaired_in : Condition → Option ℕ
repaired_in Clean = None
repaired_in (Repaired bit) = Some bit
repaired_in FlagWorn = None
repaired_in (FlagWornRepaired bit) = Some bit

same_bit : (bit : Option ℕ) → repaired_in (repaired_at bit) ≡ bit
same_bit None = refl
same_bit (Some bit) = refl

abbrev taken_back : Answer → Result Held Refusal
taken_back answer =
    if eqb answer.number 0 then Ok (record { value = answer.value; repaired = repaired_in answer.condition }) else Err (refusal_with answer.number)

back : (found : Result Held Refusal) → taken_back (held_by found) ≡ found
back (Ok held) = ap (λ (bit : Option ℕ). Ok (record { value = held.value; repaired = bit })) (same_bit held.repaired)
back (Err refusal) = rw (not_done refusal) (ap Err (numbered refusal))

pub held_by_tells : (a b : Result Held Refusal) → held_by a ≡ held_by b → a ≡ b
held_by_tells = told_apart held_by taken_back back
