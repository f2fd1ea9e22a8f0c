-- What every call answers (document 01, "The numbers we answer with"). No answer is made anywhere else.
use Rattle.std.specs.Prelude.{ℕ, eqb}
use Rattle.std.specs.Prelude.{if◌then◌else◌}
use Rattle.answer.specs.declared.answers.Answer.{Answer}
use Rattle.answer.specs.declared.answers.Condition.{Condition}
use Rattle.answer.specs.declared.answers.Condition.TheVariants.{Clean}
use Rattle.answer.specs.declared.answers.Polarity.{Polarity}
use Rattle.answer.specs.declared.answers.Polarity.TheVariants.{Plain}

-- every refusal returns its number, value 0, condition clean, plain, and 0 pulses; the place is that of a job's refused entry
abbrev pub refused_at : ℕ → ℕ → Answer
refused_at number place = record { number = number; value = 0; condition = Clean; polarity = Plain; place = place; pulses = 0 }

-- the place is 0 outside jobs and rehearsals
abbrev pub refused : ℕ → Answer
refused number = refused_at number 0

-- an ECC read that is done returns its value, the condition of the row, and which polarity the row was in
abbrev pub found_in : Polarity → ℕ → Condition → Answer
found_in polarity value condition =
    record { number = 0; value = value; condition = condition; polarity = polarity; place = 0; pulses = 0 }

-- found in a plain row
abbrev pub found : ℕ → Condition → Answer
found value condition = found_in Plain value condition

-- any other read or vote returns its value and a show its level; the condition is clean, and plain, outside ECC reads
abbrev pub told : ℕ → Answer
told value = found value Clean

-- all other calls return value 0
abbrev pub done : Answer
done = told 0

-- done writes, jobs and rehearsals return their pulses, and a job or rehearsal its place
abbrev pub spent : ℕ → ℕ → Answer
spent place pulses = record { number = 0; value = 0; condition = Clean; polarity = Plain; place = place; pulses = pulses }

-- number 0 is done; any other is a refusal
abbrev pub answered : ℕ → Answer → Answer
answered number finished = if eqb number 0 then finished else refused number
