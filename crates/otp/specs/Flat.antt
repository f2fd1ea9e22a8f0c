-- What C gets of an answer, an outcome and an entry: the same, with the condition, the polarity and what is found as numbers.
use Rattle.answer.specs.Conditions.{condition_number, repaired_bit, polarity_number, disagree_number}
use Rattle.answer.specs.declared.answers.Answer.{Answer}
use Rattle.chip.specs.declared.state.Outcome.{Outcome}
use Rattle.lead.specs.declared.taking.Taken.{Taken}
use Rattle.reader.specs.Numbers.{found_number, end_number, found_entry}
use Rattle.reader.specs.declared.handing.Handed.{Handed}
use Rattle.otp.specs.declared.flat.FlatAnswer.{FlatAnswer}
use Rattle.otp.specs.declared.flat.FlatEntry.{FlatEntry}
use Rattle.otp.specs.declared.flat.FlatOutcome.{FlatOutcome}
use Rattle.otp.specs.declared.flat.FlatTaken.{FlatTaken}

-- the answer, with its condition as three numbers and its polarity as one
unfoldable pub flat_answer : Answer → FlatAnswer
flat_answer answer = record {
  number = answer.number;
  value = answer.value;
  condition = condition_number answer.condition;
  bit = repaired_bit answer.condition;
  polarity = polarity_number answer.polarity;
  disagree = disagree_number answer.condition;
  place = answer.place;
  pulses = answer.pulses;
}

-- the outcome, with that answer and the same state
unfoldable pub flat_outcome : Outcome → FlatOutcome
flat_outcome outcome = record { answer = flat_answer outcome.answer; state = outcome.state }

-- what a chunk is answered, with that answer and the same note
unfoldable pub flat_taken : Taken → FlatTaken
flat_taken taken = record { answer = flat_answer taken.answer; note = taken.note }

-- what stands at a place of a job, with its number, whether that is the end, and the entry
unfoldable pub flat_entry : Handed → FlatEntry
flat_entry handed = record {
  at = handed.at;
  number = found_number handed.found;
  end = end_number handed.found;
  row = (found_entry handed.found).row;
  kind = (found_entry handed.found).kind;
  value = (found_entry handed.found).value;
}
