-- Every call, as one: a chip and a call to what is answered and the chip that is left. It is built of the definitions that the
-- contracts of the entry points name.
use Rattle.std.specs.Prelude.{ℕ, List, [], ◌∷◌}
use Rattle.answer.specs.declared.answers.Answer.{Answer}
use Rattle.chip.specs.declared.state.State.{State}
use Rattle.chip.specs.declared.state.Outcome.{Outcome}
use Rattle.lock.specs.Calls.{advance, show_lock, enter_key}
use Rattle.latch.specs.Resetting.{reset}
use Rattle.access.specs.Reads.{read_raw, read_ecc}
use Rattle.access.specs.Votes.{read_vote}
use Rattle.burn.specs.Burning.{Left}
use Rattle.burn.specs.Writes.{write_raw, write_ecc}
use Rattle.repair.specs.Pass.{repair}
use Rattle.job.specs.Jobs.{run_job, rehearse}
use Rattle.lead.specs.Ending.{end_job}
use Rattle.lead.specs.declared.notes.Note.{Note}

-- a chip: its row slice, of any length, and its latched state
pub record Chip : Type 0 where
  pub rows : List ℕ
  pub state : State

-- every call on a chip, with whatever comes in
pub data Call : Type 0 where
  a_reset : Call
  a_raw_read an_ecc_read : (caller row : ℕ) → Call
  a_vote : (caller row count : ℕ) → Call
  a_raw_write an_ecc_write : (caller row value : ℕ) → Call
  an_advance : (caller domain page level : ℕ) → Call
  a_show : (caller domain page : ℕ) → Call
  a_key : (caller : ℕ) (key : List ℕ) → Call
  a_job : (job : List ℕ) → Call
  a_rehearsal : (job : List ℕ) (limit : ℕ) → Call
  an_end : (area : List ℕ) (note : Note) → Call
  a_repair : (list report : List ℕ) → Call

-- what a call answers, and the chip that it leaves
pub record Result : Type 0 where
  pub answer : Answer
  pub chip : Chip

-- a call that changes nothing
abbrev pub only : Chip → Answer → Result
only chip answer = record { answer = answer; chip = chip }

-- a call that can change the state
abbrev pub stated : Chip → Outcome → Result
stated chip o = record { answer = o.answer; chip = record { rows = chip.rows; state = o.state } }

-- a call that can change the state and the rows
abbrev pub leaving : Left → Result
leaving l = record { answer = l.outcome.answer; chip = record { rows = l.rows; state = l.outcome.state } }

-- a call performed
unfoldable pub perform : Chip → Call → Result
perform chip a_reset = stated chip (reset chip.rows chip.state)
perform chip (a_raw_read caller row) = only chip (read_raw chip.rows chip.state caller row)
perform chip (an_ecc_read caller row) = only chip (read_ecc chip.rows chip.state caller row)
perform chip (a_vote caller row count) = only chip (read_vote chip.rows chip.state caller row count)
perform chip (a_raw_write caller row value) = leaving (write_raw chip.rows chip.state caller row value)
perform chip (an_ecc_write caller row value) = leaving (write_ecc chip.rows chip.state caller row value)
perform chip (an_advance caller domain page level) = stated chip (advance chip.state caller domain page level)
perform chip (a_show caller domain page) = only chip (show_lock chip.state caller domain page)
perform chip (a_key caller key) = stated chip (enter_key chip.state caller key)
perform chip (a_job job) = leaving (run_job chip.rows chip.state job)
perform chip (a_rehearsal job limit) = leaving (rehearse chip.rows chip.state job limit)
perform chip (an_end area note) = leaving (end_job chip.rows chip.state area note)
perform chip (a_repair list report) = leaving (repair chip.rows chip.state list report).left

-- calls performed one after the other
unfoldable pub perform_all : Chip → List Call → Chip
perform_all chip [] = chip
perform_all chip (call ∷ others) = perform_all (perform chip call).chip others

-- and what each of them answers
unfoldable pub answers_of : Chip → List Call → List Answer
answers_of chip [] = []
answers_of chip (call ∷ others) = (perform chip call).answer ∷ answers_of (perform chip call).chip others
