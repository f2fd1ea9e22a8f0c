-- What the contracts leave no room for (document 01): for each call what the `ensures` of its entry point says of the result.
use Rattle.std.specs.Prelude.{◌≡◌}
use Rattle.chip.specs.declared.state.Outcome.{Outcome}
use Rattle.lock.specs.Calls.{advance, show_lock, enter_key}
use Rattle.latch.specs.Resetting.{reset}
use Rattle.access.specs.Reads.{read_raw, read_ecc}
use Rattle.access.specs.Votes.{read_vote}
use Rattle.burn.specs.Writes.{write_raw, write_ecc}
use Rattle.repair.specs.Pass.{repair}
use Rattle.job.specs.Jobs.{run_job, rehearse}
use Rattle.lead.specs.Ending.{end_job}
use Rattle.laws.specs.Calls.{Chip, Call, Result, a_reset, a_raw_read, an_ecc_read, a_vote, a_raw_write, an_ecc_write, an_advance, a_show, a_key, a_job, a_rehearsal, an_end, a_repair, perform}

-- the outcome that a call hands back: its answer, and the state
abbrev pub outcome_of : Result → Outcome
outcome_of r = record { answer = r.answer; state = r.chip.state }

-- what the contract of a call allows. Rows that are not lent to be changed, and a state that is not handed back, stay with the caller
unfoldable pub Allows : Chip → Call → Result → Type 0
Allows chip a_reset r = (outcome_of r ≡ reset chip.rows chip.state) × (r.chip.rows ≡ chip.rows)
Allows chip (a_raw_read caller row) r = (r.answer ≡ read_raw chip.rows chip.state caller row) × (r.chip ≡ chip)
Allows chip (an_ecc_read caller row) r = (r.answer ≡ read_ecc chip.rows chip.state caller row) × (r.chip ≡ chip)
Allows chip (a_vote caller row count) r = (r.answer ≡ read_vote chip.rows chip.state caller row count) × (r.chip ≡ chip)
Allows chip (a_raw_write caller row value) r =
    (outcome_of r ≡ (write_raw chip.rows chip.state caller row value).outcome)
    × (r.chip.rows ≡ (write_raw chip.rows chip.state caller row value).rows)
Allows chip (an_ecc_write caller row value) r =
    (outcome_of r ≡ (write_ecc chip.rows chip.state caller row value).outcome)
    × (r.chip.rows ≡ (write_ecc chip.rows chip.state caller row value).rows)
Allows chip (an_advance caller domain page level) r =
    (outcome_of r ≡ advance chip.state caller domain page level) × (r.chip.rows ≡ chip.rows)
Allows chip (a_show caller domain page) r = (r.answer ≡ show_lock chip.state caller domain page) × (r.chip ≡ chip)
Allows chip (a_key caller key) r = (outcome_of r ≡ enter_key chip.state caller key) × (r.chip.rows ≡ chip.rows)
Allows chip (a_job job) r =
    (outcome_of r ≡ (run_job chip.rows chip.state job).outcome) × (r.chip.rows ≡ (run_job chip.rows chip.state job).rows)
Allows chip (a_rehearsal job limit) r =
    (outcome_of r ≡ (rehearse chip.rows chip.state job limit).outcome)
    × (r.chip.rows ≡ (rehearse chip.rows chip.state job limit).rows)
Allows chip (an_end area note) r =
    (outcome_of r ≡ (end_job chip.rows chip.state area note).outcome) × (r.chip.rows ≡ (end_job chip.rows chip.state area note).rows)
Allows chip (a_repair list report) r =
    (outcome_of r ≡ (repair chip.rows chip.state list report).left.outcome)
    × (r.chip.rows ≡ (repair chip.rows chip.state list report).left.rows)

-- any two results that the contract of a call allows are equal
abbrev pub NoRoom : Type 0
NoRoom = (chip : Chip) (call : Call) (a b : Result) → Allows chip call a → Allows chip call b → a ≡ b

-- and it allows the one of which all is promised here
abbrev pub PromisedIsAllowed : Type 0
PromisedIsAllowed = (chip : Chip) (call : Call) → Allows chip call (perform chip call)
