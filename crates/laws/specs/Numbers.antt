-- The number of each call. Each of these is a list of rungs in document 01's order ("Given exactly when"), where the call is defined.
use Rattle.std.specs.Prelude.{ℕ, ◌≡◌}
use Rattle.lock.specs.Calls.{advance_number, show_number, enter_number}
use Rattle.latch.specs.Resetting.{reset_number}
use Rattle.access.specs.Reads.{read_raw_number, read_ecc_number}
use Rattle.access.specs.Votes.{read_vote_number}
use Rattle.burn.specs.Writes.{write_raw_number, write_ecc_number}
use Rattle.repair.specs.Pass.{repair_number}
use Rattle.judge.specs.Verdicts.{verdict_of}
use Rattle.lead.specs.Ending.{end_verdict}
use Rattle.laws.specs.Calls.{Chip, Call, a_reset, a_raw_read, an_ecc_read, a_vote, a_raw_write, an_ecc_write, an_advance, a_show, a_key, a_job, a_rehearsal, an_end, a_repair, perform}

-- the number of the first of a call's tests that holds, and 0 where none does
unfoldable pub number_of : Chip → Call → ℕ
number_of chip a_reset = reset_number chip.rows
number_of chip (a_raw_read caller row) = read_raw_number chip.rows chip.state caller row
number_of chip (an_ecc_read caller row) = read_ecc_number chip.rows chip.state caller row
number_of chip (a_vote caller row count) = read_vote_number chip.rows chip.state caller row count
number_of chip (a_raw_write caller row value) = write_raw_number chip.rows chip.state caller row value
number_of chip (an_ecc_write caller row value) = write_ecc_number chip.rows chip.state caller row value
number_of chip (an_advance caller domain page level) = advance_number caller domain page level
number_of chip (a_show caller domain page) = show_number caller domain page
number_of chip (a_key caller key) = enter_number caller key
number_of chip (a_job job) = (verdict_of chip.rows chip.state job).number
number_of chip (a_rehearsal job limit) = (verdict_of chip.rows chip.state job).number
number_of chip (an_end area note) = (end_verdict chip.rows chip.state area note).number
number_of chip (a_repair list report) = repair_number chip.rows chip.state list report

-- every call answers it
abbrev pub GivenExactly : Type 0
GivenExactly = (chip : Chip) (call : Call) → (perform chip call).answer.number ≡ number_of chip call
