-- The number of every call is that of the first of its tests that holds.
-- Assumes nothing.
use mathlib.Core.Bool.{Bool, true, false}
use mathlib.Core.List.{List}
use mathlib.Core.Path.{◌≡◌, refl, sym, ◌∙◌}
use Prim.Native.Nat.{ℕ}
use borrow.Author.Tests.{eqb-true}
use lib.Dec.{eqb}
use Rattle.answer.specs.Answers.{answered}
use Rattle.decode.specs.Reading.{read_row}
use Rattle.answer.specs.declared.answers.Answer.{Answer}
use Rattle.answer.proofs.Choices.{own_number}
use Rattle.answer.proofs.Ladders.{refusing}
use Rattle.permit.specs.Permission.{may_read}
use Rattle.chip.specs.Slices.{row_at}
use Rattle.chip.specs.declared.state.State.{State}
use Rattle.chip.specs.declared.state.Outcome.{Outcome}
use Rattle.lock.specs.Calls.{advance, show_lock, enter_key}
use Rattle.latch.specs.Resetting.{reset}
use Rattle.burn.specs.Burning.{Left}
use Rattle.access.specs.Judging.{ecc, no_value, row_rungs, call_rungs}
use Rattle.access.specs.Reads.{read_ecc_number, read_raw, read_ecc}
use Rattle.access.specs.Votes.{read_vote}
use Rattle.burn.specs.Writes.{write_raw, write_ecc}
use Rattle.access.proofs.Answering.{read_done}
use Rattle.repair.specs.Pass.{Passed, repair}
use Rattle.job.specs.Jobs.{run_job, rehearse}
use Rattle.lead.specs.Ending.{end_job}
use Rattle.laws.specs.Calls.{a_reset, a_raw_read, an_ecc_read, a_vote, a_raw_write, an_ecc_write, an_advance, a_show, a_key, a_job, a_rehearsal, an_end, a_repair, perform}
use Rattle.laws.specs.Numbers.{number_of, GivenExactly}

abbrev of_answer : Answer → ℕ
of_answer answer = answer.number

abbrev of_outcome : Outcome → ℕ
of_outcome o = o.answer.number

abbrev of_left : Left → ℕ
of_left left = left.outcome.answer.number

abbrev of_passed : Passed → ℕ
of_passed passed = of_left passed.left

-- a row that is read by ECC answers for itself only where the last rung has let it by
ecc_number : (rows : List ℕ) (state : State) (caller row : ℕ)
    → of_answer (answered (read_ecc_number rows state caller row) (read_row (row_at rows row))) ≡ read_ecc_number rows state caller row
unfolding call_rungs row_rungs refusing
ecc_number rows state caller row = go (eqb (read_ecc_number rows state caller row) 0) refl
  where
    go : (t : Bool) → eqb (read_ecc_number rows state caller row) 0 ≡ t
        → of_answer (answered (read_ecc_number rows state caller row) (read_row (row_at rows row))) ≡ read_ecc_number rows state caller row
    go true e =
        let none : read_ecc_number rows state caller row ≡ 0 = eqb-true _ 0 e in
        rw e (read_done (call_rungs rows state caller row ecc no_value (may_read state caller row)) tt (row_at rows row) none ∙ sym none)
    go false e = rw e

pub given_exactly : GivenExactly
unfolding perform number_of reset read_raw read_ecc read_vote write_raw write_ecc advance show_lock enter_key run_job rehearse end_job repair
given_exactly chip a_reset = own_number of_outcome _ _ _ refl refl
given_exactly chip (a_raw_read caller row) = own_number of_answer _ _ _ refl refl
given_exactly chip (an_ecc_read caller row) = ecc_number chip.rows chip.state caller row
given_exactly chip (a_vote caller row count) = own_number of_answer _ _ _ refl refl
given_exactly chip (a_raw_write caller row value) = own_number of_left _ _ _ refl refl
given_exactly chip (an_ecc_write caller row value) = own_number of_left _ _ _ refl refl
given_exactly chip (an_advance caller domain page level) = own_number of_outcome _ _ _ refl refl
given_exactly chip (a_show caller domain page) = own_number of_answer _ _ _ refl refl
given_exactly chip (a_key caller key) = own_number of_outcome _ _ _ refl refl
given_exactly chip (a_job job) = own_number of_left _ _ _ refl refl
given_exactly chip (a_rehearsal job limit) = own_number of_left _ _ _ refl refl
given_exactly chip (an_end area note) = own_number of_left _ _ _ refl refl
given_exactly chip (a_repair list report) = own_number of_passed _ _ _ refl refl
