-- Pulses are the bits newly set, of every done call that burns.
-- Assumes nothing.
use mathlib.Core.List.{List}
use mathlib.Core.Path.{◌≡◌, refl, sym, ap₂, ◌∙◌, subst}
use Prim.Native.Nat.{ℕ, ◌+◌, ◌<◌}
use native.Mathlib.Omega.{arith}
use borrow.Author.Tests.{eq-eqb}
use lib.Dec.{ltb}
use lib.ListN.{length, length-set}
use Rattle.answer.proofs.Ladders.{never_zero}
use Rattle.row.specs.Writing.{pulses, ecc_written, raw_written}
use Rattle.row.specs.Writing.{Written}
use Rattle.permit.specs.Permission.{may_write}
use Rattle.chip.specs.Slices.{row_at}
use Rattle.chip.specs.declared.state.State.{State}
use Rattle.burn.specs.Burning.{Left, one_row}
use Rattle.access.specs.Judging.{raw}
use Rattle.burn.specs.Writes.{write_raw_number, write_ecc_number, write_raw, write_ecc}
use Rattle.access.proofs.Passing.{whole, call_passed}
use Rattle.repair.specs.Finding.{left_by}
use Rattle.repair.specs.Pass.{look_at, looks, mended_rows, mending_pulses, repair}
use Rattle.repair.proofs.Passing.{let_by, pass_number, pass_done}
use Rattle.repair.proofs.Turns.{in_turn_lem}
use Rattle.form.specs.Entries.{entries_of}
use Rattle.job.specs.Burning.{rehearsed}
use Rattle.job.specs.Jobs.{run_job, rehearse}
use Rattle.judge.specs.Verdicts.{verdict_of}
use Rattle.form.specs.Faults.{rule_of}
use Rattle.form.proofs.Faulty.{order_sound}
use Rattle.job.proofs.Whole.{accepted, whole_job}
use Rattle.lead.specs.Ending.{job_in, end_job}
use Rattle.lead.specs.declared.notes.Note.{Note}
use Rattle.lead.proofs.Ends.{kept_or_run}
use Rattle.laws.specs.Calls.{perform}
use Rattle.laws.specs.Votes.{EachIn}
use Rattle.laws.specs.Writes.{In, newly_set}
use Rattle.laws.specs.Promises.{Burns}
use Rattle.cuts.specs.Pulses.{PulsesAreNewBits}
use Rattle.cuts.proofs.Acceptance.{carried, carried_number}
use Rattle.laws.proofs.Between.{each_self, each_through, each_over, new_none, new_set, new_through}
use Rattle.laws.proofs.CallWrites.{allowed_by, left_rows}
use Rattle.laws.proofs.Entries.{ecc_pulses}
use Rattle.laws.proofs.Mending.{left_keeps, found_pulses}
use Rattle.cuts.proofs.RehearsalCut.{rehearsed_cut}
use Rattle.cuts.proofs.Rising.{sound_rising}

-- what a call leaves, and the pulses that it answers, are of one making
abbrev Counted : List ℕ → Left → Type 0
Counted rows left = left.outcome.answer.pulses ≡ newly_set rows left.rows

-- one row
row_counted : (rows : List ℕ) (state : State) (row number : ℕ) (written : Written) → number ≡ 0 → row < length rows
    → written.pulses ≡ pulses (row_at rows row) written.row → Counted rows (one_row number rows state row written)
row_counted rows state row number written none inside counts =
    rw (eq-eqb number 0 none) (counts ∙ sym (new_set rows row written.row inside))

module _ (rows : List ℕ) (state : State) where
  rehearsal_counted : (job : List ℕ) (limit : ℕ) → (rehearse rows state job limit).outcome.answer.number ≡ 0
      → Counted rows (rehearse rows state job limit)
  unfolding rehearse
  rehearsal_counted job limit done =
      let none = carried_number (verdict_of rows state job) rows state (rehearsed rows limit (entries_of job)) done in
      let parts = accepted rows state job none in
      rw (carried (verdict_of rows state job) rows state (rehearsed rows limit (entries_of job)) none)
      (rehearsed_cut limit (entries_of job) (whole rows parts.0) (sound_rising (rule_of job) (entries_of job) 0 0 (order_sound job parts.1))).1

  -- a job is a rehearsal with enough pulses
  job_counted : (job : List ℕ) → (run_job rows state job).outcome.answer.number ≡ 0 → Counted rows (run_job rows state job)
  job_counted job =
      subst (λ (l : Left). l.outcome.answer.number ≡ 0 → Counted rows l) (whole_job rows state job) (rehearsal_counted job 12288)

  -- and the end of one that came in chunks is that job, or a refusal
  end_counted : (area : List ℕ) (note : Note) → (end_job rows state area note).outcome.answer.number ≡ 0 → Counted rows (end_job rows state area note)
  end_counted area note =
      kept_or_run rows state area note (λ (l : Left). l.outcome.answer.number ≡ 0 → Counted rows l) (λ n none. absurd (never_zero n none))
      (job_counted (job_in area note))

  -- of a repair, each listed row in turn
  repair_counted : (list report : List ℕ) → (repair rows state list report).left.outcome.answer.number ≡ 0
      → Counted rows (repair rows state list report).left
  unfolding looks mended_rows mending_pulses
  repair_counted list report done =
      let none = sym (pass_number rows state list report) ∙ done in
      let by = let_by rows state list report none in
      rw (pass_done rows state list report none)
      (in_turn_lem rows state Summed (λ held long. (each_self held, sym (new_none held)))
      (λ held row others low still rest long.
      let one : In (row_at held row) (left_by (look_at rows state row).found (row_at rows row)) = rw still (left_keeps (look_at rows state row).found (row_at rows row)) in
      let over = each_over held row _ one in
      let later = rest (length-set held row _ ∙ long) in (
        each_through over later.0,
        ap₂ ◌+◌ (found_pulses (may_write state 0 row) (row_at rows row) ∙ rw still refl ∙ sym (new_set held row _ (omega (arith, low, long)))) later.1 ∙ new_through over later.0,
      ))
      list by.1 by.0).1
    where
      Summed : List ℕ → List ℕ → Type 0
      Summed held left =
          length held ≡ 4096
          → EachIn held (mended_rows held (looks rows state left)) × (mending_pulses (looks rows state left) ≡ newly_set held (mended_rows held (looks rows state left)))

  raw_counted : (caller row value : ℕ) → (write_raw rows state caller row value).outcome.answer.number ≡ 0
      → Counted rows (write_raw rows state caller row value)
  unfolding write_raw
  raw_counted caller row value done =
      let none = (left_rows rows state row (write_raw_number rows state caller row value) (raw_written (row_at rows row) value) done).0 in
      row_counted rows state row _ (raw_written (row_at rows row) value) none
      (call_passed rows state caller row raw (ltb 16777215 value) (may_write state caller row) none).0 refl

  ecc_counted : (caller row value : ℕ) → (write_ecc rows state caller row value).outcome.answer.number ≡ 0
      → Counted rows (write_ecc rows state caller row value)
  unfolding write_ecc
  ecc_counted caller row value done =
      let none = (left_rows rows state row (write_ecc_number rows state caller row value) (ecc_written (row_at rows row) value) done).0 in
      row_counted rows state row _ (ecc_written (row_at rows row) value) none (allowed_by rows state caller row value none) (ecc_pulses (row_at rows row) value)

pub pulses_are_new_bits : PulsesAreNewBits
unfolding perform
pulses_are_new_bits chip _ (Burns.raw_write {caller} {row} {value}) done = raw_counted chip.rows chip.state caller row value done
pulses_are_new_bits chip _ (Burns.ecc_write {caller} {row} {value}) done = ecc_counted chip.rows chip.state caller row value done
pulses_are_new_bits chip _ (Burns.job {bytes}) done = job_counted chip.rows chip.state bytes done
pulses_are_new_bits chip _ (Burns.rehearsal {bytes} {limit}) done = rehearsal_counted chip.rows chip.state bytes limit done
pulses_are_new_bits chip _ (Burns.ended {area} {note}) done = end_counted chip.rows chip.state area note done
pulses_are_new_bits chip _ (Burns.repaired {list} {report}) done = repair_counted chip.rows chip.state list report done
