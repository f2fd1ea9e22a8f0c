-- Burning: no call clears a bit of a row, and none that burns changes anything of the state but the tallies.
-- Assumes nothing.
use mathlib.Core.Bool.{Bool, true, false}
use mathlib.Core.List.{List, [], ◌∷◌}
use mathlib.Core.Path.{◌≡◌, refl, subst}
use Prim.Native.Nat.{ℕ, ◌-◌}
use borrow.Author.Tests.{eqb-true}
use lib.Dec.{eqb, leb}
use Rattle.chip.specs.Slices.{row_at}
use Rattle.chip.specs.States.{with_tallies}
use Rattle.chip.specs.declared.state.State.{State}
use Rattle.burn.specs.Burning.{Left}
use Rattle.burn.specs.Writes.{write_raw_number, write_ecc_number, write_raw, write_ecc}
use Rattle.repair.specs.Pass.{out_of_order, repair_number, look_at, looks, mended_rows, repair}
use Rattle.repair.proofs.Passing.{let_by}
use Rattle.repair.proofs.Turns.{in_turn_lem}
use Rattle.form.specs.Entries.{entries_of}
use Rattle.form.specs.declared.entries.Entry.{Entry}
use Rattle.job.specs.Burning.{Progress, written_over, with_entry, rehearsed}
use Rattle.job.specs.Jobs.{run_job, rehearse}
use Rattle.judge.specs.Verdicts.{verdict_of}
use Rattle.job.proofs.Whole.{whole_job}
use Rattle.lead.specs.Ending.{job_in, end_job}
use Rattle.lead.specs.declared.notes.Note.{Note}
use Rattle.lead.proofs.Ends.{kept_or_run}
use Rattle.laws.specs.Calls.{Chip, Call, a_reset, a_raw_read, an_ecc_read, a_vote, a_raw_write, an_ecc_write, an_advance, a_show, a_key, a_job, a_rehearsal, an_end, a_repair, perform, perform_all}
use Rattle.laws.specs.Promises.{NoBitClears, Burns, BurningLatchesNothing}
use Rattle.laws.specs.Votes.{EachIn}
use Rattle.answer.proofs.Choices.{both_ways}
use Rattle.laws.proofs.Between.{each_self, each_through, each_at, each_over}
use Rattle.laws.proofs.Entries.{entry_keeps, burnt_over_lem}
use Rattle.laws.proofs.Mending.{left_keeps}
use Rattle.laws.proofs.Writes.{keeps_bits}

-- ---- rows

rehearsed_in : (es : List Entry) (rows : List ℕ) (limit : ℕ) → EachIn rows (rehearsed rows limit es).rows
unfolding rehearsed
rehearsed_in [] rows limit = each_self rows
rehearsed_in (e ∷ others) rows limit =
    let old : ℕ = row_at rows e.row in
    let rest : ℕ = limit - (written_over rows e).pulses in
    both_ways (λ (p : Progress). EachIn rows p.rows) (leb (written_over rows e).pulses limit) _ _
    (each_through (each_over rows e.row _ (entry_keeps old e)) (rehearsed_in others (with_entry rows e) rest))
    (each_over rows e.row _ (burnt_over_lem limit old (written_over rows e).row))

-- the listed rows in turn
pub mended_in : (rows : List ℕ) (state : State) (list : List ℕ) → out_of_order 0 list ≡ false → EachIn rows (mended_rows rows (looks rows state list))
unfolding looks mended_rows
mended_in rows state =
    in_turn_lem rows state (λ (held list : List ℕ). EachIn held (mended_rows held (looks rows state list))) each_self
    (λ held row others low still rest.
    each_through (each_over held row _ (rw still (left_keeps (look_at rows state row).found (row_at rows row)))) rest)

-- ---- calls

module _ (rows : List ℕ) (state : State) where
  -- what a call that burns leaves: no bit cleared, and the state with other tallies at most
  abbrev Burnt : Left → Type 0
  Burnt l = EachIn rows l.rows × (l.outcome.state ≡ with_tallies state l.outcome.state.tallies)

  rehearsal_burns : (job : List ℕ) (limit : ℕ) → Burnt (rehearse rows state job limit)
  unfolding rehearse
  rehearsal_burns job limit =
      both_ways Burnt (eqb (verdict_of rows state job).number 0) _ _
      (rehearsed_in (entries_of job) rows limit, refl) (each_self rows, refl)

  -- a job is a rehearsal with enough pulses
  job_burns : (job : List ℕ) → Burnt (run_job rows state job)
  job_burns job = subst Burnt (whole_job rows state job) (rehearsal_burns job 12288)

  -- the end of one that came in chunks is that job, or a refusal
  end_burns : (area : List ℕ) (note : Note) → Burnt (end_job rows state area note)
  end_burns area note = kept_or_run rows state area note Burnt (λ number. (each_self rows, refl)) (job_burns (job_in area note))

  repair_burns : (list report : List ℕ) → Burnt (repair rows state list report).left
  unfolding repair
  repair_burns list report = go (eqb (repair_number rows state list report) 0) refl
    where
      go : (t : Bool) → eqb (repair_number rows state list report) 0 ≡ t → Burnt (repair rows state list report).left
      go true none = rw none (mended_in rows state list (let_by rows state list report (eqb-true _ 0 none)).1, refl)
      go false some = rw some (each_self rows, refl)

  raw_burns : (caller row value : ℕ) → Burnt (write_raw rows state caller row value)
  unfolding write_raw
  raw_burns caller row value =
      both_ways Burnt (eqb (write_raw_number rows state caller row value) 0) _ _
      (each_over rows row _ (keeps_bits (row_at rows row) value).1, refl) (each_self rows, refl)

  ecc_burns : (caller row value : ℕ) → Burnt (write_ecc rows state caller row value)
  unfolding write_ecc
  ecc_burns caller row value =
      both_ways Burnt (eqb (write_ecc_number rows state caller row value) 0) _ _
      (each_over rows row _ (keeps_bits (row_at rows row) value).0, refl) (each_self rows, refl)

call_in : (chip : Chip) (call : Call) → EachIn chip.rows (perform chip call).chip.rows
unfolding perform
call_in chip a_reset = each_self chip.rows
call_in chip (a_raw_read caller row) = each_self chip.rows
call_in chip (an_ecc_read caller row) = each_self chip.rows
call_in chip (a_vote caller row count) = each_self chip.rows
call_in chip (a_raw_write caller row value) = (raw_burns chip.rows chip.state caller row value).0
call_in chip (an_ecc_write caller row value) = (ecc_burns chip.rows chip.state caller row value).0
call_in chip (an_advance caller domain page level) = each_self chip.rows
call_in chip (a_show caller domain page) = each_self chip.rows
call_in chip (a_key caller key) = each_self chip.rows
call_in chip (a_job job) = (job_burns chip.rows chip.state job).0
call_in chip (a_rehearsal job limit) = (rehearsal_burns chip.rows chip.state job limit).0
call_in chip (an_end area note) = (end_burns chip.rows chip.state area note).0
call_in chip (a_repair list report) = (repair_burns chip.rows chip.state list report).0

calls_in : (chip : Chip) (calls : List Call) → EachIn chip.rows (perform_all chip calls).rows
unfolding perform_all
calls_in chip [] = each_self chip.rows
calls_in chip (call ∷ others) = each_through (call_in chip call) (calls_in (perform chip call).chip others)

pub no_bit_clears : NoBitClears
no_bit_clears chip calls row = each_at row (calls_in chip calls)

pub burning_latches_nothing : BurningLatchesNothing
unfolding perform
burning_latches_nothing chip _ (Burns.raw_write {caller} {row} {value}) = (raw_burns chip.rows chip.state caller row value).1
burning_latches_nothing chip _ (Burns.ecc_write {caller} {row} {value}) = (ecc_burns chip.rows chip.state caller row value).1
burning_latches_nothing chip _ (Burns.job {bytes}) = (job_burns chip.rows chip.state bytes).1
burning_latches_nothing chip _ (Burns.rehearsal {bytes} {limit}) = (rehearsal_burns chip.rows chip.state bytes limit).1
burning_latches_nothing chip _ (Burns.ended {area} {note}) = (end_burns chip.rows chip.state area note).1
burning_latches_nothing chip _ (Burns.repaired {list} {report}) = (repair_burns chip.rows chip.state list report).1
