-- An accepted job: what its verdict says of each entry and the other way round, what it leaves, and all that holds on a chip just reset.
-- Assumes nothing.
use mathlib.Core.Bool.{Bool, true, false}
use mathlib.Core.List.{List}
use mathlib.Core.Path.{◌≡◌, refl, ap, ◌∙◌}
use Prim.Native.Nat.{ℕ, zero, suc, ◌+◌, ◌*◌, ◌^◌, ◌<◌}
use native.Mathlib.Omega.{arith}
use borrow.Author.Tests.{eqb-true, eq-eqb}
use lib.Dec.{eqb}
use lib.ListN.{length}
use Rattle.answer.specs.Rungs.{first_of}
use Rattle.permit.specs.Permission.{may_write}
use Rattle.chip.specs.declared.state.State.{State}
use Rattle.latch.specs.Resetting.{all_in_range}
use Rattle.burn.specs.Burning.{burnt}
use Rattle.access.proofs.Passing.{whole}
use Rattle.form.specs.Entries.{count_of, entry_at, entries_from, entries_of}
use Rattle.form.specs.Faults.{row_fault, order_faults, rule_of, fault_of, Sound}
use Rattle.form.specs.declared.entries.Entry.{Entry}
use Rattle.job.specs.Burning.{Progress, all_written, all_pulses, all_gained}
use Rattle.job.specs.Jobs.{carried_out, run_job}
use Rattle.judge.specs.Verdicts.{entry_rungs, all_rungs, verdict_of}
use Rattle.judge.specs.Verdicts.{Verdict}
use Rattle.form.proofs.Faulty.{both_sound, order_sound}
use Rattle.form.proofs.Placed.{row_kept}
use Rattle.judge.proofs.Upward.{entry_next, entry_none}
use Rattle.job.proofs.Whole.{finished, accepted}
use Rattle.cuts.specs.Cuts.{Keyed, ready, Bytes, accepted_on}
use Rattle.laws.proofs.Latches.{reset_passed}
use Rattle.cuts.proofs.Rewriting.{Admitted}

-- ---- the verdict, entry by entry

value_small : (job : List ℕ) → Bytes job → (i : ℕ) → (entry_at job i).value < 2 ^ 24
unfolding entry_at
value_small job bytes i =
    let at : ℕ = 7 + 6 * i + 3 in
    omega (arith, bytes at, bytes (at + 1), bytes (at + 2))

module _ (rows : List ℕ) (state : State) where
  judged_admitted : (job : List ℕ) → Bytes job → (version n i at least : ℕ) → order_faults version at least (entries_from job i n) ≡ Sound
      → first_of (all_rungs rows state at (entries_from job i n)) ≡ 0 → Admitted rows state least (entries_from job i n)
  unfolding entries_from order_faults all_rungs entry_rungs
  judged_admitted job bytes version zero i at least order done = Admitted.none
  judged_admitted job bytes version (suc n) i at least order done =
      let e : Entry = entry_at job i in
      let rising = both_sound (row_fault version at least e) (order_faults version (at + 1) (e.row + 1) (entries_from job (suc i) n)) order in
      let inside = row_kept version at least e rising.0 in
      let judged =
      entry_none rows (may_write state 0 e.row) at e (all_rungs rows state (at + 1) (entries_from job (suc i) n)) done in
      Admitted.more {e = e} inside.1 inside.0 (value_small job bytes i) judged.0
      (judged_admitted job bytes version n (suc i) (at + 1) (e.row + 1) rising.1 judged.1)

  admitted_judged : {least : ℕ} {es : List Entry} (at : ℕ) → Admitted rows state least es → first_of (all_rungs rows state at es) ≡ 0
  unfolding all_rungs entry_rungs
  admitted_judged at Admitted.none = refl
  admitted_judged at (Admitted.more {e} {others} low high small done rest) =
      ap (λ (v : Verdict). v.number) (entry_next rows (may_write state 0 e.row) at e (all_rungs rows state (at + 1) others) done)
      ∙ admitted_judged (at + 1) rest

-- ---- what is carried out

module _ (verdict : Verdict) (rows : List ℕ) (state : State) (done : Progress) where
  pub carried_number : (carried_out verdict rows state done).outcome.answer.number ≡ 0 → verdict.number ≡ 0
  carried_number answered = go (eqb verdict.number 0) refl
    where
      go : (t : Bool) → eqb verdict.number 0 ≡ t → verdict.number ≡ 0
      go true none = eqb-true verdict.number 0 none
      go false some = rw some at answered

  pub carried : verdict.number ≡ 0
      → carried_out verdict rows state done
      ≡ burnt state done.gained done.rows done.place done.pulses
  carried none = rw (eq-eqb verdict.number 0 none)

module _ (rows : List ℕ) (state : State) (job : List ℕ) where
  pub ran_number : (run_job rows state job).outcome.answer.number ≡ 0 → (verdict_of rows state job).number ≡ 0
  unfolding run_job
  ran_number = carried_number (verdict_of rows state job) rows state (finished rows (entries_of job) (count_of job))

  pub ran : (verdict_of rows state job).number ≡ 0
      → run_job rows state job
      ≡ burnt state (all_gained rows (entries_of job)) (all_written rows (entries_of job)) (count_of job) (all_pulses rows (entries_of job))
  unfolding run_job
  ran = carried (verdict_of rows state job) rows state (finished rows (entries_of job) (count_of job))

-- ---- on a chip just reset

pub record Accepted (rows : List ℕ) (state : State) (job : List ℕ) : Type 0 where
  pub whole : length rows ≡ 4096
  pub small : all_in_range rows ≡ true
  pub sound : fault_of job ≡ Sound
  pub admitted : Admitted rows state 0 (entries_of job)

pub accepted_verdict : {rows : List ℕ} {state : State} {job : List ℕ} → Accepted rows state job → (verdict_of rows state job).number ≡ 0
unfolding verdict_of
accepted_verdict {rows} {state} a =
    rw (eq-eqb (length rows) 4096 a.whole, a.sound) (admitted_judged rows state 0 a.admitted)

-- what an accepted job has passed, on any state
pub accepted_by : (rows : List ℕ) (state : State) (job : List ℕ) → Bytes job → (verdict_of rows state job).number ≡ 0
    → (length rows ≡ 4096) × (fault_of job ≡ Sound) × Admitted rows state 0 (entries_of job)
accepted_by rows state job bytes done =
    let parts = accepted rows state job done in
    (whole rows parts.0, parts.1, judged_admitted rows state job bytes (rule_of job) _ 0 0 0 (order_sound job parts.1) parts.2)

pub accepted_on_lem : (rows : List ℕ) (before : State) (key : Keyed) (job : List ℕ) → Bytes job → accepted_on rows before key job
    → Accepted rows (ready rows before key) job
accepted_on_lem rows before key job bytes accept =
    let state : State = ready rows before key in
    let slice = reset_passed rows accept.0 in
    let parts = accepted_by rows state job bytes (ran_number rows state job accept.1) in
    record {
      whole = slice.0;
      small = slice.1;
      sound = parts.1;
      admitted = parts.2;
    }
