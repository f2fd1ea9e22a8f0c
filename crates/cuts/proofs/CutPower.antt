-- Demand 3: a job cut any number of times leaves, once it is run to its end, the rows of the uncut run, for the same pulses in all.
-- Assumes nothing.
use mathlib.Core.List.{List}
use mathlib.Core.Bool.{Bool, true, false}
use mathlib.Core.Path.{◌≡◌, refl, sym, ap, ap₂, ◌∙◌}
use Prim.Native.Nat.{ℕ, ◌+◌, ◌≤◌}
use native.Mathlib.Omega.{arith}
use borrow.Author.Tests.{eqb-true, leb-true, leb-false}
use lib.Dec.{eqb, leb}
use lib.ListN.{length}
use Rattle.chip.specs.declared.state.State.{State}
use Rattle.latch.specs.Resetting.{reset_number}
use Rattle.burn.specs.Burning.{Left}
use Rattle.form.specs.Entries.{version_of, entries_of}
use Rattle.form.specs.declared.entries.Entry.{Entry}
use Rattle.job.specs.Burning.{written_over, with_entry, all_written}
use Rattle.job.specs.Jobs.{run_job}
use Rattle.judge.specs.Verdicts.{verdict_of}
use Rattle.judge.specs.Verdicts.{Verdict}
use Rattle.laws.specs.Votes.{EachIn}
use Rattle.chip.specs.Slices.{row_at}
use Rattle.cuts.specs.Cuts.{Keyed, ready, Bytes, accepted_on, CutOf, Cuts, Completes, NoLockPulse, CutPower}
use Rattle.cuts.specs.Versions.{DataRows, WithoutLocks}
use Rattle.laws.specs.Writes.{newly_set}
use Rattle.laws.proofs.Between.{each_self, each_through, each_length, each_set, each_over, each_held, new_through, new_none}
use Rattle.cuts.proofs.Rewriting.{Admitted, with_keeps, all_keep, outside, kept_apart, all_pulses_lem, again}
use Rattle.cuts.proofs.DataRows.{data_apart, sound_data}
use Rattle.cuts.proofs.Agreement.{AgreeToWrite, same_verdict}
use Rattle.laws.proofs.Latches.{reset_done}
use Rattle.cuts.proofs.Ready.{ready_agree}
use Rattle.cuts.proofs.Ranges.{range_under, range_written}
use Rattle.cuts.proofs.Acceptance.{ran, Accepted, accepted_verdict, accepted_on_lem}

-- ---- what cuts leave lies between

pub cut_between : {rows left : List ℕ} {es : List Entry} → CutOf rows es left → EachIn rows left × EachIn left (all_written rows es)
unfolding all_written
cut_between (CutOf.within {rows} {e} {others} row over under) = (
  each_over rows e.row row over,
  each_through (each_set e.row row (written_over rows e).row (each_self rows) under) (all_keep others (with_entry rows e)),
)
cut_between (CutOf.past {rows} {e} cut) =
    let rest = cut_between cut in
    (each_through (with_keeps rows e) rest.0, rest.1)
cut_between (CutOf.at_end {rows}) = (each_self rows, each_self rows)

pub cuts_between : {rows left : List ℕ} {state : State} {es : List Entry} {spent : ℕ} → length rows ≡ 4096 → Admitted rows state 0 es
    → Cuts es rows left spent → EachIn rows left × EachIn left (all_written rows es) × (spent ≡ newly_set rows left)
cuts_between {rows} {es} whole admitted Cuts.none = (each_self rows, all_keep es rows, sym (new_none rows))
cuts_between {rows} {es} whole admitted (Cuts.once {between} cut cuts) =
    let first = cut_between cut in
    let next = again es whole admitted first.0 first.1 in
    let rest = cuts_between (sym (each_length first.0) ∙ whole) next.0 cuts in (
      each_through first.0 rest.0,
      rw next.1 at rest.1,
      ap (λ (spent : ℕ). newly_set rows between + spent) rest.2 ∙ new_through first.0 rest.0,
    )

-- ---- a job accepted is accepted again over rows between, and leaves the same

module _ {rows left : List ℕ} {state : State} {job : List ℕ} (a : Accepted rows state job)
    (over : EachIn rows left) (under : EachIn left (all_written rows (entries_of job))) where
  accepted_again : Accepted left state job
  accepted_again = record {
    whole = sym (each_length over) ∙ a.whole;
    small = range_under under (range_written (entries_of job) a.admitted a.small);
    sound = a.sound;
    admitted = (again (entries_of job) a.whole a.admitted over under).0;
  }

  same_rows : all_written left (entries_of job) ≡ all_written rows (entries_of job)
  same_rows = (again (entries_of job) a.whole a.admitted over under).1

-- its pulses are the bits newly set
pulses_new : {rows : List ℕ} {state : State} {job : List ℕ} → Accepted rows state job
    → (run_job rows state job).outcome.answer.pulses ≡ newly_set rows (all_written rows (entries_of job))
pulses_new {rows} {state} {job} a =
    ap (λ (l : Left). l.outcome.answer.pulses) (ran rows state job (accepted_verdict a))
    ∙ all_pulses_lem (entries_of job) a.whole a.admitted

-- ---- after cuts

module _ (rows left : List ℕ) (before later : State) (key : Keyed) (job : List ℕ) (spent : ℕ)
    (bytes : Bytes job) (accept : accepted_on rows before key job) (cuts : Cuts (entries_of job) rows left spent) where
  abbrev first : Accepted rows (ready rows before key) job
  first = accepted_on_lem rows before key job bytes accept

  pub cuts_lie : EachIn rows left × EachIn left (all_written rows (entries_of job)) × (spent ≡ newly_set rows left)
  cuts_lie = cuts_between first.whole first.admitted cuts

  -- by the state of the first run the job would be accepted, and leave the same rows
  pub still : Accepted left (ready rows before key) job
  still = accepted_again first cuts_lie.0 cuts_lie.1

  pub still_leaves : all_written left (entries_of job) ≡ all_written rows (entries_of job)
  still_leaves = same_rows first cuts_lie.0 cuts_lie.1

  -- the reset that follows is done
  pub reset_again : reset_number left ≡ 0
  reset_again = reset_done left still.whole still.small

  -- where the job is accepted again, it completes
  pub completes : (verdict_of left (ready left later key) job).number ≡ 0 → Completes rows left before later key job spent
  completes verdict =
      let run = ran left (ready left later key) job verdict in (
        (reset_again, ap (λ (l : Left). l.outcome.answer.number) run),
        ap (λ (l : Left). l.rows) run ∙ still_leaves,
        ap (λ (l : Left). l.rows) (ran rows (ready rows before key) job (accepted_verdict first)),
        ap₂ ◌+◌ cuts_lie.2 (ap (λ (l : Left). l.outcome.answer.pulses) run ∙ all_pulses_lem (entries_of job) still.whole still.admitted ∙ ap (newly_set left) still_leaves)
            ∙ new_through cuts_lie.0 cuts_lie.1
            ∙ sym (pulses_new first),
      )

  -- and it is accepted again where no lock pulse was given
  pub unlocked : NoLockPulse rows left → Completes rows left before later key job spent
  unlocked none =
      let agree : AgreeToWrite 0 (ready left later key) (ready rows before key) =
      ready_agree rows left before later key accept.0 reset_again (λ k high. held k high (leb 0xf80 k) refl) in
      completes
      (ap (λ (v : Verdict). v.number) (same_verdict left (ready left later key) (ready rows before key) agree job) ∙ accepted_verdict still)
    where
      held : (k : ℕ) → 0xf40 ≤ k → (t : Bool) → leb 0xf80 k ≡ t → row_at left k ≡ row_at rows k
      held k high true lock = none k (leb-true 0xf80 k lock)
      held k high false kept =
          each_held k cuts_lie.0 cuts_lie.1
          (outside rows (entries_of job) k (kept_apart (entries_of job) k first.admitted high (leb-false 0xf80 k kept)))

  -- none is given where all rows are data rows
  pub data_alone : DataRows (entries_of job) → NoLockPulse rows left
  data_alone rows_of_lem k lock =
      each_held k cuts_lie.0 cuts_lie.1 (outside rows (entries_of job) k (data_apart (entries_of job) k rows_of_lem (omega arith)))

pub without_locks : WithoutLocks
without_locks rows left before later key job spent bytes accept cuts rows_of_lem =
    unlocked rows left before later key job spent bytes accept cuts
    (data_alone rows left before later key job spent bytes accept cuts rows_of_lem)

pub cut_power : CutPower
cut_power rows left before later key job spent bytes accept cuts before-locks = go (eqb (version_of job) 2) refl
  where
    go : (t : Bool) → eqb (version_of job) 2 ≡ t → Completes rows left before later key job spent
    go true two = unlocked rows left before later key job spent bytes accept cuts (before-locks (eqb-true (version_of job) 2 two))
    go false other =
        without_locks rows left before later key job spent bytes accept cuts
        (sound_data job (accepted_on_lem rows before key job bytes accept).sound other)
