-- Request 2026-09: version 1 stays what it was, and a version 2 job may lock up after itself.
use Rattle.std.specs.Prelude.{ℕ, ◌≤◌, ◌<◌, List, [], ◌∷◌, ◌⊎◌, ◌≡◌, eqb}
use Rattle.answer.specs.Rungs.{◌when◌}
use Rattle.chip.specs.Slices.{row_at, not_whole}
use Rattle.chip.specs.declared.state.State.{State}
use Rattle.latch.specs.Resetting.{reset_number}
use Rattle.form.specs.Entries.{version_of, entries_of}
use Rattle.form.specs.Faults.{fault_number, fault_under}
use Rattle.form.specs.declared.entries.Entry.{Entry}
use Rattle.judge.specs.Verdicts.{all_rungs, verdict}
use Rattle.judge.specs.Verdicts.{Verdict}
use Rattle.job.specs.Burning.{rehearsed}
use Rattle.job.specs.Jobs.{carried_out, ran_as, run_job, rehearse}
use Rattle.cuts.specs.Cuts.{Keyed, ready, Bytes, accepted_on, Cuts, Completes}

-- a job judged by the rule of version 1, whatever its version: the rule before the request
abbrev pub verdict_as_one : List ℕ → State → List ℕ → Verdict
verdict_as_one rows state job =
    verdict
    (1 when not_whole rows ∷ 10 when eqb (fault_number (fault_under 1 job)) 10 ∷ 11 when eqb (fault_number (fault_under 1 job)) 11
    ∷ all_rungs rows state 0 (entries_of job))

-- where the version is not 2, a run and a rehearsal are those of that rule: number, place, pulses, rows and state
abbrev pub VersionOneStays : Type 0
VersionOneStays =
    (rows : List ℕ) (state : State) (job : List ℕ) (limit : ℕ) → (version_of job ≡ 2 → ⊥)
    → (run_job rows state job ≡ ran_as (verdict_as_one rows state job) rows state job)
    × (rehearse rows state job limit ≡ carried_out (verdict_as_one rows state job) rows state (rehearsed rows limit (entries_of job)))

-- entries of data rows alone
pub data DataRows : List Entry → Type 0 where
  none : DataRows []
  more : {e : Entry} {others : List Entry} → e.row < 0xf40 → DataRows others → DataRows (e ∷ others)

-- a job with no lock rows, of either version, has all of demand 3
abbrev pub WithoutLocks : Type 0
WithoutLocks =
    (rows left : List ℕ) (before later : State) (key : Keyed) (job : List ℕ) (spent : ℕ)
    → Bytes job → accepted_on rows before key job → Cuts (entries_of job) rows left spent → DataRows (entries_of job)
    → Completes rows left before later key job spent

-- a lock pulse was given: some lock row holds what it did not
abbrev pub LockPulse : List ℕ → List ℕ → Type 0
LockPulse rows left = (row : ℕ) × (0xf80 ≤ row) × (row_at left row ≡ row_at rows row → ⊥)

-- every data row holds the same
abbrev pub SameData : List ℕ → List ℕ → Type 0
SameData a b = (row : ℕ) → row < 0xf40 → row_at a row ≡ row_at b row

-- a job accepted on a chip just reset and cut as in demand 3, a lock pulse among those given: every data row is finished; the reset that
-- follows is done; running the job again, with the same key, changes no data row; and it is refused with 7, or completes
abbrev pub CutAfterLocks : Type 0
CutAfterLocks =
    (rows left : List ℕ) (before later : State) (key : Keyed) (job : List ℕ) (spent : ℕ)
    → Bytes job → accepted_on rows before key job → Cuts (entries_of job) rows left spent → LockPulse rows left
    → SameData left (run_job rows (ready rows before key) job).rows
    × (reset_number left ≡ 0)
    × SameData (run_job left (ready left later key) job).rows left
    × (((run_job left (ready left later key) job).outcome.answer.number ≡ 7) ⊎ Completes rows left before later key job spent)
