-- Demand 3: power cut while a job runs (document 01, "Jobs"; request 2026-09).
use Rattle.std.specs.Prelude.{ℕ, ◌+◌, ◌≤◌, ◌<◌, List, [], ◌∷◌, ◌≡◌, get_or, set}
use Rattle.chip.specs.Slices.{row_at}
use Rattle.chip.specs.declared.state.State.{State}
use Rattle.lock.specs.Calls.{enter_key}
use Rattle.latch.specs.Resetting.{reset_number, reset}
use Rattle.form.specs.Entries.{version_of, entries_of}
use Rattle.form.specs.declared.entries.Entry.{Entry}
use Rattle.job.specs.Burning.{written_over, with_entry, all_written}
use Rattle.job.specs.Jobs.{run_job, rehearse}
use Rattle.laws.specs.Writes.{In, newly_set}

-- a key entered, or none
pub data Keyed : Type 0 where
  no_key_entered : Keyed
  key_entered : List ℕ → Keyed

-- the state of a chip just reset, by Secure, with the key entered or none
abbrev pub ready : List ℕ → State → Keyed → State
ready rows before no_key_entered = (reset rows before).state
ready rows before (key_entered key) = (enter_key (reset rows before).state 0 key).state

-- a job's bytes are bytes
abbrev pub Bytes : List ℕ → Type 0
Bytes job = (at : ℕ) → get_or job at 0 < 256

-- the reset is done, and the job is then accepted
abbrev pub accepted_on : List ℕ → State → Keyed → List ℕ → Type 0
accepted_on rows before key job = (reset_number rows ≡ 0) × ((run_job rows (ready rows before key) job).outcome.answer.number ≡ 0)

-- what a cut may leave: the entries before some entry finished, that entry's row anywhere between its old bits and its finished bits,
-- and later rows as they were
pub data CutOf : List ℕ → List Entry → List ℕ → Type 0 where
  within : {rows : List ℕ} {e : Entry} {others : List Entry} (row : ℕ) → In (row_at rows e.row) row → In row (written_over rows e).row
      → CutOf rows (e ∷ others) (set rows e.row row)
  past : {rows left : List ℕ} {e : Entry} {others : List Entry} → CutOf (with_entry rows e) others left → CutOf rows (e ∷ others) left
  at_end : {rows : List ℕ} → CutOf rows [] rows

-- a job cut any number of times, from its first rows to those that the last cut left, for so many pulses in all
pub data Cuts : List Entry → List ℕ → List ℕ → ℕ → Type 0 where
  none : {es : List Entry} {rows : List ℕ} → Cuts es rows rows 0
  once : {es : List Entry} {rows between left : List ℕ} {spent : ℕ} → CutOf rows es between → Cuts es between left spent
      → Cuts es rows left (newly_set rows between + spent)

-- after cuts the job is run to its end: the reset is done, the job is accepted again, it leaves the rows that writing each entry in turn
-- gives without a cut, and the pulses of all runs add up to the uncut run's
abbrev pub Completes : List ℕ → List ℕ → State → State → Keyed → List ℕ → ℕ → Type 0
Completes rows left before later key job spent =
    accepted_on left later key job
    × ((run_job left (ready left later key) job).rows ≡ all_written rows (entries_of job))
    × ((run_job rows (ready rows before key) job).rows ≡ all_written rows (entries_of job))
    × (spent + (run_job left (ready left later key) job).outcome.answer.pulses
    ≡ (run_job rows (ready rows before key) job).outcome.answer.pulses)

-- no lock pulse was given: each lock row holds what it held
abbrev pub NoLockPulse : List ℕ → List ℕ → Type 0
NoLockPulse rows left = (row : ℕ) → 0xf80 ≤ row → row_at left row ≡ row_at rows row

-- a job accepted on a chip just reset, cut after any pulse, in any order of bits inside a row, any number of times, with a reset and
-- the same key each time: it completes; one of version 2 does so long as no lock pulse was given
abbrev pub CutPower : Type 0
CutPower =
    (rows left : List ℕ) (before later : State) (key : Keyed) (job : List ℕ) (spent : ℕ)
    → Bytes job → accepted_on rows before key job → Cuts (entries_of job) rows left spent → (version_of job ≡ 2 → NoLockPulse rows left)
    → Completes rows left before later key job spent

-- a rehearsal with any limit leaves such a cut, for as many pulses as it answers
abbrev pub RehearsalCuts : Type 0
RehearsalCuts =
    (rows : List ℕ) (before : State) (key : Keyed) (job : List ℕ) (limit : ℕ) → Bytes job → accepted_on rows before key job
    → CutOf rows (entries_of job) (rehearse rows (ready rows before key) job limit).rows
    × ((rehearse rows (ready rows before key) job limit).outcome.answer.pulses
    ≡ newly_set rows (rehearse rows (ready rows before key) job limit).rows)
