-- Request 2026-04: the job that was made. Its entries are the rows that differ, no shorter job does it, and running it gives the wanted image,
-- after any cuts too.
use Rattle.std.specs.Prelude.{ℕ, ◌+◌, ◌≤◌, ◌<◌, false, List, [], ◌∷◌, ◌⊎◌, ◌↔◌, ◌≡◌, take}
use Rattle.row.specs.Code.{distance}
use Rattle.chip.specs.Slices.{row_at}
use Rattle.chip.specs.declared.state.State.{State}
use Rattle.permit.specs.Permission.{may_write}
use Rattle.form.specs.Entries.{version_of, count_of, entry_at, entries_of}
use Rattle.form.specs.declared.entries.Entry.{Entry}
use Rattle.job.specs.Jobs.{run_job}
use Rattle.maker.specs.Making.{make_job}
use Rattle.cuts.specs.Cuts.{Keyed, ready, Bytes, accepted_on, Cuts}
use Rattle.made.specs.Refusing.{Differs}

-- a making that is done, and its job: as many bytes of the output as the value says
pub record Makes (present wanted out job : List ℕ) : Type 0 where
  pub done : (make_job present wanted out).answer.number ≡ 0
  pub bytes : job ≡ take (make_job present wanted out).answer.value (make_job present wanted out).out

-- a raw entry of a row below 0xf40 that differs, which carries the wanted row
pub record Change (present wanted : List ℕ) (e : Entry) : Type 0 where
  pub raw : e.kind ≡ 1
  pub data_row : e.row < 0xf40
  pub differs : Differs present wanted e.row
  pub carries : e.value ≡ row_at wanted e.row

-- it is a version 1 job, each of its entries is such an entry, and they rise
abbrev pub EachEntryDiffers : Type 0
EachEntryDiffers =
    (present wanted out job : List ℕ) → Makes present wanted out job
    → (version_of job ≡ 1)
    × ((i : ℕ) → i < count_of job → Change present wanted (entry_at job i))
    × ((k i : ℕ) → k < i → i < count_of job → (entry_at job k).row < (entry_at job i).row)

-- each row that differs has an entry, and but one, since they rise
abbrev pub EachRowHasEntry : Type 0
EachRowHasEntry =
    (present wanted out job : List ℕ) (row : ℕ) → Makes present wanted out job → Differs present wanted row
    → (i : ℕ) × (i < count_of job) × ((entry_at job i).row ≡ row)

-- no other job that leaves the wanted image, on any state, has fewer entries
abbrev pub NoneIsShorter : Type 0
NoneIsShorter =
    (present wanted out job other : List ℕ) (state : State) → Makes present wanted out job
    → (run_job present state other).outcome.answer.number ≡ 0 → (run_job present state other).rows ≡ wanted
    → count_of job ≤ count_of other

-- the bits that differ
unfoldable pub bits_differing : List ℕ → List ℕ → ℕ
bits_differing [] wanted = 0
bits_differing (old ∷ present) [] = 0
bits_differing (old ∷ present) (new ∷ wanted) = distance old new + bits_differing present wanted

-- run on the present image, with any state, it is 0 or 7, and never 1, 10, 11, 3 or 9; it is 7 exactly if some row that differs may not be
-- written by Secure; where it is 0 the rows are the wanted ones, and its pulses are the bits that differ
abbrev pub RunsToWanted : Type 0
RunsToWanted =
    (present wanted out job : List ℕ) (state : State) → Makes present wanted out job
    → (((run_job present state job).outcome.answer.number ≡ 0) ⊎ ((run_job present state job).outcome.answer.number ≡ 7))
    × (((run_job present state job).outcome.answer.number ≡ 7)
    ↔ ((row : ℕ) × Differs present wanted row × (may_write state 0 row ≡ false)))
    × ((run_job present state job).outcome.answer.number ≡ 0
    → ((run_job present state job).rows ≡ wanted) × ((run_job present state job).outcome.answer.pulses ≡ bits_differing present wanted))

-- with demand 3: accepted on a present chip just reset, cut after any pulse, any number of times, with a reset and the same key each time, it is
-- accepted again, leaves the wanted image, and the pulses of all runs are the bits that differ
abbrev pub CutsReachWanted : Type 0
CutsReachWanted =
    (present wanted out job left : List ℕ) (before later : State) (key : Keyed) (spent : ℕ)
    → Bytes out → Makes present wanted out job → accepted_on present before key job → Cuts (entries_of job) present left spent
    → accepted_on left later key job
    × ((run_job left (ready left later key) job).rows ≡ wanted)
    × (spent + (run_job left (ready left later key) job).outcome.answer.pulses ≡ bits_differing present wanted)
