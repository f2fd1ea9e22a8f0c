-- What is promised of the tallies (request 2026-07).
use Rattle.std.specs.Prelude.{ℕ, ◌+◌, ◌<◌, min, List, ◌∷◌, ◌≡◌, length, get_or}
use Rattle.chip.specs.Pages.{page_of}
use Rattle.chip.specs.Tallies.{page_rows, tallies_of, tally_at}
use Rattle.chip.specs.declared.state.State.{State}
use Rattle.latch.specs.Resetting.{reset_number}
use Rattle.form.specs.Entries.{version_of, count_of, entry_at, entries_of}
use Rattle.job.specs.Jobs.{run_job, rehearse}
use Rattle.lead.specs.Ending.{job_in}
use Rattle.lead.specs.declared.notes.Note.{Note}
use Rattle.laws.specs.Calls.{Chip, Call, a_reset, a_raw_write, an_ecc_write, a_job, a_rehearsal, an_end, a_repair, perform, perform_all}
use Rattle.cuts.specs.Cuts.{Keyed, ready, Bytes, accepted_on, Cuts}
use Rattle.laws.specs.Writes.{newly_set}
use Rattle.laws.specs.Promises.{Burns}

-- the tallies are right: each is the set bits of its page's rows
abbrev pub Tallied : Chip → Type 0
Tallied chip = chip.state.tallies ≡ tallies_of chip.rows

-- after a done reset they are right through any calls, so long as rows change only by these: refused calls and resets may be among them
abbrev pub TalliesStayRight : Type 0
TalliesStayRight = (chip : Chip) (calls : List Call) → reset_number chip.rows ≡ 0 → Tallied (perform_all chip (a_reset ∷ calls))

-- and so they are where a rehearsal is cut, after any pulse, on a chip just reset, with a key entered or none
abbrev pub CutTallied : Type 0
CutTallied =
    (rows : List ℕ) (before : State) (key : Keyed) (job : List ℕ) (limit : ℕ) → reset_number rows ≡ 0
    → (rehearse rows (ready rows before key) job limit).outcome.state.tallies
    ≡ tallies_of (rehearse rows (ready rows before key) job limit).rows

-- demand 3: after cuts, resets and the last run, which of a version 2 job is accepted, the tallies are those of the uncut run
abbrev pub CutsLeaveTallies : Type 0
CutsLeaveTallies =
    (rows left : List ℕ) (before later : State) (key : Keyed) (job : List ℕ) (spent : ℕ)
    → Bytes job → accepted_on rows before key job → Cuts (entries_of job) rows left spent → (version_of job ≡ 2 → accepted_on left later key job)
    → (run_job left (ready left later key) job).outcome.state.tallies ≡ (run_job rows (ready rows before key) job).outcome.state.tallies

-- the pages that a call names: a row of it is written, or stands in the job or the list, whether or not a rehearsal's limit gets so far
pub data Names : Call → ℕ → Type 0 where
  raw_write : {caller row value : ℕ} → Names (a_raw_write caller row value) (page_of row)
  ecc_write : {caller row value : ℕ} → Names (an_ecc_write caller row value) (page_of row)
  job : {bytes : List ℕ} {i : ℕ} → i < count_of bytes → Names (a_job bytes) (page_of (entry_at bytes i).row)
  rehearsal : {bytes : List ℕ} {limit i : ℕ} → i < count_of bytes → Names (a_rehearsal bytes limit) (page_of (entry_at bytes i).row)
  ended : {area : List ℕ} {note : Note} {i : ℕ} → i < count_of (job_in area note) → Names (an_end area note) (page_of (entry_at (job_in area note) i).row)
  repaired : {list report : List ℕ} {i : ℕ} → i < length list → Names (a_repair list report) (page_of (get_or list i 0))

-- the bits newly set in a page's rows
abbrev pub new_in_page : List ℕ → List ℕ → ℕ → ℕ
new_in_page rows left page = newly_set (page_rows rows page) (page_rows left page)

-- a page's tally before a call, and after it
abbrev pub tally_before : Chip → ℕ → ℕ
tally_before chip page = tally_at chip.state.tallies page

abbrev pub tally_after : Chip → Call → ℕ → ℕ
tally_after chip call page = tally_at (perform chip call).chip.state.tallies page

-- whatever tallies come in, a done burning call leaves each named page's at the lesser of 1,536 and old plus new bits, and each other's as it was
abbrev pub TalliesExactly : Type 0
TalliesExactly =
    (chip : Chip) (call : Call) (page : ℕ) → Burns call → (perform chip call).answer.number ≡ 0 → page < length chip.state.tallies
    → (Names call page
    → tally_after chip call page ≡ min 1536 (tally_before chip page + new_in_page chip.rows (perform chip call).chip.rows page))
    × ((Names call page → ⊥) → tally_after chip call page ≡ tally_before chip page)

-- a refusal, and every call but a reset and those that burn, leaves all tallies as they are
abbrev pub OthersKeepTallies : Type 0
OthersKeepTallies =
    (chip : Chip) (call : Call)
    → ((perform chip call).answer.number ≡ 0 → call ≡ a_reset → ⊥) → ((perform chip call).answer.number ≡ 0 → Burns call → ⊥)
    → (perform chip call).chip.state.tallies ≡ chip.state.tallies
