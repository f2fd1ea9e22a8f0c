-- What a done call that burns counts, and that this is of the pages that it names: what it leaves the tallies at.
-- Assumes nothing.
use mathlib.Core.List.{List}
use mathlib.Core.Logic.{◌⊎◌, inl, inr}
use mathlib.Core.Path.{◌≡◌, refl, subst}
use Prim.Native.Nat.{ℕ, ◌+◌, ◌<◌, min}
use native.Mathlib.Omega.{arith}
use lib.ListN.{length, get_or}
use Rattle.chip.specs.Pages.{page_of}
use Rattle.chip.specs.Tallies.{tally_at, Gain, with_gains}
use Rattle.repair.specs.Pass.{looks, mending_gains}
use Rattle.form.specs.Entries.{count_of, entry_at, entries_of}
use Rattle.job.specs.Burning.{rehearsed}
use Rattle.lead.specs.Ending.{job_in}
use Rattle.lead.specs.declared.notes.Note.{Note}
use Rattle.laws.specs.Calls.{Chip, Call, a_raw_write, an_ecc_write, a_job, a_rehearsal, an_end, a_repair, perform}
use Rattle.laws.specs.Promises.{Burns}
use Rattle.cuts.specs.Tallies.{Names, new_in_page, tally_before, TalliesExactly}
use Rattle.cuts.proofs.Counted.{raw_counts, ecc_counts, rehearsal_counts, job_counts, end_counts, repair_counts, entries_rows, among_at, at_among, listed_rows, among_listed, listed_among}
use Rattle.cuts.proofs.Gains.{Gained, rows_of, Among, page_left}

-- what it counts, and that this is of the pages that it names
pub record Counts (chip : Chip) (call : Call) : Type 0 where
  pub gained : List Gain
  pub long : length chip.rows ≡ 4096
  pub tallies : (perform chip call).chip.state.tallies ≡ with_gains chip.state.tallies gained
  pub burnt : Gained chip.rows gained (perform chip call).chip.rows
  pub named : (page : ℕ) → Names call page → Among page (rows_of gained)
  pub only : (page : ℕ) → Among page (rows_of gained) → Names call page

raw_named : {caller row value page : ℕ} → Names (a_raw_write caller row value) page → page_of row ≡ page
raw_named Names.raw_write = refl

ecc_named : {caller row value page : ℕ} → Names (an_ecc_write caller row value) page → page_of row ≡ page
ecc_named Names.ecc_write = refl

-- the page of some entry
abbrev EntryOf : List ℕ → ℕ → Type 0
EntryOf job page = (i : ℕ) × (i < count_of job) × (page_of (entry_at job i).row ≡ page)

job_named : {job : List ℕ} {page : ℕ} → Names (a_job job) page → EntryOf job page
job_named (Names.job {i = i} below) = (i, below, refl)

rehearsal_named : {job : List ℕ} {limit page : ℕ} → Names (a_rehearsal job limit) page → EntryOf job page
rehearsal_named (Names.rehearsal {i = i} below) = (i, below, refl)

ended_named : {area : List ℕ} {note : Note} {page : ℕ} → Names (an_end area note) page → EntryOf (job_in area note) page
ended_named (Names.ended {i = i} below) = (i, below, refl)

module _ (rows : List ℕ) (limit : ℕ) (job : List ℕ) (page : ℕ) where
  abbrev gained_rows : List ℕ
  gained_rows = rows_of (rehearsed rows limit (entries_of job)).gained

  entry_among : EntryOf job page → Among page gained_rows
  entry_among (i, below, at) =
      rw (entries_rows (entries_of job) rows limit) (among_at page job (count_of job) 0 i (omega arith) (omega arith) at)

  among_entry : Among page gained_rows → EntryOf job page
  among_entry among =
      let found = at_among page job (count_of job) 0 (rw (entries_rows (entries_of job) rows limit) at among) in
      (found.0, omega (arith, found.1), found.2)

repaired_named : {list report : List ℕ} {page : ℕ} → Names (a_repair list report) page → (i : ℕ) × (i < length list) × (page_of (get_or list i 0) ≡ page)
repaired_named (Names.repaired {i = i} below) = (i, below, refl)

pub call_counts : (chip : Chip) (call : Call) → Burns call → (perform chip call).answer.number ≡ 0 → Counts chip call
unfolding perform
call_counts chip _ (Burns.raw_write {caller} {row} {value}) done =
    let c = raw_counts chip.rows chip.state caller row value done in
    record {
      gained = _;
      long = c.long;
      tallies = c.tallies;
      burnt = c.burnt;
      named = λ page names. inl (raw_named names);
      only = λ page among. by page among;
    }
  where
    by : (page : ℕ) → (page_of row ≡ page) ⊎ ⊥ → Names (a_raw_write caller row value) page
    by page (inl same) = subst (Names (a_raw_write caller row value)) same Names.raw_write
    by page (inr none) = absurd none
call_counts chip _ (Burns.ecc_write {caller} {row} {value}) done =
    let c = ecc_counts chip.rows chip.state caller row value done in
    record {
      gained = _;
      long = c.long;
      tallies = c.tallies;
      burnt = c.burnt;
      named = λ page names. inl (ecc_named names);
      only = λ page among. by page among;
    }
  where
    by : (page : ℕ) → (page_of row ≡ page) ⊎ ⊥ → Names (an_ecc_write caller row value) page
    by page (inl same) = subst (Names (an_ecc_write caller row value)) same Names.ecc_write
    by page (inr none) = absurd none
call_counts chip _ (Burns.job {bytes}) done =
    let c = job_counts chip.rows chip.state bytes done in
    record {
      gained = (rehearsed chip.rows 12288 (entries_of bytes)).gained;
      long = c.long;
      tallies = c.tallies;
      burnt = c.burnt;
      named = λ page names. entry_among chip.rows 12288 bytes page (job_named names);
      only = λ page among.
          let found = among_entry chip.rows 12288 bytes page among in
          subst (Names (a_job bytes)) found.2 (Names.job found.1);
    }
call_counts chip _ (Burns.rehearsal {bytes} {limit}) done =
    let c = rehearsal_counts chip.rows chip.state bytes limit done in
    record {
      gained = (rehearsed chip.rows limit (entries_of bytes)).gained;
      long = c.long;
      tallies = c.tallies;
      burnt = c.burnt;
      named = λ page names. entry_among chip.rows limit bytes page (rehearsal_named names);
      only = λ page among.
          let found = among_entry chip.rows limit bytes page among in
          subst (Names (a_rehearsal bytes limit)) found.2 (Names.rehearsal found.1);
    }
call_counts chip _ (Burns.ended {area} {note}) done =
    let c = end_counts chip.rows chip.state area note done in
    record {
      gained = (rehearsed chip.rows 12288 (entries_of (job_in area note))).gained;
      long = c.long;
      tallies = c.tallies;
      burnt = c.burnt;
      named = λ page names. entry_among chip.rows 12288 (job_in area note) page (ended_named names);
      only = λ page among.
          let found = among_entry chip.rows 12288 (job_in area note) page among in
          subst (Names (an_end area note)) found.2 (Names.ended found.1);
    }
call_counts chip _ (Burns.repaired {list} {report}) done =
    let c = repair_counts chip.rows chip.state list report done in
    let same = listed_rows chip.rows chip.state list in
    record {
      gained = mending_gains (looks chip.rows chip.state list);
      long = c.long;
      tallies = c.tallies;
      burnt = c.burnt;
      named = λ page names. let at = repaired_named names in rw same (among_listed page list at.0 at.1 at.2);
      only = λ page among.
          let found = listed_among page list (rw same at among) in
          subst (Names (a_repair list report)) found.2 (Names.repaired found.1);
    }

pub tallies_exactly : TalliesExactly
tallies_exactly chip call page burns done below =
    let c = call_counts chip call burns done in
    rw c.tallies (by c (page_left page chip.state.tallies c.long below c.burnt))
  where
    after : Counts chip call → ℕ
    after c = tally_at (with_gains chip.state.tallies c.gained) page

    new : ℕ
    new = new_in_page chip.rows (perform chip call).chip.rows page

    by : (c : Counts chip call)
        → (Among page (rows_of c.gained) × (after c ≡ min 1536 (tally_before chip page + new)))
        ⊎ ((Among page (rows_of c.gained) → ⊥) × (after c ≡ tally_before chip page) × (new ≡ 0))
        → (Names call page → after c ≡ min 1536 (tally_before chip page + new)) × ((Names call page → ⊥) → after c ≡ tally_before chip page)
    by c (inl (among, left)) = (λ names. left, λ unnamed. absurd (unnamed (c.only page among)))
    by c (inr (apart, kept, no-new)) = (λ names. absurd (apart (c.named page names)), λ unnamed. kept)
