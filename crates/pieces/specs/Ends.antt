-- Request 2026-01: the end of a job that came in pieces, and demand 3 of it.
use Rattle.std.specs.Prelude.{ℕ, ◌+◌, ◌≤◌, ◌<◌, true, false, List, ◌⊎◌, ◌≡◌}
use Rattle.chip.specs.declared.state.State.{State}
use Rattle.latch.specs.Resetting.{reset_number}
use Rattle.form.specs.Entries.{version_of, entries_of}
use Rattle.job.specs.Burning.{all_written}
use Rattle.job.specs.Jobs.{run_job}
use Rattle.lead.specs.Ending.{job_in, end_job}
use Rattle.lead.specs.Notes.{no_room}
use Rattle.lead.specs.declared.notes.Note.{Note}
use Rattle.cuts.specs.Cuts.{Keyed, ready, Bytes, Cuts, NoLockPulse}
use Rattle.cuts.specs.Versions.{SameData, LockPulse}

-- with room, and a count of at most 3,079, the end is running as many area bytes as the note counts
abbrev pub EndRunsJob : Type 0
EndRunsJob =
    (rows : List ℕ) (state : State) (area : List ℕ) (note : Note) → no_room area ≡ false → note.counted ≤ 3079
    → end_job rows state area note ≡ run_job rows state (job_in area note)

-- otherwise it is refused, with 1, 12 or 10 and place 0
abbrev pub EndRefused : Type 0
EndRefused =
    (rows : List ℕ) (state : State) (area : List ℕ) (note : Note) → (no_room area ≡ true) ⊎ (3079 < note.counted)
    → (((end_job rows state area note).outcome.answer.number ≡ 1)
    ⊎ (((end_job rows state area note).outcome.answer.number ≡ 12) ⊎ ((end_job rows state area note).outcome.answer.number ≡ 10)))
    × ((end_job rows state area note).outcome.answer.place ≡ 0)

-- the reset is done, and the end is then accepted
abbrev pub end_accepted_on : List ℕ → State → Keyed → List ℕ → Note → Type 0
end_accepted_on rows before key area note =
    (reset_number rows ≡ 0) × ((end_job rows (ready rows before key) area note).outcome.answer.number ≡ 0)

-- after cuts the end is announced again: it is accepted, it leaves the rows of the uncut one, and the pulses of all add up to its pulses
abbrev pub EndCompletes : List ℕ → List ℕ → State → State → Keyed → List ℕ → Note → ℕ → Type 0
EndCompletes rows left before later key area note spent =
    end_accepted_on left later key area note
    × ((end_job left (ready left later key) area note).rows ≡ all_written rows (entries_of (job_in area note)))
    × ((end_job rows (ready rows before key) area note).rows ≡ all_written rows (entries_of (job_in area note)))
    × (spent + (end_job left (ready left later key) area note).outcome.answer.pulses
    ≡ (end_job rows (ready rows before key) area note).outcome.answer.pulses)

-- demand 3: an end accepted on a chip just reset, cut after any pulse, any number of times, with a reset and the same key each time: it
-- completes; one of version 2 does so long as no lock pulse was given
abbrev pub EndCutPower : Type 0
EndCutPower =
    (rows left : List ℕ) (before later : State) (key : Keyed) (area : List ℕ) (note : Note) (spent : ℕ)
    → Bytes area → end_accepted_on rows before key area note → Cuts (entries_of (job_in area note)) rows left spent
    → (version_of (job_in area note) ≡ 2 → NoLockPulse rows left)
    → EndCompletes rows left before later key area note spent

-- after a lock pulse every data row is finished; the reset is done; announced again it changes no data row, and is refused with 7 or completes
abbrev pub EndCutAfterLocks : Type 0
EndCutAfterLocks =
    (rows left : List ℕ) (before later : State) (key : Keyed) (area : List ℕ) (note : Note) (spent : ℕ)
    → Bytes area → end_accepted_on rows before key area note → Cuts (entries_of (job_in area note)) rows left spent → LockPulse rows left
    → SameData left (end_job rows (ready rows before key) area note).rows
    × (reset_number left ≡ 0)
    × SameData (end_job left (ready left later key) area note).rows left
    × (((end_job left (ready left later key) area note).outcome.answer.number ≡ 7) ⊎ EndCompletes rows left before later key area note spent)
