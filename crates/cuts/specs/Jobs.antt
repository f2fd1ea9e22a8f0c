-- What is promised of a job and a rehearsal: their place, and that a job is the writes of its entries (document 01, "Jobs").
use Rattle.std.specs.Prelude.{ℕ, ◌+◌, ◌≤◌, ◌<◌, false, List, [], ◌∷◌, ◌⊎◌, ◌≡◌, eqb}
use Rattle.std.specs.Prelude.{if◌then◌else◌}
use Rattle.row.specs.Code.{set_bits}
use Rattle.answer.specs.Rungs.{first_of}
use Rattle.answer.specs.declared.answers.Answer.{Answer}
use Rattle.permit.specs.Permission.{may_write}
use Rattle.chip.specs.Slices.{row_at}
use Rattle.form.specs.Entries.{count_of, entry_at, entries_of}
use Rattle.form.specs.declared.entries.Entry.{Entry}
use Rattle.job.specs.Burning.{written_over}
use Rattle.judge.specs.Verdicts.{entry_rungs}
use Rattle.lead.specs.Ending.{job_in}
use Rattle.lead.specs.Notes.{no_room}
use Rattle.lead.specs.declared.notes.Note.{Note}
use Rattle.laws.specs.Calls.{Chip, Call, a_raw_write, an_ecc_write, a_job, a_rehearsal, an_end, perform}
use Rattle.cuts.specs.Cuts.{Bytes}
use Rattle.laws.specs.Writes.{In}

-- a job that is run, or rehearsed, or came in chunks and is run at their end
pub data RunsJob : List ℕ → Call → Type 0 where
  run : {job : List ℕ} → RunsJob job (a_job job)
  rehearsal : {job : List ℕ} {limit : ℕ} → RunsJob job (a_rehearsal job limit)
  ended : {area : List ℕ} {note : Note} → no_room area ≡ false → note.counted ≤ 3079 → RunsJob (job_in area note) (an_end area note)

-- the number of an entry by itself: 7, 3, 9 or 0
abbrev pub entry_number : Chip → Entry → ℕ
entry_number chip e = first_of (entry_rungs chip.rows (may_write chip.state 0 e.row) 0 e)

-- what a refusal says: 1, 10 and 11 with place 0, or the place of the first entry that is refused, with that entry's number
abbrev pub NamesEntry : Chip → List ℕ → Answer → Type 0
NamesEntry chip job answer =
    ((answer.place ≡ 0) × ((answer.number ≡ 1) ⊎ ((answer.number ≡ 10) ⊎ (answer.number ≡ 11))))
    ⊎ ((answer.place < count_of job) × (entry_number chip (entry_at job answer.place) ≡ answer.number)
    × ((i : ℕ) → i < answer.place → entry_number chip (entry_at job i) ≡ 0))

-- the place is the refused entry's index for 7, 3 and 9, 0 for any other refusal
abbrev pub PlaceRefused : Type 0
PlaceRefused =
    (chip : Chip) (job : List ℕ) (call : Call) → RunsJob job call → ((perform chip call).answer.number ≡ 0 → ⊥)
    → NamesEntry chip job (perform chip call).answer

-- an entry's bits all stand: those of the row that it was judged to leave are in the row
abbrev pub Stands : List ℕ → List ℕ → Entry → Type 0
Stands rows left e = In (written_over rows e).row (row_at left e.row)

-- when done, the number of leading entries whose bits all stand: at most all of them, each below the place stands, and the one at the
-- place, if there is one, does not
abbrev pub PlaceStands : Type 0
PlaceStands =
    (chip : Chip) (job : List ℕ) (call : Call) → RunsJob job call → (perform chip call).answer.number ≡ 0
    → ((perform chip call).answer.place ≤ count_of job)
    × ((i : ℕ) → i < (perform chip call).answer.place → Stands chip.rows (perform chip call).chip.rows (entry_at job i))
    × ((perform chip call).answer.place < count_of job
    → Stands chip.rows (perform chip call).chip.rows (entry_at job (perform chip call).answer.place) → ⊥)

-- with at most one bit set beforehand, 9 is never given to an entry either
abbrev pub OneBitNeverNineInJobs : Type 0
OneBitNeverNineInJobs =
    (chip : Chip) (job : List ℕ) (call : Call) → RunsJob job call
    → set_bits (row_at chip.rows (entry_at job (perform chip call).answer.place).row) ≤ 1
    → (perform chip call).answer.number ≡ 9 → ⊥

-- the write that an entry asks for, by Secure
abbrev pub write_of : Entry → Call
write_of e = if eqb e.kind 0 then an_ecc_write 0 e.row e.value else a_raw_write 0 e.row e.value

-- calls made one after the other, each done, with their pulses in all and the chip that the last leaves
pub data EachDone : Chip → List Call → ℕ → Chip → Type 0 where
  none : {chip : Chip} → EachDone chip [] 0 chip
  more : {chip last : Chip} {call : Call} {others : List Call} {pulses : ℕ} → (perform chip call).answer.number ≡ 0
      → EachDone (perform chip call).chip others pulses last
      → EachDone chip (call ∷ others) ((perform chip call).answer.pulses + pulses) last

-- the writes of some entries
unfoldable pub writes_of : List Entry → List Call
writes_of [] = []
writes_of (e ∷ others) = write_of e ∷ writes_of others

-- a done job: the writes of its entries, made one after the other, are each done, spend its pulses and leave its chip
abbrev pub EachInTurn : Type 0
EachInTurn =
    (chip : Chip) (job : List ℕ) → Bytes job → (perform chip (a_job job)).answer.number ≡ 0
    → EachDone chip (writes_of (entries_of job)) (perform chip (a_job job)).answer.pulses (perform chip (a_job job)).chip
