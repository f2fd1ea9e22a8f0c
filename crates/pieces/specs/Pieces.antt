-- Request 2026-01: a file in pieces is the file.
use Rattle.std.specs.Prelude.{ℕ, ◌≤◌, List, [], ◌∷◌, ◌++◌, ◌≡◌, length}
use Rattle.chip.specs.declared.state.State.{State}
use Rattle.burn.specs.Burning.{Left}
use Rattle.job.specs.Jobs.{run_job}
use Rattle.lead.specs.Ending.{end_job}
use Rattle.lead.specs.Notes.{fresh}
use Rattle.lead.specs.Taking.{take_chunk}
use Rattle.lead.specs.declared.notes.Note.{Note}

-- what is kept between two chunks: the area, which only these calls write, and the note
pub record Kept : Type 0 where
  pub area : List ℕ
  pub note : Note

-- before the first chunk: a fresh note, and whatever the area held
abbrev pub begin : List ℕ → Kept
begin area = record { area = area; note = fresh }

-- after a chunk
abbrev pub after : Kept → List ℕ → Kept
after kept chunk = record {
  area = (take_chunk kept.area kept.note chunk).area;
  note = (take_chunk kept.area kept.note chunk).taken.note;
}

-- after chunks of whatever length, none among them, one after the other
unfoldable pub after_all : Kept → List (List ℕ) → Kept
after_all kept [] = kept
after_all kept (chunk ∷ others) = after_all (after kept chunk) others

-- their bytes joined
unfoldable pub joined : List (List ℕ) → List ℕ
joined [] = []
joined (chunk ∷ others) = chunk ++ joined others

-- the end announced after them
abbrev pub end_after : List ℕ → State → List ℕ → List (List ℕ) → Left
end_after rows state area chunks = end_job rows state (after_all (begin area) chunks).area (after_all (begin area) chunks).note

-- from a fresh note, an area of at least 3,079 bytes and any cutting, the end answers and leaves, state and rows, what running the joined
-- bytes does: every file, longer ones and both versions too
abbrev pub PiecesAreTheFile : Type 0
PiecesAreTheFile =
    (rows : List ℕ) (state : State) (area : List ℕ) (chunks : List (List ℕ)) → 3079 ≤ length area
    → end_after rows state area chunks ≡ run_job rows state (joined chunks)
