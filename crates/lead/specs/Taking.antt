-- The call that takes a chunk (request 2026-01). It is lent neither rows nor state.
use Rattle.std.specs.Prelude.{ℕ, List, [], ◌∷◌, eqb}
use Rattle.answer.specs.Answers.{refused, told}
use Rattle.std.specs.Prelude.{if◌then◌else◌}
use Rattle.answer.specs.Rungs.{◌when◌, first_of}
use Rattle.form.specs.Faults.{fault_number}
use Rattle.lead.specs.Early.{early_fault}
use Rattle.lead.specs.Notes.{no_room, stored, so_far, noted}
use Rattle.lead.specs.declared.notes.Note.{Note}
use Rattle.lead.specs.declared.taking.Taken.{Taken}

-- what a chunk leaves: its answer and the note, and the area
pub record Took : Type 0 where
  pub taken : Taken
  pub area : List ℕ

-- 12
abbrev pub take_number : List ℕ → ℕ
take_number area = first_of (12 when no_room area ∷ [])

-- a chunk whose bytes the area has: the early word, and the note after it
abbrev pub took_in : List ℕ → Note → List ℕ → Took
took_in area note chunk = record {
  taken = record { answer = told (fault_number (early_fault area note chunk)); note = noted (so_far area note) note chunk };
  area = area;
}

-- refused: note and area as they were
abbrev pub took_nothing : ℕ → List ℕ → Note → Took
took_nothing number area note = record { taken = record { answer = refused number; note = note }; area = area }

-- take a chunk
unfoldable pub take_chunk : List ℕ → Note → List ℕ → Took
take_chunk area note chunk =
    if eqb (take_number area) 0 then took_in (stored area note chunk) note chunk else took_nothing (take_number area) area note
