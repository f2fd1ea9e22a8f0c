-- The note after a chunk: where nothing was counted, where no entry ended, and where one did.
-- Assumes nothing.
use mathlib.Core.Path.{◌≡◌, sym, ap, ◌∙◌}
use mathlib.Core.List.{List}
use Prim.Native.Nat.{ℕ, ◌+◌, ◌-◌, ◌*◌, ◌≤◌}
use borrow.Author.Tests.{eq-eqb, ne_eqb}
use lib.ListN.{length}
use Rattle.form.specs.Entries.{count_of, entry_at}
use Rattle.lead.specs.Notes.{start_of, stop_of, ended_of, begun_of, ended_in, begun_in, begun_before, so_far, part_from, part_of, noted}
use Rattle.lead.specs.declared.notes.Note.{Note}
use Rattle.lead.specs.declared.so_far.Begun.{Begun}
use Rattle.lead.proofs.Counts.{before_fits}
use Rattle.lead.proofs.SoFar.{head_else}

module _ (job : List ℕ) (note : Note) (chunk : List ℕ) where
  abbrev start : ℕ
  start = start_of note

  abbrev stop : ℕ
  stop = stop_of note chunk

  abbrev with : ℕ → List ℕ → Note
  with least part = record { counted = stop; least = least; part = part }

  module _ (moved : start ≡ stop → ⊥) where
    pub within : ended_in job start ≡ ended_in job stop → noted job note chunk ≡ with note.least (part_of job stop)
    within same = rw (ne_eqb start stop moved, eq-eqb (ended_in job start) (ended_in job stop) same)

    pub ended : (ended_in job start ≡ ended_in job stop → ⊥) → noted job note chunk ≡ with ((entry_at job (ended_in job stop - 1)).row + 1) (part_of job stop)
    ended other = rw (ne_eqb start stop moved, ne_eqb (ended_in job start) (ended_in job stop) other)

-- the same, by the numbers that were worked out: where the chunk starts and stops, and by the count in the area's head
module _ (area : List ℕ) (note : Note) (chunk : List ℕ) (room : 3079 ≤ length area) (begun : Begun) (begun_is : begun ≡ begun_before area note)
    (at to count whole bytes : ℕ) (at_is : at ≡ start_of note) (to_is : to ≡ stop_of note chunk) (count_is : count ≡ count_of area)
    (whole_is : whole ≡ ended_of count to) (bytes_is : bytes ≡ begun_of count to) (moved : at ≡ to → ⊥) where
  abbrev file : List ℕ
  file = so_far area note

  abbrev left : ℕ → List ℕ → Note
  left least part = record { counted = to; least = least; part = part }

  moved_on : start_of note ≡ stop_of note chunk → ⊥
  moved_on same = moved (at_is ∙ same ∙ sym to_is)

  same_count : count_of file ≡ count_of area
  same_count = (head_else area (begun_before area note) (before_fits area note room)).2

  whole_ended : whole ≡ ended_in file (stop_of note chunk)
  whole_ended = rw same_count (whole_is ∙ rw (count_is, to_is))

  index_ended : begun.index ≡ ended_in file (start_of note)
  index_ended = rw same_count (ap (λ (b : Begun). b.index) begun_is)

  part_there : part_from file (7 + 6 * whole) bytes ≡ part_of file (stop_of note chunk)
  part_there =
      let begun_then : bytes ≡ begun_in file (stop_of note chunk) = rw same_count (bytes_is ∙ rw (count_is, to_is)) in
      rw (begun_then, whole_ended)

  pub within_left : begun.index ≡ whole → (part : List ℕ) → part ≡ part_from file (7 + 6 * whole) bytes → left note.least part ≡ noted file note chunk
  within_left same part is = rw (to_is, is, part_there) (sym (within file note chunk moved_on (sym index_ended ∙ same ∙ whole_ended)))

  pub ended_left : (begun.index ≡ whole → ⊥) → (part : List ℕ) → part ≡ part_from file (7 + 6 * whole) bytes
      → (least : ℕ) → least ≡ (entry_at file (whole - 1)).row + 1 → left least part ≡ noted file note chunk
  ended_left more part is least above =
      rw (to_is, is, part_there, above, whole_ended) (sym (ended file note chunk moved_on (λ same. more (index_ended ∙ same ∙ sym whole_ended))))
