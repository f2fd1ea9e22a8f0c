-- A chunk is refused for its area, or taken.
-- Assumes nothing.
use mathlib.Core.Path.{◌≡◌}
use mathlib.Core.Bool.{true, false}
use mathlib.Core.List.{List}
use Prim.Native.Nat.{ℕ}
use Rattle.lead.specs.Notes.{no_room, stored}
use Rattle.lead.specs.Taking.{take_chunk, took_in, took_nothing}
use Rattle.lead.specs.declared.notes.Note.{Note}

module _ (area : List ℕ) (note : Note) (chunk : List ℕ) where
  pub refused : no_room area ≡ true → take_chunk area note chunk ≡ took_nothing 12 area note
  unfolding take_chunk
  refused short = rw short

  pub taken : no_room area ≡ false → take_chunk area note chunk ≡ took_in (stored area note chunk) note chunk
  unfolding take_chunk
  taken room = rw room
