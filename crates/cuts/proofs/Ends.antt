-- The end of a job that came in chunks is the call that runs it.
-- Assumes nothing.
use mathlib.Core.Path.{◌≡◌, sym, ap}
use mathlib.Core.Bool.{false}
use mathlib.Core.List.{List}
use Prim.Native.Nat.{ℕ, ◌≤◌}
use borrow.Author.Tests.{le-ltb}
use Rattle.lead.specs.Ending.{job_in}
use Rattle.lead.specs.Notes.{no_room}
use Rattle.lead.specs.declared.notes.Note.{Note}
use Rattle.lead.proofs.Ends.{runs}
use Rattle.laws.specs.Calls.{Chip, leaving, a_job, an_end, perform}

pub as_job : (chip : Chip) (area : List ℕ) (note : Note) → no_room area ≡ false → note.counted ≤ 3079
    → perform chip (a_job (job_in area note)) ≡ perform chip (an_end area note)
unfolding perform
as_job chip area note room within = sym (ap leaving (runs chip.rows chip.state area note room (le-ltb 3079 note.counted within)))
