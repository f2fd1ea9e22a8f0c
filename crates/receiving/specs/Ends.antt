-- How a job ends that is received. What comes is from outside: so the definition speaks of some image, some area and some note.
use Rattle.std.specs.Prelude.{ℕ, List, ◌≡◌}
use Rattle.console.specs.declared.ended.End.{End}
use Rattle.console.specs.declared.ended.End.TheVariants.{Answered}
use Rattle.chip.specs.declared.state.State.{State}
use Rattle.lead.specs.declared.notes.Note.{Note}
use Rattle.lead.specs.Ending.{end_job}

-- by the number that the library answers its end with
pub record Receives (end : End) : Type 0 where
  pub rows : List ℕ
  pub state : State
  pub area : List ℕ
  pub note : Note
  pub so : end ≡ Answered (end_job rows state area note).outcome.answer.number
