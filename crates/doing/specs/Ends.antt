-- How a rehearsal ends. What it is given comes from outside: so the definition speaks of some image and some job.
use Rattle.std.specs.Prelude.{ℕ, List, ◌≡◌}
use Rattle.console.specs.declared.ended.End.{End}
use Rattle.console.specs.declared.ended.End.TheVariants.{Answered}
use Rattle.chip.specs.declared.state.State.{State}
use Rattle.job.specs.Jobs.{rehearse}

-- by the number that the library answers it with
pub record Rehearses (end : End) : Type 0 where
  pub rows : List ℕ
  pub state : State
  pub job : List ℕ
  pub limit : ℕ
  pub so : end ≡ Answered (rehearse rows state job limit).outcome.answer.number
