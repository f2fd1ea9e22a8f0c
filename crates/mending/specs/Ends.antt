-- How a repair pass ends. What it is given comes from outside: so the definition speaks of some image and some list.
use Rattle.std.specs.Prelude.{ℕ, List, ◌≡◌}
use Rattle.console.specs.declared.ended.End.{End}
use Rattle.console.specs.declared.ended.End.TheVariants.{Answered}
use Rattle.chip.specs.declared.state.State.{State}
use Rattle.repair.specs.Pass.{repair}

-- by the number that the library answers it with
pub record Repairs (end : End) : Type 0 where
  pub rows : List ℕ
  pub state : State
  pub list : List ℕ
  pub report : List ℕ
  pub so : end ≡ Answered (repair rows state list report).left.outcome.answer.number
