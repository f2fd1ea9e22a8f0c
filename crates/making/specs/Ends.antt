-- How the making of a job ends. The images come from outside: so the definition speaks of some two.
use Rattle.std.specs.Prelude.{ℕ, List, ◌≡◌}
use Rattle.console.specs.declared.ended.End.{End}
use Rattle.console.specs.declared.ended.End.TheVariants.{Answered}
use Rattle.maker.specs.Making.{make_job}

-- by the number that the library answers it with
pub record Makes (end : End) : Type 0 where
  pub present : List ℕ
  pub wanted : List ℕ
  pub out : List ℕ
  pub so : end ≡ Answered (make_job present wanted out).answer.number
