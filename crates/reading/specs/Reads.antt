-- One read: what the library answers it with, by the way that it is asked for, and how it ends.
use Rattle.std.specs.Prelude.{ℕ, List, ◌≡◌}
use Rattle.answer.specs.declared.answers.Answer.{Answer}
use Rattle.chip.specs.declared.state.State.{State}
use Rattle.access.specs.Reads.{read_ecc, read_raw}
use Rattle.access.specs.Votes.{read_vote}
use Rattle.console.specs.declared.ended.End.{End}
use Rattle.console.specs.declared.ended.End.TheVariants.{Answered}
use Rattle.reading.specs.declared.one_read.Way.{Way}
use Rattle.reading.specs.declared.one_read.Way.TheVariants.{Ecc, Raw, Vote}

-- the answer
abbrev pub read_by : Way → List ℕ → State → ℕ → ℕ → Answer
read_by Ecc rows state caller row = read_ecc rows state caller row
read_by Raw rows state caller row = read_raw rows state caller row
read_by (Vote count) rows state caller row = read_vote rows state caller row count

-- it ends by the number of that. What it is given comes from outside: so the definition speaks of some image, and of some caller, row and way.
pub record Reads (end : End) : Type 0 where
  pub way : Way
  pub rows : List ℕ
  pub state : State
  pub caller : ℕ
  pub row : ℕ
  pub so : end ≡ Answered (read_by way rows state caller row).number
