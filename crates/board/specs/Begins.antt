-- What a command on an image begins with: the chip after a reset, and a key where one is given.
use Rattle.std.specs.Prelude.{ℕ, List, Result, Ok, Err, eqb}
use Rattle.std.specs.Prelude.{if◌then◌else◌}
use Rattle.chip.specs.declared.state.State.{State}
use Rattle.chip.specs.States.{zeros}
use Rattle.lock.specs.Calls.{enter_key}
use Rattle.latch.specs.Resetting.{reset}
use Rattle.console.specs.declared.ended.Stop.{Stop}

-- whether there is a chip to go on with, or the command has ended
pub data Start : Type 0 where
  Ready : Start
  Ended : Start

-- the chip that a command has begun with, all zeros where it has ended
pub record Begun : Type 0 where
  pub start : Start
  pub state : State

-- the command has ended
abbrev pub not_begun : Begun
not_begun = record { start = Ended; state = zeros }

-- what a command has begun with, by the answer of the function that begins it
abbrev pub begun_by : Result State Stop → Begun
begun_by (Ok chip) = record { start = Ready; state = chip }
begun_by (Err _) = not_begun

-- the chip after a reset, where the reset is not refused
abbrev pub after_reset : List ℕ → Begun
after_reset rows =
    if eqb (reset rows zeros).answer.number 0 then record { start = Ready; state = (reset rows zeros).state }
    else not_begun

-- the same with a key, which Secure enters
abbrev pub with_key : List ℕ → List ℕ → Begun
with_key rows key = record { start = (after_reset rows).start; state = (enter_key (after_reset rows).state 0 key).state }

-- the image and the key come from outside: a command begins with a reset of its rows, with some key or with none, or has ended
pub data Begins (rows : List ℕ) : Begun → Type 0 where
  ended : Begins rows not_begun
  begun : Begins rows (after_reset rows)
  keyed : (key : List ℕ) → Begins rows (with_key rows key)
