-- The rows that a command goes over.
use Rattle.std.specs.Prelude.{ℕ, ◌+◌, ◌≤◌, ◌<◌, true, false, Result, Ok, Err}
use Rattle.console.specs.declared.ended.Stop.{Stop}
use Rattle.board.specs.declared.range.Range.{Range}

-- the rows before one that hold bits
abbrev pub held_before : ℕ → Range
held_before end = record { first = 0; past = end; held = true }

-- all rows from one to another
abbrev pub between : ℕ → ℕ → Range
between one other = record { first = one; past = other + 1; held = false }

-- which rows words name comes from outside: they are rows of the chip, and one at least
abbrev pub Named : Result Range Stop → Type 0
Named (Ok rows) = (rows.first < rows.past) × (rows.past ≤ 4096)
Named (Err _) = Unit
