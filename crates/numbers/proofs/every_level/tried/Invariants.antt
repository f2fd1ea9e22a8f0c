-- At most one letter is right a turn.
use Rattle.std.proofs.Common.{◌≤◌}
use Rattle.numbers.proofs.every_level.tried.Given as goal

abbrev pub invariant-loop-levels : goal.invariant-loop-levels
invariant-loop-levels l = l.right ≤ l.levels
