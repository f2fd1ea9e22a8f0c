-- At most one bit is counted a turn.
use Rattle.std.proofs.Common.{◌≤◌}
use Rattle.numbers.proofs.tallies.ones.Given as goal

abbrev pub invariant-loop-place : goal.invariant-loop-place
invariant-loop-place l = l.bits ≤ l.place
