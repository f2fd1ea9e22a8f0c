-- At most one place is counted a turn.
use Rattle.std.proofs.Common.{◌≤◌}
use Rattle.worked.proofs.places.places.Given as goal

abbrev pub invariant-loop-place : goal.invariant-loop-place
invariant-loop-place g l = l.held ≤ l.place
