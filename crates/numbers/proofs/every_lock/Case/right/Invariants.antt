-- At most four calls are right at each present level, three advances and a show.
use Rattle.std.proofs.Common.{◌+◌, ◌*◌, ◌≤◌}
use Rattle.numbers.proofs.every_lock.Case.right.Given as goal

abbrev pub invariant-loop-present : goal.invariant-loop-present
invariant-loop-present l = l.right ≤ 4 * l.present

abbrev pub invariant-loop-asked : goal.invariant-loop-asked
invariant-loop-asked l = l.right ≤ 4 * l.present + l.asked
