-- At most 22 pairs are counted a turn.
use Rattle.std.proofs.Common.{◌*◌, ◌≤◌}
use Rattle.worked.proofs.double_damage.refused_pairs.Given as goal

abbrev pub invariant-loop-place : goal.invariant-loop-place
invariant-loop-place l = l.right ≤ 22 * l.place
