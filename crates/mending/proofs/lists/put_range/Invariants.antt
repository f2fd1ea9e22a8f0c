-- So many rows are put as were gone over.
use Rattle.std.proofs.Common.{◌≡◌}
use Rattle.mending.specs.Lists.{with_range}
use Rattle.mending.proofs.lists.put_range.Given as goal

abbrev pub invariant-loop-i : goal.invariant-loop-i
invariant-loop-i l = l.list ≡ with_range l.fn.list l.from l.i
