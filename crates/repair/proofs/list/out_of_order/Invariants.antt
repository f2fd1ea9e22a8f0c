-- `repair::list::out_of_order`: the rows that are left answer for the whole list.
use Rattle.std.proofs.Common.{◌≡◌, drop}
use Rattle.repair.specs.Pass.{out_of_order}
use Rattle.repair.proofs.list.out_of_order.Given as goal

abbrev pub invariant-loop-row : goal.invariant-loop-row
invariant-loop-row l = out_of_order 0 l.list ≡ out_of_order l.least (drop l.row-index l.list)
