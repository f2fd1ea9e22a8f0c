-- The rows before a place are in order.
use Rattle.std.proofs.Common.{◌≡◌, false, take}
use Rattle.repair.specs.Pass.{out_of_order}
use Rattle.mending.proofs.lists.first_out.Given as goal

abbrev pub invariant-loop-place : goal.invariant-loop-place
invariant-loop-place l = out_of_order 0 (take l.place l.list) ≡ false
