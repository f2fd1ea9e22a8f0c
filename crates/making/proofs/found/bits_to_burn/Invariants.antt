-- The bits are those of the rows so far, at most 24 each.
use Rattle.std.proofs.Common.{◌≡◌, ◌*◌, ◌≤◌}
use Rattle.making.specs.Found.{bits_below}
use Rattle.making.proofs.found.bits_to_burn.Given as goal

abbrev pub invariant-loop-row : goal.invariant-loop-row
invariant-loop-row l = (l.bits ≤ 24 * l.row) × (l.bits ≡ bits_below l.present l.wanted l.row)
