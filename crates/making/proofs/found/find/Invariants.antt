-- What was found is what the rows so far have, no more than they are.
use Rattle.std.proofs.Common.{◌≡◌, ◌≤◌}
use Rattle.making.specs.Found.{found_below}
use Rattle.making.proofs.found.find.Given as goal

abbrev pub invariant-loop-row : goal.invariant-loop-row
invariant-loop-row l = (l.found.rows ≤ l.row) × (l.found ≡ found_below l.why l.present l.wanted l.row)
