-- `row::upward::lowest`: the places so far are those of the definition, and so is the count.
-- Assumes nothing.
use mathlib.Core.Path.{◌≡◌}
use lib.Count.{ones_in}
use Rattle.row.specs.Upward.{lowest_below}
use Rattle.row.proofs.upward.lowest.Given as goal

abbrev pub invariant-loop-place : goal.invariant-loop-place
invariant-loop-place l = (l.kept ≡ lowest_below l.place l.n l.bits) × (l.passed ≡ ones_in l.place l.bits)
