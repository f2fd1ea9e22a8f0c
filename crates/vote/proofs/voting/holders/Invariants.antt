-- `vote::voting::holders`: the count so far is that of the rows passed that count, and at most one for each.
-- Assumes nothing.
use mathlib.Core.Path.{◌≡◌}
use Prim.Native.Nat.{◌≤◌}
use lib.ListN.{take}
use Rattle.vote.specs.Voting.{holders}
use Rattle.vote.proofs.voting.holders.Given as goal

abbrev pub invariant-loop-i : goal.invariant-loop-i
invariant-loop-i l = (l.held ≤ l.i) × (l.held ≡ holders l.place (take l.i (take l.count l.rows)))
