-- `access::votes::gathered`: the rows so far are those of the group, and the others are 0.
use Rattle.std.proofs.Common.{◌≡◌, length}
use Rattle.access.specs.Votes.{gathered}
use Rattle.access.proofs.votes.gathered.Given as goal

abbrev pub invariant-loop-i : goal.invariant-loop-i
invariant-loop-i l = (length l.group ≡ 8) × (l.group ≡ gathered l.rows l.row l.i)
