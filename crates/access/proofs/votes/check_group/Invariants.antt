-- `access::votes::check_group`: what is left to judge answers for the whole group.
use Rattle.std.proofs.Common.{◌≡◌, ◌-◌}
use Rattle.answer.specs.Rungs.{first_of}
use Rattle.access.specs.Votes.{group_rungs}
use Rattle.access.proofs.votes.check_group.Given as goal

abbrev pub invariant-loop-at : goal.invariant-loop-at
invariant-loop-at l =
    first_of (group_rungs l.rows l.state l.caller l.row l.count) ≡ first_of (group_rungs l.rows l.state l.caller l.at (l.at-end - l.at))
