-- `vote::voting::vote`: the bits judged so far are those of the vote, and no other is set.
-- Assumes nothing.
use mathlib.Core.Path.{◌≡◌}
use lib.ListN.{take}
use Rattle.vote.specs.Voting.{voted_below}
use Rattle.vote.proofs.voting.vote.Given as goal

abbrev pub invariant-loop-place : goal.invariant-loop-place
invariant-loop-place l = l.voted ≡ voted_below l.place l.threshold (take l.counted l.rows)
