-- The place is one of the twelve.
use Rattle.std.proofs.Common.{◌<◌}
use Rattle.numbers.proofs.said.numbers.Given as goal

abbrev pub invariant-loop-colons : goal.invariant-loop-colons
invariant-loop-colons l = l.at < 12

abbrev pub invariant-loop-word : goal.invariant-loop-word
invariant-loop-word l = l.at < 12
