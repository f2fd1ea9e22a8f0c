-- The line from the word so far on.
use Rattle.std.proofs.Common.{◌≡◌, drop}
use Rattle.typed.specs.Words.{word_at}
use Rattle.typed.proofs.words.word_at.Given as goal

abbrev pub invariant-loop : goal.invariant-loop
invariant-loop l = l.rest ≡ drop (word_at l.line l.counter).from l.line
