-- `typed::words::word_at` meets its contract: word by word.
use Rattle.std.proofs.Common.{◌≡◌, ℕ, ◌+◌, ◌-◌, List, length, drop, ap, ◌∙◌, arith}
use Rattle.typed.specs.Words.{is_written, word_from, word_at}
use Rattle.typed.proofs.Finding.{rest_from, rest_whole, word_after, word_stands}
use Rattle.typed.proofs.words.word_at.Goals as goal

pub loop-init : goal.loop-init
unfolding word_at word_from
loop-init c = c.past_blanks-rest.ensures ∙ rest_from is_written c.args.line.now 0 (omega arith)

pub loop-preserved : goal.loop-preserved
loop-preserved c =
    let rest = c.loop.rest.now in
    let past = rest_whole (length c.first_word.result.now) rest ∙ ap (λ (n : ℕ). drop n rest) (ap length c.first_word.ensures.value) in
    c.past_blanks-rest-in-loop.ensures ∙ word_after c.args.line.now c.loop.counter rest _ c.loop.invariant past

pub returns : goal.returns
returns c =
    let line = c.args.line.now in
    let all : c.loop.counter ≡ c.args.n = omega arith in
    let rest = c.loop.rest.now in
    word_stands line c.args.n rest _ (rw all at c.loop.invariant) (omega arith) (ap (λ (bytes : List ℕ). length line - length rest + length bytes) c.first_word-2.ensures.value)
