-- `typed::words::next_line` meets its contract: past the end of this line.
use Rattle.std.proofs.Common.{ap, ◌∙◌}
use Rattle.typed.specs.Words.{ends_line, up_to, place_of}
use Rattle.typed.proofs.Finding.{part_rest}
use Rattle.typed.proofs.words.next_line.Goals as goal

pub returns : goal.returns
unfolding place_of
returns c =
    let line = c.before-line.ensures ∙ ap (up_to ends_line) (c.part.ensures ∙ part_rest c.args.text.now c.args.start) in
    rw (c.min-2.ensures, c.min.ensures, line)
