-- `typed::words::past_blanks` meets its contract: from the first byte that is no blank.
use Rattle.std.proofs.Common.{ℕ, Bool, length, ◌∙◌, rules, tests}
use Rattle.std.proofs.lemmas.Iterator.{YieldsList-from_slice}
use Rattle.std.proofs.lemmas.Iterator.Search.{position_from_yields_List}
use Rattle.typed.specs.Words.{is_written, up_to}
use Rattle.typed.proofs.Finding.{found, rest_whole}
use Rattle.typed.proofs.words.past_blanks.Goals as goal

pub returns : goal.returns
returns c =
    let text = c.args.text.now in
    let kind : ℕ → Bool = is_written in
    let place = position_from_yields_List kind _ _ c.position-start.result c.position-start.ensures.ran (YieldsList-from_slice text cc) (λ x b q k. search (rules, tests)) in
    let at = c.unwrap_or.ensures ∙ found kind text c.position-start.result place in
    rw at (rest_whole (length (up_to kind text)) text)
