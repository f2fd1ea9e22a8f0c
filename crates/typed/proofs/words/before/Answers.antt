-- `typed::words::before` meets its contract: up to the first such byte.
use Rattle.std.proofs.Common.{ℕ, Bool, eqb, ◌∙◌, rules, tests}
use Rattle.std.proofs.lemmas.Iterator.{YieldsList-from_slice}
use Rattle.std.proofs.lemmas.Iterator.Search.{position_from_yields_List}
use Rattle.typed.proofs.Finding.{found, up_to_first}
use Rattle.typed.proofs.words.before.Goals as goal

pub returns : goal.returns
returns c =
    let text = c.args.text.now in
    let kind : ℕ → Bool = λ own. eqb own c.args.byte in
    let place = position_from_yields_List kind _ _ c.position-end.result c.position-end.ensures.ran (YieldsList-from_slice text cc) (λ x b q k. search (rules, tests)) in
    let at = c.unwrap_or.ensures ∙ found kind text c.position-end.result place in
    rw at (up_to_first kind text)
