-- `splash::writing::write_card` meets its contract: judged whole before the first byte is put.
use Rattle.std.proofs.Common.{length, refl, sym, ap, ◌∙◌}
use Rattle.std.proofs.lemmas.Bool.{eqb-false}
use Rattle.answer.proofs.Numbered.{not_done}
use Rattle.splash.specs.Cards.{card_of}
use Rattle.splash.specs.Writing.{write_card, write_number}
use Rattle.splash.specs.declared.cards.Card.{Card}
use Rattle.splash.proofs.Leaving.{write_refused, write_done}
use Rattle.splash.proofs.writing.write_card.Goals as goal

pub returns-in-Ok : goal.returns-in-Ok
unfolding write_card
returns-in-Ok c =
    let area = c.args.area.now in
    let judged = c.in-Ok.ensures ∙ ap (λ (card : Card). write_number card (length area)) c.of-card.ensures in
    let left = write_done area (card_of c.args.version c.args.width c.args.height c.args.line) (sym judged) in
    rw (c.told.ensures, c.card_bytes.ensures, c.put_card.ensures, c.of-card.ensures, left) (refl, refl)

pub returns-in-Err : goal.returns-in-Err
unfolding write_card
returns-in-Err c =
    let area = c.args.area.now in
    let judged = c.in-Err.ensures ∙ ap (λ (card : Card). write_number card (length area)) c.of-card.ensures in
    let left = write_refused area (card_of c.args.version c.args.width c.args.height c.args.line) _ judged (eqb-false _ 0 (not_done c.in-Err.refusal)) in
    rw (c.into.ensures, left) (refl, refl)
