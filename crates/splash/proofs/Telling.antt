-- The code's answer to a card read can be told from the one that the definitions have.
-- Assumes nothing.
use mathlib.Core.Path.{◌≡◌, refl, ap}
use Rattle.std.specs.Prelude.{Result, Ok, Err}
use Rattle.answer.specs.declared.refusals.Refusal.{Refusal}
use Rattle.answer.proofs.Numbered.{refusal_with, numbered}
use Rattle.answer.proofs.Telling.{told_apart}
use Rattle.splash.specs.Reading.{CardRead, a_card, no_card, card_read}
use Rattle.splash.specs.declared.cards.Card.{Card}

abbrev taken_back : CardRead → Result Card Refusal
taken_back (a_card card) = Ok card
taken_back (no_card number) = Err (refusal_with number)

back : (answer : Result Card Refusal) → taken_back (card_read answer) ≡ answer
back (Ok card) = refl
back (Err refusal) = ap Err (numbered refusal)

pub card_read_tells : (a b : Result Card Refusal) → card_read a ≡ card_read b → a ≡ b
card_read_tells = told_apart card_read taken_back back
