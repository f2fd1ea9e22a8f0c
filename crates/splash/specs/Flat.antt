-- What C gets of a card read: its number, and the card; every refusal has all four 0 (request 2026-12).
use Rattle.std.specs.Prelude.{ℕ}
use Rattle.splash.specs.declared.cards.Card.{Card}
use Rattle.splash.specs.declared.flat.FlatCard.{FlatCard}
use Rattle.splash.specs.Reading.{CardRead, a_card, no_card}

-- a card is 0, and none has its number
abbrev pub read_number : CardRead → ℕ
read_number (a_card card) = 0
read_number (no_card number) = number

-- where there is none, all four are 0
abbrev pub zero_card : Card
zero_card = record { version = 0; width = 0; height = 0; line = 0 }

abbrev pub shown_card : CardRead → Card
shown_card (a_card card) = card
shown_card (no_card number) = zero_card

-- both
unfoldable pub flat_card : CardRead → FlatCard
flat_card read = record {
  number = read_number read;
  version = (shown_card read).version;
  width = (shown_card read).width;
  height = (shown_card read).height;
  line = (shown_card read).line;
}
