-- The splash card (request 2026-12): what it says, and the sizes that it may have. Its rows are ECC rows, from 0x0c0 on: the mark in two, the
-- version, the width, the height; version 2 has a sixth row, bytes in a line.
use Rattle.std.specs.Prelude.{ℕ, Bool, ◌&&◌, ◌||◌, eqb, leb}
use Rattle.std.specs.Prelude.{if◌then◌else◌}
use Rattle.splash.specs.declared.cards.Card.{Card}

-- the mark is 0x5053, 0x004c
abbrev pub is_mark : ℕ → ℕ → Bool
is_mark first second = eqb first 0x5053 && eqb second 0x004c

-- there are two versions, 1 and 2
abbrev pub known_version : ℕ → Bool
known_version version = eqb version 1 || eqb version 2

-- the card of four numbers: version 2 has a line of its own; version 1 ignores one, and answers its width
abbrev pub card_of : ℕ → ℕ → ℕ → ℕ → Card
card_of version width height line =
    record { version = version; width = width; height = height; line = if eqb version 2 then line else width }

-- width is 1 to 320, height 1 to 240, unsigned; bytes in a line at least the width and at most 1,024
abbrev pub in_range : Card → Bool
in_range card =
    leb 1 card.width && leb card.width 320
    && leb 1 card.height && leb card.height 240
    && leb card.width card.line && leb card.line 1024
