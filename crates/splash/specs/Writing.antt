-- Writing a card (request 2026-12): its number, first test first, and the job that it leaves.
use Rattle.std.specs.Prelude.{ℕ, not, List, [], ◌∷◌, eqb, ltb, length}
use Rattle.answer.specs.Answers.{refused, told}
use Rattle.std.specs.Prelude.{if◌then◌else◌}
use Rattle.answer.specs.Rungs.{◌when◌, first_of}
use Rattle.answer.specs.declared.answers.Answer.{Answer}
use Rattle.form.specs.Writing.{with_job}
use Rattle.form.specs.declared.entries.Entry.{Entry}
use Rattle.splash.specs.Cards.{known_version, card_of, in_range}
use Rattle.splash.specs.declared.cards.Card.{Card}

-- an ECC entry of a row
abbrev pub ecc_entry : ℕ → ℕ → Entry
ecc_entry row value = record { row = row; kind = 0; value = value }

-- the entries of a card: five, and a sixth for version 2
unfoldable pub card_entries : Card → List Entry
card_entries card =
    ecc_entry 0x0c0 0x5053 ∷ ecc_entry 0x0c1 0x004c ∷ ecc_entry 0x0c2 card.version
    ∷ ecc_entry 0x0c3 card.width ∷ ecc_entry 0x0c4 card.height
    ∷ (if eqb card.version 2 then ecc_entry 0x0c5 card.line ∷ [] else [])

-- the bytes of its job: 37, and 43 for version 2
abbrev pub card_bytes : Card → ℕ
card_bytes card = if eqb card.version 2 then 43 else 37

-- 16, an unknown version; 17, a size out of its range; 12, an area too short
abbrev pub write_number : Card → ℕ → ℕ
write_number card room =
    first_of
    (16 when not (known_version card.version)
    ∷ 17 when not (in_range card)
    ∷ 12 when ltb room (card_bytes card)
    ∷ [])

-- what a writing leaves: its answer, and the area
pub record Written : Type 0 where
  pub answer : Answer
  pub area : List ℕ

-- the writing of a card. Done: its job, a version 1 file, whose length is the value; refused: the area as it was
abbrev pub written_as : List ℕ → Card → Written
written_as area card =
    if eqb (write_number card (length area)) 0
    then record { answer = told (card_bytes card); area = with_job area 1 (card_entries card) }
    else record { answer = refused (write_number card (length area)); area = area }

-- write a card of four numbers
unfoldable pub write_card : List ℕ → ℕ → ℕ → ℕ → ℕ → Written
write_card area version width height line = written_as area (card_of version width height line)
