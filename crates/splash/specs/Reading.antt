-- Reading a card (request 2026-12): its number, first test first, and the card.
use Rattle.std.specs.Prelude.{ℕ, not, Bool, List, [], ◌∷◌, eqb, Result, Ok, Err}
use Rattle.std.specs.Prelude.{if◌then◌else◌}
use Rattle.answer.specs.Answers.{answered}
use Rattle.answer.specs.Refusals.{refusal_number}
use Rattle.answer.specs.Rungs.{Rung, ◌when◌, first_of}
use Rattle.answer.specs.declared.answers.Answer.{Answer}
use Rattle.answer.specs.declared.refusals.Refusal.{Refusal}
use Rattle.chip.specs.Slices.{row_at, not_whole, too_large}
use Rattle.chip.specs.declared.state.State.{State}
use Rattle.decode.specs.Reading.{read_row, undecodable}
use Rattle.access.specs.Reads.{read_ecc}
use Rattle.splash.specs.Cards.{is_mark, known_version, in_range}
use Rattle.splash.specs.declared.cards.Card.{Card}

-- what a card read answers: a card, or none with its number
pub data CardRead : Type 0 where
  a_card : Card → CardRead
  no_card : ℕ → CardRead

-- the row of the bytes in a line: that of version 2 is the sixth; version 1 answers its width
abbrev pub line_row : ℕ → ℕ
line_row version = if eqb version 2 then 0x0c5 else 0x0c3

-- the bytes in a line, by what each row reads as
abbrev pub line_read : (ℕ → Answer) → Answer
line_read read = read (line_row (read 0x0c2).value)

-- the card that the rows say, by what each row reads as
abbrev pub card_said : (ℕ → Answer) → Card
card_said read =
    record { version = (read 0x0c2).value; width = (read 0x0c3).value; height = (read 0x0c4).value; line = (line_read read).value }

-- the refusal of a row's read, where it is refused
abbrev pub refusal_of : Answer → Rung
refusal_of read = read.number when not (eqb read.number 0)

-- the refusals of the first five rows, lowest first; 15, a wrong mark; 16, an unknown version; those of a version 2 card's sixth row; 17, a size
-- out of its range
unfoldable pub card_rungs : (ℕ → Answer) → List Rung
card_rungs read =
    refusal_of (read 0x0c0) ∷ refusal_of (read 0x0c1) ∷ refusal_of (read 0x0c2) ∷ refusal_of (read 0x0c3) ∷ refusal_of (read 0x0c4)
    ∷ 15 when not (is_mark (read 0x0c0).value (read 0x0c1).value)
    ∷ 16 when not (known_version (read 0x0c2).value)
    ∷ refusal_of (line_read read)
    ∷ 17 when not (in_range (card_said read))
    ∷ []

-- number 0 is a card; any other is none
abbrev pub card_answered : ℕ → Card → CardRead
card_answered number card = if eqb number 0 then a_card card else no_card number

-- each row reads as an ECC read by Non-secure answers
abbrev pub read_as : List ℕ → State → ℕ → Answer
read_as rows state row = read_ecc rows state 1 row

-- read a card, as Non-secure
unfoldable pub read_card : List ℕ → State → CardRead
read_card rows state = card_answered (first_of (card_rungs (read_as rows state))) (card_said (read_as rows state))

-- a card read as the code answers it, as such a one
abbrev pub card_read : Result Card Refusal → CardRead
card_read (Ok card) = a_card card
card_read (Err refusal) = no_card (refusal_number refusal)

-- a row read by one who may read page 3, or may not
abbrev pub read_where : List ℕ → Bool → ℕ → Answer
read_where rows may row =
    answered
    (first_of
    (1 when not_whole rows
    ∷ 7 when not may
    ∷ 3 when too_large rows row
    ∷ 8 when undecodable (row_at rows row)
    ∷ []))
    (read_row (row_at rows row))
