-- Request 2026-12: the sizes that a card read answers are in their ranges, for every slice and every state; and the row of all ones.
use Rattle.std.specs.Prelude.{ℕ, ◌*◌, ◌≤◌, true, List, ◌≡◌, length}
use Rattle.answer.specs.Answers.{found_in}
use Rattle.answer.specs.declared.answers.Condition.TheVariants.{Clean}
use Rattle.answer.specs.declared.answers.Polarity.TheVariants.{Inverted}
use Rattle.row.specs.Code.{plain}
use Rattle.decode.specs.Reading.{read_row}
use Rattle.chip.specs.Slices.{row_at}
use Rattle.chip.specs.declared.state.State.{State}
use Rattle.permit.specs.Permission.{may_read}
use Rattle.splash.specs.Flat.{flat_card}
use Rattle.splash.specs.Reading.{a_card, no_card, read_card}
use Rattle.splash.specs.declared.cards.Card.{Card}
use Rattle.laws.specs.Reads.{Value}

-- a width, a height and bytes in a line: none of them is below 1, so none is minus one, and line x height is at most 245,760
abbrev pub InRange : ℕ → ℕ → ℕ → Type 0
InRange width height line =
    (1 ≤ width) × (width ≤ 320) × (1 ≤ height) × (height ≤ 240) × (width ≤ line) × (line ≤ 1024) × (line * height ≤ 245760)

-- a card that is read has its sizes in range
abbrev pub SizesInRange : Type 0
SizesInRange = (rows : List ℕ) (state : State) (card : Card) → read_card rows state ≡ a_card card → InRange card.width card.height card.line

-- and so has what C gets where the number is 0
abbrev pub SizesForC : Type 0
SizesForC =
    (rows : List ℕ) (state : State) → (flat_card (read_card rows state)).number ≡ 0
    → InRange (flat_card (read_card rows state)).width (flat_card (read_card rows state)).height (flat_card (read_card rows state)).line

-- the row of all ones, burnt inverted and then plain on top, reads as 0, inverted and clean
abbrev pub AllOnesIsZero : Type 0
AllOnesIsZero = read_row 0xffffff ≡ found_in Inverted 0 Clean

-- whatever else the rows hold, there is no card where the width's row is all ones
abbrev pub AllOnesIsNoCard : Type 0
AllOnesIsNoCard = (rows : List ℕ) (state : State) (card : Card) → row_at rows 0x0c3 ≡ 0xffffff → read_card rows state ≡ a_card card → ⊥

-- and where all else of a version 1 card is well it is refused with 17
abbrev pub AllOnesIs17 : Type 0
AllOnesIs17 =
    (rows : List ℕ) (state : State) (height : ℕ) → length rows ≡ 4096 → may_read state 1 0x0c0 ≡ true → Value height
    → row_at rows 0x0c0 ≡ plain 0x5053 → row_at rows 0x0c1 ≡ plain 0x004c → row_at rows 0x0c2 ≡ plain 1
    → row_at rows 0x0c3 ≡ 0xffffff → row_at rows 0x0c4 ≡ plain height → read_card rows state ≡ no_card 17
