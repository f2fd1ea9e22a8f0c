-- Request 2026-12: what a card read looks at, what a plug-in can learn by it, and a card that has worn.
use Rattle.std.specs.Prelude.{ℕ, ◌≤◌, ◌<◌, List, ◌⊎◌, ◌≡◌, length}
use Rattle.row.specs.Code.{plain, inverted}
use Rattle.decode.specs.Reading.{flipped_at}
use Rattle.chip.specs.Slices.{row_at}
use Rattle.chip.specs.declared.state.State.{State}
use Rattle.splash.specs.Reading.{read_as, read_card}
use Rattle.laws.specs.Calls.{Chip, Call, perform_all}
use Rattle.laws.specs.Reads.{Value}
use Rattle.merging.specs.Settings.{◌among◌}
use Rattle.plugins.specs.Plugins.{Agree, ByNonsecure}

-- the first five rows of two slices, and the sixth where the first slice's card is of version 2
abbrev pub OfCardRows : (ℕ → ℕ → Type 0) → List ℕ → List ℕ → State → Type 0
OfCardRows R rows other state =
    ((row : ℕ) → 0x0c0 ≤ row → row ≤ 0x0c4 → R (row_at rows row) (row_at other row))
    × ((read_as rows state 0x0c2).value ≡ 2 → R (row_at rows 0x0c5) (row_at other 0x0c5))

-- nothing else is looked at: two slices of one length that agree on these rows read alike, with the same state
abbrev pub OnlyCardRows : Type 0
OnlyCardRows =
    (rows other : List ℕ) (state : State) → length rows ≡ length other → OfCardRows ◌≡◌ rows other state
    → read_card rows state ≡ read_card other state

-- what a plug-in can learn: two chips that agree give the same card, after any calls of the plug-in too
abbrev pub CardNothingLearnt : Type 0
CardNothingLearnt =
    (a b : Chip) (calls : List Call) → ((call : Call) → call among calls → ByNonsecure call) → Agree a b
    → read_card (perform_all a calls).rows (perform_all a calls).state ≡ read_card (perform_all b calls).rows (perform_all b calls).state

-- a row as it is burnt, in either polarity, and the same row with at most one of bits 21:0 flipped
abbrev pub Worn : ℕ → ℕ → Type 0
Worn old new =
    ((value : ℕ) × Value value × ((old ≡ plain value) ⊎ (old ≡ inverted value)))
    × ((new ≡ old) ⊎ ((place : ℕ) × (place < 22) × (new ≡ flipped_at place old)))

-- a card whose rows have each worn so reads the same card
abbrev pub CardWears : Type 0
CardWears =
    (rows worn : List ℕ) (state : State) → length rows ≡ length worn → OfCardRows Worn rows worn state
    → read_card worn state ≡ read_card rows state
