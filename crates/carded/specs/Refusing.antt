-- Request 2026-12: when the two calls on a card are refused, and demand 1 of them: reading answers a card or none, writing is lent no chip.
use Rattle.std.specs.Prelude.{ℕ, ◌≤◌, false, List, Result, ◌↔◌, ◌≡◌, length}
use Rattle.answer.specs.Rungs.{first_of}
use Rattle.answer.specs.declared.answers.Answer.{Answer}
use Rattle.answer.specs.declared.answers.Condition.TheVariants.{Clean}
use Rattle.answer.specs.declared.answers.Polarity.TheVariants.{Plain}
use Rattle.answer.specs.declared.refusals.Refusal.{Refusal}
use Rattle.chip.specs.declared.state.State.{State}
use Rattle.permit.specs.Permission.{may_read}
use Rattle.form.specs.Entries.{byte_at}
use Rattle.splash.specs.Cards.{card_of}
use Rattle.splash.specs.Flat.{read_number, zero_card, shown_card}
use Rattle.splash.specs.Reading.{CardRead, card_rungs, read_as, read_card, card_read}
use Rattle.splash.specs.Writing.{Written, card_bytes, write_number, write_card}
use Rattle.splash.specs.declared.cards.Card.{Card}

-- a read's number is the first of its rungs that holds
abbrev pub CardGives : Type 0
CardGives = (rows : List ℕ) (state : State) → read_number (read_card rows state) ≡ first_of (card_rungs (read_as rows state))

-- every refusal has all four 0
abbrev pub CardRefusalZero : Type 0
CardRefusalZero =
    (rows : List ℕ) (state : State) → (read_number (read_card rows state) ≡ 0 → ⊥) → shown_card (read_card rows state) ≡ zero_card

-- all six rows are in page 3 and below 0xf40: 6 never comes, and 7 exactly of a whole slice whose first row Non-secure may not read
abbrev pub SixNeverComes : Type 0
SixNeverComes = (rows : List ℕ) (state : State) → read_number (read_card rows state) ≡ 6 → ⊥

abbrev pub SevenExactly : Type 0
SevenExactly =
    (rows : List ℕ) (state : State)
    → (read_number (read_card rows state) ≡ 7) ↔ ((length rows ≡ 4096) × (may_read state 1 0x0c0 ≡ false))

-- what the contract of a read allows, and that it leaves no room
abbrev pub CardAllows : List ℕ → State → CardRead → Type 0
CardAllows rows state read = read ≡ read_card rows state

abbrev pub CardNoRoom : Type 0
CardNoRoom = (rows : List ℕ) (state : State) (a b : CardRead) → CardAllows rows state a → CardAllows rows state b → a ≡ b

-- the same of what the code answers, which is a card or a refusal by its name
abbrev pub CardAnswerAllows : List ℕ → State → Result Card Refusal → Type 0
CardAnswerAllows rows state answer = card_read answer ≡ read_card rows state

abbrev pub CardAnswerNoRoom : Type 0
CardAnswerNoRoom =
    (rows : List ℕ) (state : State) (a b : Result Card Refusal) → CardAnswerAllows rows state a → CardAnswerAllows rows state b → a ≡ b

-- a writing's number is the first of its rungs that holds
abbrev pub WriteGives : Type 0
WriteGives =
    (area : List ℕ) (version width height line : ℕ)
    → (write_card area version width height line).answer.number ≡ write_number (card_of version width height line) (length area)

-- a refusal returns value 0, condition clean, plain, place 0 and 0 pulses, and leaves the area as it was
abbrev pub WriteRefusalKeeps : Type 0
WriteRefusalKeeps =
    (area : List ℕ) (version width height line : ℕ) (written : Written) → written ≡ write_card area version width height line
    → (written.answer.number ≡ 0 → ⊥)
    → (written.answer.value ≡ 0) × (written.answer.condition ≡ Clean) × (written.answer.polarity ≡ Plain)
    × (written.answer.place ≡ 0) × (written.answer.pulses ≡ 0) × (written.area ≡ area)

-- done, the value is the length of the job, and all other fields are 0; the area is as long as it was, and has every byte from the value on as
-- it was
abbrev pub WriteLeaves : Type 0
WriteLeaves =
    (area : List ℕ) (version width height line : ℕ) (written : Written) → written ≡ write_card area version width height line
    → written.answer.number ≡ 0
    → (written.answer.value ≡ card_bytes (card_of version width height line)) × (written.answer.condition ≡ Clean)
    × (written.answer.polarity ≡ Plain) × (written.answer.place ≡ 0) × (written.answer.pulses ≡ 0)
    × (length written.area ≡ length area)
    × ((place : ℕ) → written.answer.value ≤ place → byte_at written.area place ≡ byte_at area place)

-- what the contract of a writing allows, and that it leaves no room
abbrev pub WriteAllows : List ℕ → ℕ → ℕ → ℕ → ℕ → Answer → List ℕ → Type 0
WriteAllows area version width height line answer left = (answer ≡ (write_card area version width height line).answer) × (left ≡ (write_card area version width height line).area)

abbrev pub WriteNoRoom : Type 0
WriteNoRoom =
    (area : List ℕ) (version width height line : ℕ) (a b : Answer) (left left' : List ℕ)
    → WriteAllows area version width height line a left → WriteAllows area version width height line b left' → (a ≡ b) × (left ≡ left')
