-- The contracts leave no room: of each call they allow one result, and it is the one that the promises speak of.
-- Assumes nothing.
use mathlib.Core.List.{List}
use mathlib.Core.Path.{◌≡◌, refl, sym, ap₂, ◌∙◌}
use Prim.Native.Nat.{ℕ}
use Rattle.answer.specs.declared.answers.Answer.{Answer}
use Rattle.chip.specs.declared.state.Outcome.{Outcome}
use Rattle.laws.specs.Calls.{Chip, Result, a_reset, a_raw_read, an_ecc_read, a_vote, a_raw_write, an_ecc_write, an_advance, a_show, a_key, a_job, a_rehearsal, an_end, a_repair, perform}
use Rattle.laws.specs.Allowing.{outcome_of, Allows, NoRoom, PromisedIsAllowed}

module _ (a b : Result) where
  -- one answer, and the chip as it was
  by_answer : (answer : Answer) (chip : Chip) → (a.answer ≡ answer) × (a.chip ≡ chip) → (b.answer ≡ answer) × (b.chip ≡ chip) → a ≡ b
  by_answer answer chip (first, kept) (second, kept') =
      ap₂ (λ (told : Answer) (left : Chip). made told left) (first ∙ sym second) (kept ∙ sym kept')
    where
      made : Answer → Chip → Result
      made told left = record { answer = told; chip = left }

  -- one outcome, and the rows
  by_outcome : (outcome : Outcome) (rows : List ℕ) → (outcome_of a ≡ outcome) × (a.chip.rows ≡ rows)
      → (outcome_of b ≡ outcome) × (b.chip.rows ≡ rows) → a ≡ b
  by_outcome outcome rows (first, left) (second, left') =
      ap₂ (λ (o : Outcome) (held : List ℕ). made o held) (first ∙ sym second) (left ∙ sym left')
    where
      made : Outcome → List ℕ → Result
      made o held = record { answer = o.answer; chip = record { rows = held; state = o.state } }

pub no_room : NoRoom
unfolding Allows
no_room chip a_reset a b = by_outcome a b _ _
no_room chip (a_raw_read caller row) a b = by_answer a b _ _
no_room chip (an_ecc_read caller row) a b = by_answer a b _ _
no_room chip (a_vote caller row count) a b = by_answer a b _ _
no_room chip (a_raw_write caller row value) a b = by_outcome a b _ _
no_room chip (an_ecc_write caller row value) a b = by_outcome a b _ _
no_room chip (an_advance caller domain page level) a b = by_outcome a b _ _
no_room chip (a_show caller domain page) a b = by_answer a b _ _
no_room chip (a_key caller key) a b = by_outcome a b _ _
no_room chip (a_job job) a b = by_outcome a b _ _
no_room chip (a_rehearsal job limit) a b = by_outcome a b _ _
no_room chip (an_end area note) a b = by_outcome a b _ _
no_room chip (a_repair list report) a b = by_outcome a b _ _

pub promised_is_allowed : PromisedIsAllowed
unfolding Allows perform
promised_is_allowed chip a_reset = (refl, refl)
promised_is_allowed chip (a_raw_read caller row) = (refl, refl)
promised_is_allowed chip (an_ecc_read caller row) = (refl, refl)
promised_is_allowed chip (a_vote caller row count) = (refl, refl)
promised_is_allowed chip (a_raw_write caller row value) = (refl, refl)
promised_is_allowed chip (an_ecc_write caller row value) = (refl, refl)
promised_is_allowed chip (an_advance caller domain page level) = (refl, refl)
promised_is_allowed chip (a_show caller domain page) = (refl, refl)
promised_is_allowed chip (a_key caller key) = (refl, refl)
promised_is_allowed chip (a_job job) = (refl, refl)
promised_is_allowed chip (a_rehearsal job limit) = (refl, refl)
promised_is_allowed chip (an_end area note) = (refl, refl)
promised_is_allowed chip (a_repair list report) = (refl, refl)
