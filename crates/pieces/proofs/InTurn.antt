-- Faults looked for one place after the other: forms, rows, and both are so.
-- Assumes nothing.
use mathlib.Core.Path.{◌≡◌, refl, sym, ap, ap₂, ◌∙◌}
use mathlib.Core.Bool.{Bool, true, false}
use mathlib.Core.List.{List}
use Prim.Native.Nat.{ℕ, zero, suc, ◌+◌, ◌-◌, ◌≤◌, ◌<◌}
use native.Mathlib.Numerals.{add-one}
use native.Mathlib.Omega.{arith}
use borrow.Author.Tests.{eqb-true, eqb-false, ne_eqb}
use lib.Dec.{eqb}
use Rattle.answer.proofs.Choices.{both_ways}
use Rattle.answer.proofs.Ladders.{never_zero}
use Rattle.form.specs.Entries.{entry_at, entries_from}
use Rattle.form.specs.Faults.{fault_number, ◌otherwise◌, form_fault, form_faults, row_fault, order_faults, Fault, Sound}
use Rattle.form.proofs.Faulty.{both_sound}
use Rattle.lead.specs.Early.{entry_faults}
use Rattle.lead.proofs.InTurn.{grouped}
use Rattle.pieces.specs.Words.{least_at}

-- the first fault of so many places from one on
unfoldable pub in_turn : (ℕ → Fault) → ℕ → ℕ → Fault
in_turn fault i zero = Sound
in_turn fault i (suc n) = fault i otherwise in_turn fault (suc i) n

module _ (fault : ℕ → Fault) where
  -- none in all: none at each
  pub each_sound : (n i : ℕ) → in_turn fault i n ≡ Sound → (k : ℕ) → i ≤ k → k < i + n → fault k ≡ Sound
  unfolding in_turn
  each_sound zero i sound k low high = absurd (omega arith)
  each_sound (suc n) i sound k low high =
      let parts = both_sound (fault i) (in_turn fault (suc i) n) sound in
      go parts.0 (each_sound n (suc i) parts.1 k) (eqb k i) refl
    where
      go : fault i ≡ Sound → (suc i ≤ k → k < suc i + n → fault k ≡ Sound) → (t : Bool) → eqb k i ≡ t → fault k ≡ Sound
      go own others true same = ap fault (eqb-true k i same) ∙ own
      go own others false other =
          let more : suc i ≤ k = omega (arith, low, eqb-false k i other) in
          others more (omega arith)

  -- none at each: none in all
  pub all_sound : (n i : ℕ) → ((k : ℕ) → i ≤ k → k < i + n → fault k ≡ Sound) → in_turn fault i n ≡ Sound
  unfolding in_turn
  all_sound zero i each = refl
  all_sound (suc n) i each =
      rw (each i (omega arith) (omega arith)) (all_sound n (suc i) (λ k low high. each k (omega arith) (omega arith)))

  -- a number at none: that number never
  pub none_given : (number : ℕ) (n i : ℕ) → ((k : ℕ) → i ≤ k → k < i + n → fault_number (fault k) ≡ suc number → ⊥)
      → fault_number (in_turn fault i n) ≡ suc number → ⊥
  unfolding in_turn
  none_given number zero i each = λ given. never_zero number (sym given)
  none_given number (suc n) i each =
      both_ways (λ (f : Fault). fault_number f ≡ suc number → ⊥) (eqb (fault_number (fault i)) 0) (in_turn fault (suc i) n) (fault i)
      (none_given number n (suc i) (λ k low high. each k (omega arith) (omega arith))) (each i (omega arith) (omega arith))

-- ---- the entries of a file

module _ (file : List ℕ) (version : ℕ) where
  -- the form of an entry, its row, and both
  abbrev pub form : ℕ → Fault
  form k = form_fault k (entry_at file k)

  abbrev pub place : ℕ → Fault
  place k = row_fault version k (least_at file k) (entry_at file k)

  abbrev pub both : ℕ → Fault
  both k = form k otherwise place k

  least_next : (i : ℕ) → (entry_at file i).row + 1 ≡ least_at file (suc i)
  least_next i =
      let before : suc i - 1 ≡ i = omega arith in
      rw (ne_eqb (suc i) 0 (λ e. omega arith), before)

  pub forms_turn : (n i : ℕ) → form_faults i (entries_from file i n) ≡ in_turn form i n
  unfolding form_faults entries_from in_turn
  forms_turn zero i = refl
  forms_turn (suc n) i =
      ap (λ (f : Fault). form i otherwise f) (ap (λ (m : ℕ). form_faults m (entries_from file (suc i) n)) (add-one i) ∙ forms_turn n (suc i))

  pub places_turn : (n i : ℕ) → order_faults version i (least_at file i) (entries_from file i n) ≡ in_turn place i n
  unfolding order_faults entries_from in_turn
  places_turn zero i = refl
  places_turn (suc n) i =
      ap (λ (f : Fault). place i otherwise f)
      (ap₂ (λ (m least : ℕ). order_faults version m least (entries_from file (suc i) n)) (add-one i) (least_next i) ∙ places_turn n (suc i))

  pub both_turn : (n i : ℕ) → entry_faults version i (least_at file i) (entries_from file i n) ≡ in_turn both i n
  unfolding entry_faults entries_from in_turn
  both_turn zero i = refl
  both_turn (suc n) i =
      grouped (form i) (place i) (entry_faults version (i + 1) ((entry_at file i).row + 1) (entries_from file (suc i) n))
      ∙ ap (λ (f : Fault). both i otherwise f)
      (ap₂ (λ (m least : ℕ). entry_faults version m least (entries_from file (suc i) n)) (add-one i) (least_next i) ∙ both_turn n (suc i))
