-- The two calls on a card refuse exactly by their rungs, and a refusal leaves nothing.
-- Assumes nothing.
use mathlib.Core.Bool.{Bool, true, false, not}
use mathlib.Core.List.{List, [], ◌∷◌}
use mathlib.Core.Path.{◌≡◌, refl, sym, ap, subst, ◌∙◌}
use Prim.Native.Nat.{ℕ, ◌+◌, ◌*◌, ◌/◌, ◌≤◌, ◌<◌}
use native.Mathlib.Omega.{arith}
use borrow.Author.Tests.{le-ltb, lt-leb, eq-eqb, ne_eqb, eqb-true}
use lib.Dec.{eqb}
use lib.ListN.{length}
use Rattle.std.specs.Prelude.{if◌then◌else◌}
use Rattle.answer.specs.Rungs.{◌when◌, first_of}
use Rattle.answer.specs.declared.answers.Answer.{Answer}
use Rattle.answer.specs.declared.answers.Condition.TheVariants.{Clean}
use Rattle.answer.specs.declared.answers.Polarity.TheVariants.{Plain}
use Rattle.answer.proofs.Choices.{own_number}
use Rattle.decode.specs.Reading.{undecodable}
use Rattle.chip.specs.Slices.{row_at, not_whole, too_large}
use Rattle.chip.specs.declared.state.State.{State}
use Rattle.permit.specs.Keys.{hidden}
use Rattle.permit.specs.Permission.{may_read}
use Rattle.access.specs.Judging.{row_rungs, call_rungs}
use Rattle.form.specs.Entries.{byte_at}
use Rattle.form.specs.Writing.{head_bytes, with_head, with_job}
use Rattle.form.proofs.Putting.{length_stays, after_stays}
use Rattle.form.proofs.WholeJob.{entries_length, after_entries}
use Rattle.splash.specs.Cards.{is_mark, known_version, card_of, in_range}
use Rattle.splash.specs.Flat.{read_number, zero_card, shown_card}
use Rattle.splash.specs.Reading.{a_card, no_card, card_said, card_rungs, read_as, read_card}
use Rattle.splash.specs.Writing.{Written, ecc_entry, card_bytes, card_entries, write_number, write_card}
use Rattle.splash.specs.declared.cards.Card.{Card}
use Rattle.splash.proofs.Leaving.{write_refused, write_done}
use Rattle.splash.proofs.PageThree.{OfCard, line_in}
use Rattle.splash.proofs.Telling.{card_read_tells}
use Rattle.laws.specs.Calls.{an_ecc_read, perform}
use Rattle.laws.specs.Numbers.{number_of}
use Rattle.laws.proofs.Numbers.{given_exactly}
use Rattle.carded.specs.Refusing.{CardGives, CardRefusalZero, SixNeverComes, SevenExactly, CardNoRoom, CardAnswerNoRoom, WriteGives, WriteRefusalKeeps, WriteLeaves, WriteNoRoom}
use Rattle.carded.proofs.Saying.{given}

pub card_gives : CardGives
unfolding read_card
card_gives rows state = given (first_of (card_rungs (read_as rows state))) (card_said (read_as rows state))

pub card_refusal_zero : CardRefusalZero
unfolding read_card
card_refusal_zero rows state = go (eqb (first_of (card_rungs (read_as rows state))) 0)
  where
    go : (t : Bool) → (read_number (if t then a_card (card_said (read_as rows state)) else no_card (first_of (card_rungs (read_as rows state)))) ≡ 0 → ⊥)
        → shown_card (if t then a_card (card_said (read_as rows state)) else no_card (first_of (card_rungs (read_as rows state)))) ≡ zero_card
    go true some = absurd (some refl)
    go false some = refl

pub card_no_room : CardNoRoom
card_no_room rows state a b one other = one ∙ sym other

pub card_answer_no_room : CardAnswerNoRoom
card_answer_no_room rows state a b one other = card_read_tells a b (one ∙ sym other)

-- ---- 6 and 7

-- a number that no row gives, and that is none of the card's own
module _ (read : ℕ → Answer) (number : ℕ) (some : number ≡ 0 → ⊥) (low : number < 15) (never : (row : ℕ) → OfCard row → (read row).number ≡ number → ⊥) where
  by : (row : ℕ) (rest : ℕ) → OfCard row → (rest ≡ number → ⊥) → (if not (eqb (read row).number 0) then (read row).number else rest) ≡ number → ⊥
  by row rest of past = go (eqb (read row).number 0)
    where
      go : (t : Bool) → (if not t then (read row).number else rest) ≡ number → ⊥
      go true e = past e
      go false e = never row of e

  own : (t : Bool) (n rest : ℕ) → 15 ≤ n → (rest ≡ number → ⊥) → (if t then n else rest) ≡ number → ⊥
  own true n rest high past e = omega arith
  own false n rest high past e = past e

  not_given : first_of (card_rungs read) ≡ number → ⊥
  unfolding card_rungs
  not_given =
      by 0x0c0 _ (omega arith, omega arith)
      (by 0x0c1 _ (omega arith, omega arith)
      (by 0x0c2 _ (omega arith, omega arith)
      (by 0x0c3 _ (omega arith, omega arith)
      (by 0x0c4 _ (omega arith, omega arith)
      (own (not (is_mark (read 0x0c0).value (read 0x0c1).value)) 15 _ (omega arith)
      (own (not (known_version (read 0x0c2).value)) 16 _ (omega arith)
      (by _ _ (line_in (read 0x0c2).value)
      (own (not (in_range (card_said read))) 17 0 (omega arith) (λ e. some (sym e))))))))))

-- the first row's refusal is the card's
first_given : (read : ℕ → Answer) (number : ℕ) → (number ≡ 0 → ⊥) → (read 0x0c0).number ≡ number → first_of (card_rungs read) ≡ number
unfolding card_rungs
first_given read number some e = rw (ne_eqb (read 0x0c0).number 0 (λ none. some (sym e ∙ none))) e

module _ (rows : List ℕ) (state : State) where
  -- the number of a card's row
  row_number : (row : ℕ) → OfCard row
      → (read_as rows state row).number
      ≡ first_of (1 when not_whole rows ∷ 7 when not (may_read state 1 0x0c0) ∷ 3 when too_large rows row ∷ 8 when undecodable (row_at rows row) ∷ [])
  unfolding perform number_of call_rungs row_rungs hidden may_read
  row_number row of =
      let page : row / 64 ≡ 3 = omega (arith, of.0, of.1) in
      given_exactly (record { rows = rows; state = state }) (an_ecc_read 1 row)
      ∙ rw (le-ltb 4095 row (omega (arith, of.1)), lt-leb 0xf80 row (omega (arith, of.1)), lt-leb 0xf48 row (omega (arith, of.1)), page)

pub six_never_comes : SixNeverComes
six_never_comes rows state e =
    not_given (read_as rows state) 6 (λ z. omega arith) (omega arith)
    (λ row of six. go (not_whole rows) (not (may_read state 1 0x0c0)) (too_large rows row) (undecodable (row_at rows row)) (sym (row_number rows state row of) ∙ six))
    (sym (card_gives rows state) ∙ e)
  where
    go : (one seven three eight : Bool) → first_of (1 when one ∷ 7 when seven ∷ 3 when three ∷ 8 when eight ∷ []) ≡ 6 → ⊥
    go true seven three eight six = omega arith
    go false true three eight six = omega arith
    go false false true eight six = omega arith
    go false false false true six = omega arith
    go false false false false six = omega arith

pub seven_exactly : SevenExactly
seven_exactly rows state = (to, from)
  where
    open_rows : (row : ℕ) → OfCard row → may_read state 1 0x0c0 ≡ true → (read_as rows state row).number ≡ 7 → ⊥
    open_rows row of may seven = go (not_whole rows) (too_large rows row) (undecodable (row_at rows row)) (sym (row_number rows state row of ∙ rw may) ∙ seven)
      where
        go : (one three eight : Bool) → first_of (1 when one ∷ 7 when false ∷ 3 when three ∷ 8 when eight ∷ []) ≡ 7 → ⊥
        go true three eight e = omega arith
        go false true eight e = omega arith
        go false false true e = omega arith
        go false false false e = omega arith

    to : read_number (read_card rows state) ≡ 7 → (length rows ≡ 4096) × (may_read state 1 0x0c0 ≡ false)
    to e = go (eqb (length rows) 4096) (may_read state 1 0x0c0) refl refl
      where
        number : first_of (card_rungs (read_as rows state)) ≡ 7
        number = sym (card_gives rows state) ∙ e

        go : (long may : Bool) → eqb (length rows) 4096 ≡ long → may_read state 1 0x0c0 ≡ may → (length rows ≡ 4096) × (may_read state 1 0x0c0 ≡ false)
        go long true l m = absurd (not_given (read_as rows state) 7 (λ z. omega arith) (omega arith) (λ row of. open_rows row of m) number)
        go true false l m = (eqb-true (length rows) 4096 l, m)
        go false false l m =
            let one = first_given (read_as rows state) 1 (λ z. omega arith) (row_number rows state 0x0c0 (omega arith, omega arith) ∙ rw l) in
            absurd (omega (arith, one, number))

    from : (length rows ≡ 4096) × (may_read state 1 0x0c0 ≡ false) → read_number (read_card rows state) ≡ 7
    from shut =
        card_gives rows state
        ∙ first_given (read_as rows state) 7 (λ z. omega arith) (row_number rows state 0x0c0 (omega arith, omega arith) ∙ rw (eq-eqb (length rows) 4096 shut.0, shut.1))

-- ---- writing

-- the bytes of a card's job by its entries
pub card_bytes_lem : (card : Card) → card_bytes card ≡ 7 + 6 * length (card_entries card)
unfolding card_entries
card_bytes_lem card = go (eqb card.version 2)
  where
    go : (t : Bool) → (if t then 43 else 37)
        ≡ 7 + 6 * length (ecc_entry 0 0 ∷ ecc_entry 0 0 ∷ ecc_entry 0 0 ∷ ecc_entry 0 0 ∷ ecc_entry 0 0 ∷ (if t then ecc_entry 0x0c5 card.line ∷ [] else []))
    go true = refl
    go false = refl

-- its number is that of its rungs
pub write_gives : WriteGives
unfolding write_card
write_gives area version width height line =
    own_number (λ (w : Written). w.answer.number) (write_number (card_of version width height line) (length area)) _ _ refl refl

pub write_refusal_keeps : WriteRefusalKeeps
unfolding write_card
write_refusal_keeps area version width height line written is some =
    let card = card_of version width height line in
    subst Keeps (sym (is ∙ write_refused area card (write_number card (length area)) refl (λ none. some (ap (λ (w : Written). w.answer.number) is ∙ write_gives area version width height line ∙ none))))
    (refl, refl, refl, refl, refl, refl)
  where
    Keeps : Written → Type 0
    Keeps w =
        (w.answer.value ≡ 0) × (w.answer.condition ≡ Clean) × (w.answer.polarity ≡ Plain) × (w.answer.place ≡ 0) × (w.answer.pulses ≡ 0)
        × (w.area ≡ area)

pub write_leaves : WriteLeaves
unfolding write_card
write_leaves area version width height line written is none =
    subst Leaves (sym (is ∙ write_done area card (sym (write_gives area version width height line) ∙ sym (ap (λ (w : Written). w.answer.number) is) ∙ none)))
    (refl, refl, refl, refl, refl, long, past)
  where
    card : Card
    card = card_of version width height line

    Leaves : Written → Type 0
    Leaves w =
        (w.answer.value ≡ card_bytes (card_of version width height line)) × (w.answer.condition ≡ Clean) × (w.answer.polarity ≡ Plain)
        × (w.answer.place ≡ 0) × (w.answer.pulses ≡ 0) × (length w.area ≡ length area)
        × ((place : ℕ) → w.answer.value ≤ place → byte_at w.area place ≡ byte_at area place)

    long : length (with_job area 1 (card_entries card)) ≡ length area
    long = entries_length (card_entries card) (with_head area 1 (length (card_entries card))) 0 ∙ length_stays area 0 (head_bytes 1 (length (card_entries card)))

    past : (place : ℕ) → card_bytes card ≤ place → byte_at (with_job area 1 (card_entries card)) place ≡ byte_at area place
    past place h =
        after_entries (card_entries card) (with_head area 1 (length (card_entries card))) 0 place (omega (arith, card_bytes_lem card, h))
        ∙ after_stays area 0 (head_bytes 1 (length (card_entries card))) place (omega (arith, card_bytes_lem card, h))

pub write_no_room : WriteNoRoom
write_no_room area version width height line a b left left' one other = (one.0 ∙ sym other.0, one.1 ∙ sym other.1)
