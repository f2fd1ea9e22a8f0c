-- Sizes are in range, and the row of all ones.
-- Assumes nothing.
use mathlib.Core.Bool.{true, and-eq-true_iff}
use mathlib.Core.List.{List}
use mathlib.Core.Path.{◌≡◌, refl, sym, ap, subst, ◌∙◌}
use Prim.Native.Nat.{ℕ, ◌≤◌}
use native.Mathlib.Nat.{mul-le-mul_right}
use native.Mathlib.Omega.{arith}
use borrow.Author.Tests.{leb-true}
use lib.Count.{ones_in}
use lib.Dec.{eqb}
use Rattle.answer.specs.Answers.{refused, found, found_in}
use Rattle.answer.specs.Rungs.{first_of}
use Rattle.answer.specs.declared.answers.Answer.{Answer}
use Rattle.answer.specs.declared.answers.Condition.TheVariants.{Clean}
use Rattle.answer.specs.declared.answers.Polarity.TheVariants.{Inverted}
use Rattle.answer.proofs.Choices.{both_ways}
use Rattle.row.specs.Code.{set_bits, parity, masks, with_check, with_checks, code, plain}
use Rattle.row.proofs.Codes.{code_lt}
use Rattle.decode.specs.Reading.{read_row, repaired_below, decoded}
use Rattle.chip.specs.Slices.{row_at}
use Rattle.chip.specs.declared.state.State.{State}
use Rattle.access.specs.Reads.{read_ecc_number, read_ecc}
use Rattle.splash.specs.Cards.{in_range}
use Rattle.splash.specs.Flat.{flat_card}
use Rattle.splash.specs.Reading.{card_said, card_rungs, read_as, read_card}
use Rattle.splash.specs.declared.cards.Card.{Card}
use Rattle.splash.proofs.Answering.{ReadsAs, size_refuses}
use Rattle.splash.proofs.PageThree.{OfCard}
use Rattle.laws.specs.Reads.{Value}
use Rattle.laws.proofs.Reading.{undamaged}
use Rattle.carded.specs.Sizes.{InRange, SizesInRange, SizesForC, AllOnesIsZero, AllOnesIsNoCard, AllOnesIs17}
use Rattle.carded.proofs.Saying.{given, shown, all_passed, card_of_lem}
use Rattle.carded.proofs.CardRows.{read_there}

pub in_range_lem : (card : Card) → in_range card ≡ true → InRange card.width card.height card.line
in_range_lem card e =
    let five = (and-eq-true_iff _ _).0 e in
    let four = (and-eq-true_iff _ _).0 five.0 in
    let three = (and-eq-true_iff _ _).0 four.0 in
    let two = (and-eq-true_iff _ _).0 three.0 in
    let one = (and-eq-true_iff _ _).0 two.0 in
    let high = leb-true card.height 240 three.1 in
    let long = leb-true card.line 1024 five.1 in (
      leb-true 1 card.width one.0,
      leb-true card.width 320 one.1,
      leb-true 1 card.height two.1,
      high,
      leb-true card.width card.line four.1,
      long,
      omega (arith, high, mul-le-mul_right card.height long),
    )

pub sizes_in_range : SizesInRange
unfolding read_card
sizes_in_range rows state card e =
    let parts = shown (first_of (card_rungs (read_as rows state))) (card_said (read_as rows state)) card e in
    subst (λ (c : Card). InRange c.width c.height c.line) parts.1
    (in_range_lem (card_said (read_as rows state)) (all_passed (read_as rows state) parts.0).sizes)

pub sizes_for_c : SizesForC
unfolding read_card flat_card
sizes_for_c rows state none =
    let read = read_as rows state in
    let p = all_passed read (sym (given (first_of (card_rungs read)) (card_said read)) ∙ none) in
    rw (card_of_lem read p) (in_range_lem (card_said read) p.sizes)

pub all_ones_is_zero : AllOnesIsZero
unfolding code with_checks with_check masks parity set_bits ones_in repaired_below decoded
all_ones_is_zero = refl

-- a row of all ones is read as 0 or refused: its value is 0 either way
zero_either_way : (rows : List ℕ) (state : State) (row : ℕ) → row_at rows row ≡ 0xffffff → (read_as rows state row).value ≡ 0
unfolding read_ecc
zero_either_way rows state row ones =
    both_ways (λ (a : Answer). a.value ≡ 0) (eqb (read_ecc_number rows state 1 row) 0) (read_row (row_at rows row)) (refused (read_ecc_number rows state 1 row))
    (ap (λ (held : ℕ). (read_row held).value) ones ∙ ap (λ (a : Answer). a.value) all_ones_is_zero) refl

pub all_ones_is_no_card : AllOnesIsNoCard
unfolding read_card
all_ones_is_no_card rows state card ones e =
    let read = read_as rows state in
    let p = all_passed read (shown (first_of (card_rungs read)) (card_said read) card e).0 in
    omega (arith, (in_range_lem (card_said read) p.sizes).0, zero_either_way rows state 0x0c3 ones)

-- a plain row is in range
plain_small : (rows : List ℕ) (row value : ℕ) → Value value → row_at rows row ≡ plain value → row_at rows row ≤ 16777215
plain_small rows row value h e = omega (arith, e, code_lt value h)

pub all_ones_is17 : AllOnesIs17
unfolding read_card
all_ones_is17 rows state height whole may h first second third fourth fifth =
    sym
    (size_refuses (read_as rows state) 0x5053 (plain_reads 0x0c0 0x5053 (omega arith, omega arith) (omega arith) first)
    0x004c (plain_reads 0x0c1 0x004c (omega arith, omega arith) (omega arith) second)
    1 (plain_reads 0x0c2 1 (omega arith, omega arith) (omega arith) third)
    0 width height (plain_reads 0x0c4 height (omega arith, omega arith) h fifth) refl refl 0 width refl)
  where
    -- what a row reads as, where that is no refusal
    done : (row : ℕ) (answer : Answer) → read_as rows state row ≡ answer → answer.number ≡ 0 → ReadsAs (read_as rows state) row answer.value
    done row answer e none = record { number = ap (λ (a : Answer). a.number) e ∙ none; value_is = ap (λ (a : Answer). a.value) e }

    plain_reads : (row value : ℕ) → OfCard row → Value value → row_at rows row ≡ plain value → ReadsAs (read_as rows state) row value
    plain_reads row value of v e =
        done row (found value Clean)
        (read_there rows state whole may row of (found value Clean) (plain_small rows row value v e) (ap read_row e ∙ (undamaged value v).0) refl) refl

    width : ReadsAs (read_as rows state) 0x0c3 0
    width =
        done 0x0c3 (found_in Inverted 0 Clean)
        (read_there rows state whole may 0x0c3 (omega arith, omega arith) (found_in Inverted 0 Clean) (omega (arith, fourth)) (ap read_row fourth ∙ all_ones_is_zero) refl) refl
