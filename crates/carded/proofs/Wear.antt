-- A row with one of bits 21:0 flipped reads as the same value, so a card that has worn so is the same card.
-- Assumes nothing.
use mathlib.Core.Bool.{Bool, true, false, not}
use mathlib.Core.List.{List, [], ◌∷◌}
use mathlib.Core.Logic.{◌⊎◌, inl, inr}
use mathlib.Core.Path.{◌≡◌, refl, sym, ap, ◌∙◌}
use Prim.Native.Nat.{ℕ, ◌^◌, ◌≤◌, ◌<◌}
use native.Mathlib.Omega.{arith}
use borrow.Author.Tests.{le-ltb}
use lib.Bits.{xor_lt}
use lib.Dec.{ltb}
use lib.ListN.{length}
use lib.Pow.{pow-lt}
use Rattle.answer.specs.Answers.{answered}
use Rattle.answer.specs.Rungs.{◌when◌, first_of}
use Rattle.answer.specs.declared.answers.Answer.{Answer}
use Rattle.row.specs.Code.{code, plain, inverted}
use Rattle.row.proofs.Codes.{code_lt}
use Rattle.decode.specs.Reading.{flipped_at, read_row, undecodable}
use Rattle.chip.specs.Slices.{row_at, not_whole}
use Rattle.chip.specs.declared.state.State.{State}
use Rattle.permit.specs.Permission.{may_read}
use Rattle.splash.specs.Reading.{read_as, read_card}
use Rattle.splash.proofs.PageThree.{OfCard, page_three}
use Rattle.laws.specs.Reads.{Value}
use Rattle.laws.proofs.Reading.{undamaged, corrected}
use Rattle.carded.specs.Looking.{Worn, CardWears}
use Rattle.carded.proofs.SameCard.{Alike, alike}

-- a row in range that reads as a value
pub record Holds (held value : ℕ) : Type 0 where
  pub small : held ≤ 16777215
  pub done : (read_row held).number ≡ 0
  pub reads : (read_row held).value ≡ value

holds : (held value : ℕ) (answer : Answer) → held ≤ 16777215 → read_row held ≡ answer → answer.number ≡ 0 → answer.value ≡ value → Holds held value
holds held value answer small e n v =
    record { small = small; done = ap (λ (a : Answer). a.number) e ∙ n; reads = ap (λ (a : Answer). a.value) e ∙ v }

module _ (value : ℕ) (h : Value value) where
  low : plain value < 2 ^ 24
  low = omega (arith, code_lt value h)

  high : inverted value < 2 ^ 24
  high = xor_lt 24 (code value) 0xffffff low (omega arith)

  -- as it is burnt, or with one bit flipped
  burnt : (old : ℕ) → (old ≡ plain value) ⊎ (old ≡ inverted value) → Holds old value
  burnt old (inl is) = holds old value _ (omega (arith, is, low)) (ap read_row is ∙ (undamaged value h).0) refl refl
  burnt old (inr is) = holds old value _ (omega (arith, is, high)) (ap read_row is ∙ (undamaged value h).1) refl refl

  flipped : (old place : ℕ) → place < 22 → (old ≡ plain value) ⊎ (old ≡ inverted value) → Holds (flipped_at place old) value
  flipped old place l (inl is) =
      rw is (holds (flipped_at place (plain value)) value _ (omega (arith, xor_lt 24 (plain value) (2 ^ place) low (omega (arith, pow-lt l)))) (corrected value place h l).0 refl refl)
  flipped old place l (inr is) =
      rw is (holds (flipped_at place (inverted value)) value _ (omega (arith, xor_lt 24 (inverted value) (2 ^ place) high (omega (arith, pow-lt l)))) (corrected value place h l).1 refl refl)

-- such a row is read as it reads, by one who may
whole_row : (held value : ℕ) → Holds held value
    → answered (first_of (1 when false ∷ 7 when false ∷ 3 when ltb 16777215 held ∷ 8 when undecodable held ∷ [])) (read_row held) ≡ read_row held
whole_row held value p = rw (le-ltb 16777215 held p.small, p.done)

-- two rows that hold the same value, whoever reads them, in slices of one length
held_alike : (one seven : Bool) (a b value : ℕ) → Holds a value → Holds b value
    → Alike (answered (first_of (1 when one ∷ 7 when seven ∷ 3 when ltb 16777215 a ∷ 8 when undecodable a ∷ [])) (read_row a))
    (answered (first_of (1 when one ∷ 7 when seven ∷ 3 when ltb 16777215 b ∷ 8 when undecodable b ∷ [])) (read_row b))
held_alike true seven a b value p q = (refl, refl)
held_alike false true a b value p q = (refl, refl)
held_alike false false a b value p q =
    let of-a = whole_row a value p in
    let of-b = whole_row b value q in (
      ap (λ (x : Answer). x.number) of-a ∙ p.done ∙ sym q.done ∙ ap (λ (x : Answer). x.number) (sym of-b),
      ap (λ (x : Answer). x.value) of-a ∙ p.reads ∙ sym q.reads ∙ ap (λ (x : Answer). x.value) (sym of-b),
    )

worn_row : (rows worn : List ℕ) (state : State) → length rows ≡ length worn → (row : ℕ) → OfCard row → Worn (row_at rows row) (row_at worn row)
    → Alike (read_as worn state row) (read_as rows state row)
worn_row rows worn state long row of ((value, h, is), new) =
    rw (← page_three worn state (may_read state 1 0x0c0) refl row of, ← page_three rows state (may_read state 1 0x0c0) refl row of, ← long)
    (held_alike (not_whole rows) (not (may_read state 1 0x0c0)) (row_at worn row) (row_at rows row) value (go new) (burnt value h (row_at rows row) is))
  where
    go : (row_at worn row ≡ row_at rows row) ⊎ ((place : ℕ) × (place < 22) × (row_at worn row ≡ flipped_at place (row_at rows row))) → Holds (row_at worn row) value
    go (inl same) = rw same (burnt value h (row_at rows row) is)
    go (inr (place, l, flip)) = rw flip (flipped value h (row_at rows row) place l is)

pub card_wears : CardWears
unfolding read_card
card_wears rows worn state long wear =
    sym
    (alike (read_as rows state) (read_as worn state)
    (λ row low high. back (read_as worn state row) (read_as rows state row) (worn_row rows worn state long row (low, omega arith) (wear.0 row low high)))
    (λ two. back (read_as worn state 0x0c5) (read_as rows state 0x0c5) (worn_row rows worn state long 0x0c5 (omega arith, omega arith) (wear.1 two))))
  where
    back : (a b : Answer) → Alike a b → Alike b a
    back a b same = (sym same.0, sym same.1)
