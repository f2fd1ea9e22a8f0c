-- Bits 23 and 22 of a row: which bits are then looked at, and what is said of a row whose bits hold a value.
-- Assumes nothing.
use mathlib.Core.Bool.{not}
use mathlib.Core.Logic.{◌⊎◌, inl, inr}
use mathlib.Core.Path.{◌≡◌, sym, ap, ap₂, ◌∙◌, subst}
use Prim.Native.Nat.{ℕ, ◌+◌, ◌-◌, ◌*◌, ◌/◌, ◌%◌, ◌^◌, ◌≤◌, ◌<◌}
use native.Mathlib.Nat.{div-div-eq-div-mul, div-eq_of_lt, mod-eq_of_lt}
use native.Mathlib.Omega.{arith}
use borrow.Author.Tests.{ne_eqb}
use lib.Bits.{bit_xor, xor_mod, xor_shr, xor_zero_r}
use lib.Dec.{eqb, ltb, ltb→lt, lit≤}
use Rattle.answer.specs.Answers.{found, found_in}
use Rattle.std.specs.Prelude.{if◌then◌else◌}
use Rattle.row.specs.Code.{flipped}
use Rattle.decode.specs.Reading.{upright, flipped_at, decoded, both_set, disagree, flag_worn, read_row}
use Rattle.answer.specs.declared.answers.Condition.{Condition}
use Rattle.answer.specs.declared.answers.Polarity.TheVariants.{Plain, Inverted}
use Rattle.row.proofs.Digits.{zero_or_one, at_digits2, equal2}
use Rattle.decode.proofs.Syndromes.{xor_cancel}
use Rattle.laws.specs.Reads.{looked}

-- ---- the bits that are looked at

-- bits 23:22 not both set
as_it_is : (row : ℕ) → row / 2 ^ 22 % 4 < 3 → upright row ≡ row
as_it_is row other = rw (ne_eqb (row / 2 ^ 22 % 4) 3 (λ both. omega arith))

pub looked_plain : (bits : ℕ) → bits < 2 ^ 22 → looked bits ≡ bits
looked_plain bits h =
    ap (λ (row : ℕ). row % 2 ^ 22) (as_it_is bits (omega (arith, div-eq_of_lt h))) ∙ mod-eq_of_lt h

pub both_set_lem : (bits : ℕ) → bits < 2 ^ 22 → flipped bits / 2 ^ 22 ≡ 3
both_set_lem bits h = xor_shr bits 0xffffff 22 ∙ ap (λ (top : ℕ). bit_xor top 3) (div-eq_of_lt h)

looked_inverted : (bits : ℕ) → bits < 2 ^ 22 → looked (flipped bits) ≡ bits
looked_inverted bits h = rw (both_set_lem bits h, xor_cancel bits 0xffffff) (mod-eq_of_lt h)

-- one of bits 23:22 flipped in a row of either polarity, 0 plain and 1 inverted: the row is looked at as it is
pub looked_flag : (row polarity j : ℕ) → polarity < 2 → j < 2 → row / 2 ^ 22 ≡ polarity * 3 → looked (flipped_at (22 + j) row) ≡ row % 2 ^ 22
looked_flag row polarity j hp hj top =
    let other : bit_xor (polarity * 3) (2 ^ (22 + j) / 2 ^ 22) % 4 < 3 =
    ltb→lt _ _ (at_digits2 (λ x y. ltb (bit_xor (x * 3) (2 ^ (22 + y) / 2 ^ 22) % 4) 3) tt polarity j hp hj) in
    let below : 2 ^ (22 + j) % 2 ^ 22 ≡ 0 = equal2 (λ x y. 2 ^ (22 + y) % 2 ^ 22) (λ x y. 0) tt polarity j hp hj in
    ap (λ (bits : ℕ). bits % 2 ^ 22)
    (as_it_is (flipped_at (22 + j) row) (rw (xor_shr row (2 ^ (22 + j)) 22, top) other))
    ∙ xor_mod row (2 ^ (22 + j)) 22 ∙ ap (bit_xor (row % 2 ^ 22)) below ∙ xor_zero_r (row % 2 ^ 22)

pub looked_worn : (bits flag : ℕ) → bits < 2 ^ 22 → 22 ≤ flag → flag < 24 → looked (flipped_at flag bits) ≡ bits
looked_worn bits flag small low high =
    subst (λ (k : ℕ). looked (flipped_at k bits) ≡ bits) (omega arith)
    (looked_flag bits 0 (flag - 22) (lit≤ tt) (omega arith) (div-eq_of_lt small) ∙ mod-eq_of_lt small)

-- ---- what is said of bits 23 and 22

-- by what stands above bit 21
flags : (row top : ℕ) → row / 2 ^ 22 ≡ top → (both_set row ≡ eqb (top % 4) 3) × (disagree row ≡ not (eqb (top / 2 % 2) (top % 2)))
flags row top e = (
  ap (λ (t : ℕ). eqb (t % 4) 3) e,
  ap₂ (λ (x y : ℕ). not (eqb (x % 2) (y % 2))) (sym (div-div-eq-div-mul row (2 ^ 22) 2) ∙ ap (λ (t : ℕ). t / 2) e) e,
)

-- a row whose bits hold a value
said : (row top value : ℕ) (condition : Condition) → row / 2 ^ 22 ≡ top → decoded (looked row) ≡ found value condition
    → read_row row
    ≡ found_in (if eqb (top % 4) 3 then Inverted else Plain) value
    (if not (eqb (top / 2 % 2) (top % 2)) then flag_worn condition else condition)
said row top value condition e held = rw (held, (flags row top e).0, (flags row top e).1)

module _ (bits value : ℕ) (condition : Condition) (small : bits < 2 ^ 22) (held : decoded bits ≡ found value condition) where
  pub said_plain : read_row bits ≡ found value condition
  said_plain = said bits 0 value condition (div-eq_of_lt small) (ap decoded (looked_plain bits small) ∙ held)

  pub said_inverted : read_row (flipped bits) ≡ found_in Inverted value condition
  said_inverted = said (flipped bits) 3 value condition (both_set_lem bits small) (ap decoded (looked_inverted bits small) ∙ held)

  -- one of bits 23:22 set in a plain row
  pub said_worn : (flag : ℕ) → 22 ≤ flag → flag < 24 → read_row (flipped_at flag bits) ≡ found value (flag_worn condition)
  said_worn flag low high = go (zero_or_one (flag - 22) (omega arith))
    where
      held_there : decoded (looked (flipped_at flag bits)) ≡ found value condition
      held_there = ap decoded (looked_worn bits flag small low high) ∙ held

      top : flipped_at flag bits / 2 ^ 22 ≡ 2 ^ flag / 2 ^ 22
      top = xor_shr bits (2 ^ flag) 22 ∙ ap (λ (t : ℕ). bit_xor t (2 ^ flag / 2 ^ 22)) (div-eq_of_lt small)

      go : (flag - 22 ≡ 0) ⊎ (flag - 22 ≡ 1) → read_row (flipped_at flag bits) ≡ found value (flag_worn condition)
      go (inl e) = let is : flag ≡ 22 = omega arith in said (flipped_at flag bits) 1 value condition (top ∙ rw is) held_there
      go (inr e) = let is : flag ≡ 23 = omega arith in said (flipped_at flag bits) 2 value condition (top ∙ rw is) held_there
