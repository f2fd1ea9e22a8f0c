-- One bit of a row: flipped, it leaves the others, and a row between the one without it and the one with it is one of the two.
-- Assumes nothing.
use mathlib.Core.Bool.{Bool, true, false}
use mathlib.Core.Logic.{◌⊎◌, inl, inr}
use mathlib.Core.Path.{◌≡◌, refl, sym, ap, ap₂, ◌∙◌}
use Prim.Native.Nat.{ℕ, zero, suc, ◌/◌, ◌%◌, ◌^◌, ◌≤◌, ◌<◌, max}
use native.Mathlib.Nat.{mod-eq_of_lt, div-eq_of_lt, zero-div}
use native.Mathlib.Omega.{arith}
use borrow.Author.Tests.{eqb-true, eqb-false}
use lib.Bits.{bit_or, bit_xor, differ, xor_mod, xor_shr, xor_zero_r}
use lib.Dec.{eqb, eqb→eq}
use lib.Pow.{pow-lt}
use Rattle.std.specs.Prelude.{if◌then◌else◌}
use Rattle.row.specs.Code.{bit_at, flipped}
use Rattle.row.proofs.Digits.{at_digit, zero_or_one}
use Rattle.row.proofs.Places.{bit_lt, bit_lowest, bit_half, bit_at-bit_and, bit_at-bit_or, bit_at-bit_xor, same_bits, xor_right_comm}
use Rattle.decode.specs.Reading.{both_set, flipped_at}
use Rattle.laws.specs.Reads.{looked}
use Rattle.laws.specs.Writes.{In}
use Rattle.laws.proofs.Writes.{shared}

-- ---- the bits of a power of two

half : (bit : ℕ) → 2 ^ suc bit / 2 ≡ 2 ^ bit
half bit = omega arith

own_bit : (bit : ℕ) → bit_at bit (2 ^ bit) ≡ 1
own_bit zero = refl
own_bit (suc bit) = sym (bit_half bit (2 ^ suc bit)) ∙ ap (bit_at bit) (half bit) ∙ own_bit bit

other_bit : (k bit : ℕ) → (k ≡ bit → ⊥) → bit_at k (2 ^ bit) ≡ 0
other_bit zero zero apart = absurd (apart refl)
other_bit zero (suc bit) apart = bit_lowest (2 ^ suc bit) ∙ omega arith
other_bit (suc k) zero apart = sym (bit_half k 1) ∙ rw (zero-div (2 ^ k))
other_bit (suc k) (suc bit) apart =
    sym (bit_half k (2 ^ suc bit)) ∙ ap (bit_at k) (half bit) ∙ other_bit k bit (λ same. apart (ap suc same))

-- ---- a row with one bit flipped

-- the bit that it lacked it has
pub gained : (held bit : ℕ) → bit_at bit held ≡ 0 → bit_at bit (flipped_at bit held) ≡ 1
gained held bit none = bit_at-bit_xor bit held (2 ^ bit) ∙ ap₂ differ none (own_bit bit)

-- every other is as it was
pub others_held : (held bit k : ℕ) → (k ≡ bit → ⊥) → bit_at k (flipped_at bit held) ≡ bit_at k held
others_held held bit k apart =
    bit_at-bit_xor k held (2 ^ bit) ∙ ap (differ (bit_at k held)) (other_bit k bit apart)
    ∙ eqb→eq (differ (bit_at k held) 0) (bit_at k held) (at_digit (λ x. eqb (differ x 0) x) tt (bit_at k held) (bit_lt k held))

-- one among 21:0 is flipped in what is looked at, whichever the polarity
module _ (held bit : ℕ) (low : bit < 22) where
  small : 2 ^ bit < 2 ^ 22
  small = pow-lt low

  pub same_polarity : both_set (flipped_at bit held) ≡ both_set held
  same_polarity =
      ap (λ (top : ℕ). eqb (top % 4) 3)
      (xor_shr held (2 ^ bit) 22 ∙ ap (bit_xor (held / 2 ^ 22)) (div-eq_of_lt small) ∙ xor_zero_r (held / 2 ^ 22))

  pub looked_flipped : looked (flipped_at bit held) ≡ flipped_at bit (looked held)
  looked_flipped = rw same_polarity (go (both_set held))
    where
      of : (row : ℕ) → flipped_at bit row % 2 ^ 22 ≡ flipped_at bit (row % 2 ^ 22)
      of row = xor_mod row (2 ^ bit) 22 ∙ ap (bit_xor (row % 2 ^ 22)) (mod-eq_of_lt small)

      go : (t : Bool) → (if t then flipped (flipped_at bit held) else flipped_at bit held) % 2 ^ 22 ≡ flipped_at bit ((if t then flipped held else held) % 2 ^ 22)
      go true = ap (λ (row : ℕ). row % 2 ^ 22) (xor_right_comm held (2 ^ bit) 0xffffff) ∙ of (flipped held)
      go false = of held

-- ---- between a row without the bit and the one with it

module _ (held row bit : ℕ) (none : bit_at bit held ≡ 0) (over : In held row) (under : In row (bit_or held (2 ^ bit))) where
  at_least : (k : ℕ) → bit_at k held ≤ bit_at k row
  at_least k = omega (arith, sym (bit_at-bit_and k held row) ∙ ap (bit_at k) (shared held row over))

  at_most : (k : ℕ) → bit_at k row ≤ max (bit_at k held) (bit_at k (2 ^ bit))
  at_most k =
      omega (arith, sym (bit_at-bit_and k row (bit_or held (2 ^ bit))) ∙ ap (bit_at k) (shared row (bit_or held (2 ^ bit)) under), bit_at-bit_or k held (2 ^ bit))

  elsewhere : (k : ℕ) → (k ≡ bit → ⊥) → bit_at k row ≡ bit_at k held
  elsewhere k apart = omega (arith, at_least k, at_most k, other_bit k bit apart)

  by_bit : (other : ℕ) → bit_at bit row ≡ bit_at bit other → ((k : ℕ) → (k ≡ bit → ⊥) → bit_at k other ≡ bit_at k held) → row ≡ other
  by_bit other here rest = same_bits row other (λ k. go k (eqb k bit) refl)
    where
      go : (k : ℕ) (t : Bool) → eqb k bit ≡ t → bit_at k row ≡ bit_at k other
      go k true e = rw (eqb-true k bit e) here
      go k false e = elsewhere k (eqb-false k bit e) ∙ sym (rest k (eqb-false k bit e))

  pub one_of_two : (row ≡ held) ⊎ (row ≡ bit_or held (2 ^ bit))
  one_of_two = go (zero_or_one (bit_at bit row) (bit_lt bit row))
    where
      go : (bit_at bit row ≡ 0) ⊎ (bit_at bit row ≡ 1) → (row ≡ held) ⊎ (row ≡ bit_or held (2 ^ bit))
      go (inl zero-there) = inl (by_bit held (zero-there ∙ sym none) (λ k apart. refl))
      go (inr one-there) =
          inr (by_bit (bit_or held (2 ^ bit)) (one-there ∙ sym (bit_at-bit_or bit held (2 ^ bit) ∙ ap₂ max none (own_bit bit)))
          (λ k apart. bit_at-bit_or k held (2 ^ bit) ∙ omega (arith, other_bit k bit apart)))
