-- What is found of a row that is to be repaired, by what its bits are; and the row that is left.
-- Assumes nothing.
use mathlib.Core.Bool.{Bool, true, false}
use mathlib.Core.Path.{◌≡◌, refl, sym, ap, ◌∙◌}
use Prim.Native.Nat.{ℕ, ◌+◌, ◌^◌, ◌<◌, min, max}
use native.Mathlib.Nat.{add-zero, zero-mul}
use native.Mathlib.Omega.{arith}
use borrow.Author.Tests.{eqb-true, eqb-false}
use lib.Bits.{bit_and, bit_or, bit_xor, differ, and_comm, or_disjoint, xor_disjoint}
use lib.Count.{ones_in}
use lib.Dec.{eqb, eqb→eq}
use Rattle.std.specs.Prelude.{if◌then◌else◌}
use Rattle.answer.specs.declared.answers.Answer.{Answer}
use Rattle.row.specs.Code.{bit_at, set_bits, code}
use Rattle.row.specs.Writing.{pulses}
use Rattle.row.proofs.Counts.{ones_sum, ones_none}
use Rattle.row.proofs.Digits.{equal2, at_below}
use Rattle.row.proofs.Places.{bit_lt, bit_at-bit_and, bit_at-bit_or, bit_at-bit_xor, and_power}
use Rattle.decode.specs.Reading.{flipped_at, disagree, said_of, read_row, undecodable}
use Rattle.repair.specs.Finding.{found_read, found_of, left_by, pulses_by}
use Rattle.repair.specs.declared.finding.Found.{Found}
use Rattle.repair.specs.declared.finding.Found.TheVariants.{Clean, Mended, Worn, Damaged, NotPermitted}
use Rattle.laws.specs.Reads.{Value, looked}
use Rattle.laws.specs.Writes.{In}
use Rattle.laws.proofs.Reading.{Read, read}
use Rattle.laws.proofs.Writes.{in_itself, keeps_bits, all_set, stands_already}

-- what some bits are, by what is found of the row that holds them
pub data Seen (held : ℕ) : Bool → Found → Type 0 where
  closed : Seen held false NotPermitted
  broken : (read_row held).number ≡ 8 → Seen held true Damaged
  whole : (value : ℕ) → Value value → looked held ≡ code value → disagree held ≡ false → Seen held true Clean
  lost : (value bit : ℕ) → Value value → bit < 22 → looked held ≡ flipped_at bit (code value) → disagree held ≡ false → bit_at bit held ≡ 0
      → Seen held true (Mended bit)
  many : (value bit : ℕ) → Value value → bit < 22 → looked held ≡ flipped_at bit (code value) → disagree held ≡ false → (bit_at bit held ≡ 0 → ⊥)
      → Seen held true Worn
  flag : (read_row held).number ≡ 0 → disagree held ≡ true → Seen held true Worn

pub seen : (may : Bool) (held : ℕ) → Seen held may (found_of may held)
unfolding found_of
seen false held = closed
seen true held = go (read (looked held)) refl
  where
    repaired : (value bit : ℕ) → Value value → bit < 22 → looked held ≡ flipped_at bit (code value) → disagree held ≡ false
        → (t : Bool) → eqb (bit_at bit held) 0 ≡ t → Seen held true (if t then Mended bit else Worn)
    repaired value bit v l off agree true e = lost value bit v l off agree (eqb-true (bit_at bit held) 0 e)
    repaired value bit v l off agree false e = many value bit v l off agree (eqb-false (bit_at bit held) 0 e)

    go : {answer : Answer} → Read (looked held) answer → read_row held ≡ said_of held answer
        → Seen held true (if undecodable held then Damaged else found_read held (read_row held).condition)
    go (Read.clean value v is) e = by (disagree held) refl
      where
        by : (t : Bool) → disagree held ≡ t → Seen held true (if undecodable held then Damaged else found_read held (read_row held).condition)
        by true worn = rw (e, worn) (flag (rw e refl) worn)
        by false agree = rw (e, agree) (whole value v is agree)
    go (Read.repaired value bit v l off) e = by (disagree held) refl
      where
        by : (t : Bool) → disagree held ≡ t → Seen held true (if undecodable held then Damaged else found_read held (read_row held).condition)
        by true worn = rw (e, worn) (flag (rw e refl) worn)
        by false agree = rw (e, agree) (repaired value bit v l off agree (eqb (bit_at bit held) 0) refl)
    go Read.nothing e = rw e (broken (rw e refl))

-- ---- the row that is left

-- no bit clears
pub left_keeps : (found : Found) (held : ℕ) → In held (left_by found held)
left_keeps Clean held = in_itself held
left_keeps (Mended bit) held = (keeps_bits held (2 ^ bit)).1
left_keeps Worn held = in_itself held
left_keeps Damaged held = in_itself held
left_keeps NotPermitted held = in_itself held

-- a bit that a row lacks shares nothing with it
apart_bit : (held bit : ℕ) → bit_at bit held ≡ 0 → bit_and held (2 ^ bit) ≡ 0
apart_bit held bit none = and_comm held (2 ^ bit) ∙ and_power bit held ∙ rw none (zero-mul (2 ^ bit))

-- so burnt it is that bit flipped
pub burnt_flips : (held bit : ℕ) → bit_at bit held ≡ 0 → bit_or held (2 ^ bit) ≡ flipped_at bit held
burnt_flips held bit none = or_disjoint held (2 ^ bit) (apart_bit held bit none) ∙ sym (xor_disjoint held (2 ^ bit) (apart_bit held bit none))

-- one of the 24 bits alone
one_bit : (bit : ℕ) → bit < 24 → set_bits (2 ^ bit) ≡ 1
unfolding set_bits ones_in
one_bit bit low = eqb→eq (set_bits (2 ^ bit)) 1 (at_below 24 (λ k. eqb (set_bits (2 ^ k)) 1) tt bit low)

-- and it is one bit newly set
one_new : (held bit : ℕ) → bit < 24 → bit_at bit held ≡ 0 → pulses held (bit_or held (2 ^ bit)) ≡ 1
unfolding pulses set_bits
one_new held bit low none =
    let summed : ones_in 24 (bit_and (bit_or held (2 ^ bit)) (bit_xor held 0xffffff)) + ones_in 24 (bit_and held (2 ^ bit)) ≡ ones_in 24 (2 ^ bit) =
    ones_sum 24 _ _ _
    (λ k l. simp (bit_at-bit_and, bit_at-bit_or, bit_at-bit_xor, all_set k l)
    (equal2 (λ x y. min (max x y) (differ x 1) + min x y) (λ x y. y) tt (bit_at k held) (bit_at k (2 ^ bit)) (bit_lt k held) (bit_lt k (2 ^ bit)))) in
    sym (add-zero _) ∙ ap (λ (n : ℕ). ones_in 24 (bit_and (bit_or held (2 ^ bit)) (bit_xor held 0xffffff)) + n) (sym (ones_none 24) ∙ ap (ones_in 24) (sym (apart_bit held bit none)))
    ∙ summed ∙ one_bit bit low

-- the pulses of what is found are the bits newly set
pub found_pulses : (may : Bool) (held : ℕ) → pulses_by (found_of may held) ≡ pulses held (left_by (found_of may held) held)
found_pulses may held = go (seen may held)
  where
    go : {may : Bool} {found : Found} → Seen held may found → pulses_by found ≡ pulses held (left_by found held)
    go closed = sym (stands_already held)
    go (broken eight) = sym (stands_already held)
    go (whole value v is agree) = sym (stands_already held)
    go (lost value bit v l off agree none) = sym (one_new held bit (omega (arith, l)) none)
    go (many value bit v l off agree some) = sym (stands_already held)
    go (flag done worn) = sym (stands_already held)
