-- Reading a row: what its bits are read as, and every promise of a read.
-- Assumes nothing.
use mathlib.Core.Bool.{Bool, true, false}
use mathlib.Core.Logic.{◌⊎◌, inl, inr}
use mathlib.Core.Path.{◌≡◌, refl, sym, ap, ◌∙◌, subst}
use Prim.Native.Nat.{ℕ, zero, suc, ◌-◌, ◌^◌, ◌≤◌, ◌<◌}
use native.Mathlib.Nat.{le_refl, le_of_lt, mod-eq_of_lt, mod-lt}
use native.Mathlib.Omega.{arith}
use borrow.Author.Tests.{eqb-true, eq-eqb, ne_eqb, lt-ltb}
use lib.Bits.{bit_xor, xor_lt, xor_mod, xor_self}
use lib.Count.{ones_in}
use lib.Dec.{eqb, leb, eqb→eq, leb→le, lit≤}
use lib.Pow.{pow-lt, pow_pos}
use Rattle.answer.specs.Answers.{refused, found}
use Rattle.row.specs.Code.{set_bits, distance, parity, masks, with_check, with_checks, code, inverted}
use Rattle.decode.specs.Reading.{upright, data_of, is_code, flipped_at, repaired_below, decoded, said_of, read_row}
use Rattle.answer.specs.declared.answers.Answer.{Answer}
use Rattle.answer.specs.declared.answers.Condition.{Condition}
use Rattle.answer.specs.declared.answers.Condition.TheVariants.{Clean, Repaired}
use Rattle.row.proofs.Codes.{code_data, code_lt}
use Rattle.row.proofs.Counts.{ones_split, ZeroOrPower, one_set}
use Rattle.row.proofs.Digits.{at_below}
use Rattle.decode.proofs.Undecoded.{read_or_8}
use Rattle.row.proofs.Places.{xor_right_comm}
use Rattle.decode.proofs.Syndromes.{xor_cancel, xor_cancel_left, xor_none, syndrome, data_lt, syndrome_linear, code_syndrome, columns, place_below, decoded_by_syndrome}
use Rattle.laws.specs.Reads.{Value, looked, Near, OneValue, ZeroOrEight, Sound, Complete, EightExactly, Undamaged, Corrected, PlainFlag, PlainFlagCorrected, InvertedFlag}
use Rattle.laws.proofs.Flags.{both_set_lem, looked_flag, said_plain, said_inverted, said_worn}

-- ---- what some bits are read as

pub decoded_code : (value : ℕ) → Value value → decoded (code value) ≡ found value Clean
unfolding decoded
decoded_code value h = rw (code_data value h, eq-eqb (code value) (code value) refl)

-- the syndrome of each place names it
place_named : (place : ℕ) → place < 22 → place_below 22 (syndrome (2 ^ place)) ≡ place
unfolding columns place_below syndrome code with_checks with_check masks parity set_bits ones_in
place_named place h =
    eqb→eq (place_below 22 (syndrome (2 ^ place))) place (at_below 22 (λ k. eqb (place_below 22 (syndrome (2 ^ k))) k) tt place h)

pub same_place : (a b : ℕ) → a < 22 → b < 22 → 2 ^ a ≡ 2 ^ b → a ≡ b
same_place a b la lb e = sym (place_named a la) ∙ ap (λ (power : ℕ). place_below 22 (syndrome power)) e ∙ place_named b lb

-- the syndrome of a damaged code is that of the damage
syndrome_of_damage : (value damage : ℕ) → Value value → syndrome (bit_xor (code value) damage) ≡ syndrome damage
syndrome_of_damage value damage h =
    syndrome_linear (code value) damage
    ∙ ap (λ (s : ℕ). bit_xor s (syndrome damage)) (code_syndrome (code value) (ap code (sym (code_data value h))))

pub decoded_flipped : (value place : ℕ) → Value value → place < 22 → decoded (flipped_at place (code value)) ≡ found value (Repaired place)
unfolding columns place_below
decoded_flipped value place h l =
    let damaged : syndrome (2 ^ place) ≡ 0 → ⊥ = λ none. omega (arith, sym (place_named place l) ∙ ap (place_below 22) none) in
    decoded_by_syndrome (flipped_at place (code value))
    ∙ rw (
      syndrome_of_damage value (2 ^ place) h,
      ne_eqb (syndrome (2 ^ place)) 0 damaged,
      place_named place l,
      lt-ltb place 22 l,
      xor_cancel (code value) (2 ^ place),
      code_data value h,
    )

-- all 22 bits flipped are within one bit of no code
decoded_all_flipped : (value : ℕ) → Value value → decoded (bit_xor (code value) 0x3fffff) ≡ refused 8
unfolding columns place_below syndrome code with_checks with_check masks parity set_bits ones_in
decoded_all_flipped value h = decoded_by_syndrome (bit_xor (code value) 0x3fffff) ∙ rw (syndrome_of_damage value 0x3fffff h)

is_own_code : (bits : ℕ) → is_code bits ≡ true → bits ≡ code (data_of bits)
is_own_code bits e = eqb-true bits (code (data_of bits)) e

-- what some bits are, by what they are read as
pub data Read (bits : ℕ) : Answer → Type 0 where
  clean : (value : ℕ) → Value value → bits ≡ code value → Read bits (found value Clean)
  repaired : (value place : ℕ) → Value value → place < 22 → bits ≡ flipped_at place (code value) → Read bits (found value (Repaired place))
  nothing : Read bits (refused 8)

read_below : (places bits : ℕ) → places ≤ 22 → Read bits (repaired_below places bits)
unfolding repaired_below
read_below zero bits h = nothing
read_below (suc place) bits h = go (is_code (flipped_at place bits)) refl (read_below place bits (le_of_lt h))
  where
    go : (t : Bool) → is_code (flipped_at place bits) ≡ t → Read bits (repaired_below place bits) → Read bits (repaired_below (suc place) bits)
    go true e below =
        rw (e, repaired_below)
        (repaired (data_of (flipped_at place bits)) place (data_lt (flipped_at place bits)) h
        (sym (xor_cancel bits (2 ^ place)) ∙ ap (flipped_at place) (is_own_code (flipped_at place bits) e)))
    go false e below = rw (e, repaired_below) below

pub read : (bits : ℕ) → Read bits (decoded bits)
unfolding decoded
read bits = go (is_code bits) refl
  where
    go : (t : Bool) → is_code bits ≡ t → Read bits (decoded bits)
    go true e = rw (e, decoded) (clean (data_of bits) (data_lt bits) (is_own_code bits e))
    go false e = rw (e, decoded) (read_below 22 bits (le_refl 22))

-- ---- the promises

pub zero_or_eight : ZeroOrEight
zero_or_eight row = go (read_or_8 row)
  where
    go : ((read_row row).number ≡ 0) ⊎ (read_row row ≡ refused 8) → ((read_row row).number ≡ 0) ⊎ ((read_row row).number ≡ 8)
    go (inl done) = inl done
    go (inr eight) = inr (ap (λ (a : Answer). a.number) eight)

-- some bits and the same with one of them flipped
pub one_away : (place bits : ℕ) → place < 22 → distance bits (flipped_at place bits) ≤ 1
unfolding set_bits ones_in
one_away place bits l =
    rw (xor_cancel_left bits (2 ^ place)) (leb→le _ _ (at_below 22 (λ k. leb (set_bits (2 ^ k)) 1) tt place l))

pub sound : Sound
unfolding set_bits ones_in
sound row = go (read (looked row))
  where
    go : {held : Answer} → Read (looked row) held → (said_of row held).number ≡ 0 → Near row (said_of row held).value
    go (clean value h e) done = (h, rw (e, xor_self (code value)) (lit≤ tt))
    go (repaired value place h l e) done = (h, rw e (one_away place (code value) l))
    go nothing done = absurd (omega arith)

-- bits within one place of a value's code are read as that value
found_near : (bits value : ℕ) → bits < 2 ^ 22 → Value value → distance (code value) bits ≤ 1
    → (condition : Condition) × (decoded bits ≡ found value condition)
unfolding set_bits
found_near bits value small h near =
    let damage : ℕ = bit_xor (code value) bits in
    go (one_set 22 damage (xor_lt 22 (code value) bits (code_lt value h) small) (omega (arith, ones_split 22 2 damage)))
  where
    go : ZeroOrPower 22 (bit_xor (code value) bits) → (condition : Condition) × (decoded bits ≡ found value condition)
    go (inl same) = (Clean, ap decoded (sym (xor_none (code value) bits same)) ∙ decoded_code value h)
    go (inr (place, l, one)) = (
      Repaired place,
      ap decoded (sym (xor_cancel_left (code value) bits) ∙ ap (bit_xor (code value)) one) ∙ decoded_flipped value place h l,
    )

pub complete : Complete
complete row value near =
    let near-read = found_near (looked row) value (mod-lt (upright row) (pow_pos 22)) near.0 near.1 in
    rw near-read.1 (refl, refl)

pub one_value : OneValue
one_value row a b near-a near-b = sym (complete row a near-a).1 ∙ (complete row b near-b).1

pub eight_exactly : EightExactly
eight_exactly row = (
  λ eight value near. omega (arith, eight, (complete row value near).0),
  λ none. go none (zero_or_eight row),
)
  where
    go : ((value : ℕ) → Near row value → ⊥) → ((read_row row).number ≡ 0) ⊎ ((read_row row).number ≡ 8) → (read_row row).number ≡ 8
    go none (inl done) = absurd (none (read_row row).value (sound row done))
    go none (inr eight) = eight

-- a value's code with one bit flipped has no more bits
flipped_lt : (value place : ℕ) → Value value → place < 22 → flipped_at place (code value) < 2 ^ 22
flipped_lt value place h l = xor_lt 22 (code value) (2 ^ place) (code_lt value h) (pow-lt l)

pub undamaged : Undamaged
undamaged value h = (
  said_plain (code value) value Clean (code_lt value h) (decoded_code value h),
  said_inverted (code value) value Clean (code_lt value h) (decoded_code value h),
)

pub corrected : Corrected
corrected value place h l =
    let small = flipped_lt value place h l in
    let held = decoded_flipped value place h l in (
      said_plain (flipped_at place (code value)) value (Repaired place) small held,
      ap read_row (xor_right_comm (code value) 0xffffff (2 ^ place))
          ∙ said_inverted (flipped_at place (code value)) value (Repaired place) small held,
    )

pub plain_flag : PlainFlag
plain_flag value flag h = said_worn (code value) value Clean (code_lt value h) (decoded_code value h) flag

pub plain_flag_corrected : PlainFlagCorrected
plain_flag_corrected value place flag h l =
    said_worn (flipped_at place (code value)) value (Repaired place) (flipped_lt value place h l) (decoded_flipped value place h l) flag

pub inverted_flag : InvertedFlag
inverted_flag value place h low high =
    let small = code_lt value h in
    ap (said_of (flipped_at place (inverted value)))
    (subst (λ (k : ℕ). decoded (looked (flipped_at k (inverted value))) ≡ refused 8) (omega arith)
    (ap decoded
    (looked_flag (inverted value) 1 (place - 22) (omega arith) (omega arith) (both_set_lem (code value) small)
    ∙ xor_mod (code value) 0xffffff 22 ∙ ap (λ (bits : ℕ). bit_xor bits 0x3fffff) (mod-eq_of_lt small))
    ∙ decoded_all_flipped value h))
