-- The syndrome of some bits, and that reading by it finds what the definition by distance finds.
-- Assumes nothing.
use mathlib.Core.Path.{◌≡◌, refl, sym, ap, ap₂, ◌∙◌}
use mathlib.Core.Bool.{Bool, true, false}
use mathlib.Core.List.{List, [], ◌∷◌}
use Prim.Native.Nat.{ℕ, zero, suc, ◌+◌, ◌*◌, ◌/◌, ◌%◌, ◌^◌, ◌≤◌, ◌<◌, suc-le-suc}
use native.Mathlib.Nat.{mod-lt, mod-eq_of_lt, le_refl, le_of_lt, le_of_suc-le-suc}
use borrow.Author.Tests.{eqb-true, eqb-false, eq-eqb, ne_eqb, lt-ltb}
use lib.Bits.{bit_xor, xor_self, xor_zero_r, xor_comm, xor_mod, xor_shr, xor_lt}
use lib.Count.{ones_in}
use lib.Dec.{T, eqb, ltb, eqb→eq, ltb→lt}
use lib.ListN.{get_or}
use lib.Pow.{split, pow_pos, shr_lt}
use Rattle.answer.specs.Answers.{refused, found}
use Rattle.std.specs.Prelude.{if◌then◌else◌}
use Rattle.row.specs.Code.{set_bits, parity, masks, with_check, with_checks, code}
use Rattle.decode.specs.Reading.{upright, data_of, is_code, flipped_at, repaired_below, decoded, said_of, read_row}
use Rattle.answer.specs.declared.answers.Answer.{Answer}
use Rattle.answer.specs.declared.answers.Condition.TheVariants.{Clean, Repaired}
use Rattle.answer.proofs.Choices.{both_ways}
use Rattle.row.proofs.Codes.{code_linear, code_data, code_lt}
use Rattle.row.proofs.Digits.{at_below, NoneOf}
use Rattle.row.proofs.Places.{xor_assoc}

-- ---- exclusive or cancels

pub xor_cancel : (a b : ℕ) → bit_xor (bit_xor a b) b ≡ a
xor_cancel a b = xor_assoc a b b ∙ ap (bit_xor a) (xor_self b) ∙ xor_zero_r a

pub xor_cancel_left : (a b : ℕ) → bit_xor a (bit_xor a b) ≡ b
xor_cancel_left a b = sym (xor_assoc a a b) ∙ ap (λ (x : ℕ). bit_xor x b) (xor_self a)

pub xor_none : (a b : ℕ) → bit_xor a b ≡ 0 → a ≡ b
xor_none a b e = sym (xor_cancel a b) ∙ ap (λ (x : ℕ). bit_xor x b) e

xor_swap : (a b c d : ℕ) → bit_xor (bit_xor a b) (bit_xor c d) ≡ bit_xor (bit_xor a c) (bit_xor b d)
xor_swap a b c d =
    xor_assoc a b (bit_xor c d)
    ∙ ap (bit_xor a) (sym (xor_assoc b c d) ∙ ap (λ (x : ℕ). bit_xor x d) (xor_comm b c) ∙ xor_assoc c b d)
    ∙ sym (xor_assoc a c (bit_xor b d))

-- ---- the syndrome: where the check bits of some bits differ from those of their data

unfoldable pub syndrome : ℕ → ℕ
syndrome bits = bit_xor bits (code (bits % 2 ^ 16)) / 2 ^ 16

pub data_lt : (bits : ℕ) → bits % 2 ^ 16 < 2 ^ 16
data_lt bits = mod-lt bits (pow_pos 16)

pub syndrome_linear : (a b : ℕ) → syndrome (bit_xor a b) ≡ bit_xor (syndrome a) (syndrome b)
unfolding syndrome
syndrome_linear a b =
    ap (λ (x : ℕ). bit_xor (bit_xor a b) x / 2 ^ 16)
    (ap code (xor_mod a b 16) ∙ code_linear (a % 2 ^ 16) (b % 2 ^ 16) (data_lt a) (data_lt b))
    ∙ ap (λ (x : ℕ). x / 2 ^ 16) (xor_swap a b (code (a % 2 ^ 16)) (code (b % 2 ^ 16)))
    ∙ xor_shr (bit_xor a (code (a % 2 ^ 16))) (bit_xor b (code (b % 2 ^ 16))) 16

-- only check bits differ
data_agrees : (bits : ℕ) → bit_xor bits (code (bits % 2 ^ 16)) % 2 ^ 16 ≡ 0
data_agrees bits =
    xor_mod bits (code (bits % 2 ^ 16)) 16
    ∙ ap (bit_xor (bits % 2 ^ 16)) (code_data (bits % 2 ^ 16) (data_lt bits))
    ∙ xor_self (bits % 2 ^ 16)

pub no_syndrome : (bits : ℕ) → syndrome bits ≡ 0 → bits ≡ code (bits % 2 ^ 16)
unfolding syndrome
no_syndrome bits e =
    xor_none bits (code (bits % 2 ^ 16))
    (sym (split (bit_xor bits (code (bits % 2 ^ 16))) 16) ∙ ap₂ (λ (q r : ℕ). q * 2 ^ 16 + r) e (data_agrees bits))

pub code_syndrome : (bits : ℕ) → bits ≡ code (bits % 2 ^ 16) → syndrome bits ≡ 0
unfolding syndrome
code_syndrome bits e = ap (λ (x : ℕ). x / 2 ^ 16) (ap (λ (x : ℕ). bit_xor x (code (bits % 2 ^ 16))) e ∙ xor_self (code (bits % 2 ^ 16)))

-- ---- what a read asks, by the syndrome

-- two tests that hold together are one
same_test : (a b c d : ℕ) → (a ≡ b → c ≡ d) → (c ≡ d → a ≡ b) → eqb a b ≡ eqb c d
same_test a b c d f g = go (eqb c d) refl
  where
    go : (t : Bool) → eqb c d ≡ t → eqb a b ≡ t
    go true e = eq-eqb a b (g (eqb-true c d e))
    go false e = ne_eqb a b (λ h. eqb-false c d e (f h))

pub is_code_lem : (bits : ℕ) → is_code bits ≡ eqb (syndrome bits) 0
is_code_lem bits = same_test bits (code (bits % 2 ^ 16)) (syndrome bits) 0 (code_syndrome bits) (no_syndrome bits)

-- the syndromes of the 22 places
unfoldable pub columns : List ℕ
columns =
    0x23 ∷ 0x25 ∷ 0x26 ∷ 0x07 ∷ 0x29 ∷ 0x2a ∷ 0x0b ∷ 0x2c ∷ 0x0d ∷ 0x0e ∷ 0x2f ∷ 0x31 ∷ 0x32 ∷ 0x13 ∷ 0x34 ∷ 0x15
    ∷ 0x01 ∷ 0x02 ∷ 0x04 ∷ 0x08 ∷ 0x10 ∷ 0x20 ∷ []

pub column : (place : ℕ) → place < 22 → syndrome (2 ^ place) ≡ get_or columns place 0
unfolding columns syndrome code with_checks with_check masks parity set_bits ones_in
column place h =
    eqb→eq (syndrome (2 ^ place)) (get_or columns place 0)
    (at_below 22 (λ k. eqb (syndrome (2 ^ k)) (get_or columns k 0)) tt place h)

is_code_flipped : (place bits : ℕ) → is_code (flipped_at place bits) ≡ eqb (syndrome bits) (syndrome (2 ^ place))
is_code_flipped place bits =
    is_code_lem (flipped_at place bits) ∙ ap (λ (s : ℕ). eqb s 0) (syndrome_linear bits (2 ^ place))
    ∙ same_test (bit_xor (syndrome bits) (syndrome (2 ^ place))) 0 (syndrome bits) (syndrome (2 ^ place))
    (xor_none (syndrome bits) (syndrome (2 ^ place)))
    (λ e. ap (λ (s : ℕ). bit_xor s (syndrome (2 ^ place))) e ∙ xor_self (syndrome (2 ^ place)))

-- the place below `places` whose flip makes a syndrome, or 22 where none does
unfoldable pub place_below : ℕ → ℕ → ℕ
place_below zero s = 22
place_below (suc place) s = if eqb s (get_or columns place 0) then place else place_below place s

-- what is read where the bit at a place is wrong; 22 stands for no place
abbrev pub repaired_at : ℕ → ℕ → Answer
repaired_at place bits = if ltb place 22 then found (data_of (flipped_at place bits)) (Repaired place) else refused 8

repaired_by_place : (places bits : ℕ) → places ≤ 22 → repaired_below places bits ≡ repaired_at (place_below places (syndrome bits)) bits
unfolding repaired_below place_below
repaired_by_place zero bits h = refl
repaired_by_place (suc place) bits h =
    rw (is_code_flipped place bits, column place h)
    (go (repaired_by_place place bits (le_of_lt h)) (eqb (syndrome bits) (get_or columns place 0)))
  where
    go : repaired_below place bits ≡ repaired_at (place_below place (syndrome bits)) bits → (t : Bool)
        → (if t then found (data_of (flipped_at place bits)) (Repaired place) else repaired_below place bits)
        ≡ repaired_at (if t then place else place_below place (syndrome bits)) bits
    go below true = rw (lt-ltb place 22 h)
    go below false = below

-- reading by the syndrome
pub decoded_by_syndrome : (bits : ℕ)
    → decoded bits ≡ (if eqb (syndrome bits) 0 then found (data_of bits) Clean else repaired_at (place_below 22 (syndrome bits)) bits)
unfolding decoded
decoded_by_syndrome bits = rw (is_code_lem bits, repaired_by_place 22 bits (le_refl 22))

-- ---- the code's table of places

-- a syndrome that is that of none of the first places
abbrev pub Missed : ℕ → ℕ → Type 0
Missed = NoneOf (λ place. get_or columns place 0)

none_named : (places s : ℕ) → Missed places s → place_below places s ≡ 22
unfolding place_below
none_named zero s missed = refl
none_named (suc place) s missed = rw (ne_eqb s (get_or columns place 0) missed.1) (none_named place s missed.0)

-- a syndrome that names a place
abbrev pub Named : ℕ → ℕ → Type 0
Named s place = (place_below 22 s ≡ place) × (place ≤ 21)

column_names : (place : ℕ) → place < 22 → place_below 22 (get_or columns place 0) ≡ place
unfolding columns place_below
column_names place h =
    eqb→eq (place_below 22 (get_or columns place 0)) place
    (at_below 22 (λ k. eqb (place_below 22 (get_or columns k 0)) k) tt place h)

pub named : {s place : ℕ} (k : ℕ) → T (ltb k 22) → s ≡ get_or columns k 0 → place ≡ k → Named s place
named {s} {place} k below key is =
    let low : k < 22 = ltb→lt k 22 below in
    (ap (place_below 22) key ∙ column_names k low ∙ sym is, le_of_suc-le-suc (rw is low))

-- what the code reads: some bits, the code of their data, and the syndrome that it works out from the two
module _ (bits coded : ℕ) (right : coded ≡ code (bits % 2 ^ 16)) (small : bits < 2 ^ 22) where
  worked_out : bit_xor bits coded / 2 ^ 16 % 64 ≡ syndrome bits
  unfolding syndrome
  worked_out =
      rw right
      (mod-eq_of_lt (shr_lt 6 16 (xor_lt 22 bits (code (bits % 2 ^ 16)) small (code_lt (bits % 2 ^ 16) (data_lt bits)))))

  pub read_clean : bit_xor bits coded / 2 ^ 16 % 64 ≡ 0 → decoded bits ≡ found (bits % 2 ^ 16) Clean
  read_clean none = decoded_by_syndrome bits ∙ rw (eq-eqb (syndrome bits) 0 (sym worked_out ∙ none))

  read_damaged : (bit_xor bits coded / 2 ^ 16 % 64 ≡ 0 → ⊥)
      → decoded bits ≡ repaired_at (place_below 22 (bit_xor bits coded / 2 ^ 16 % 64)) bits
  read_damaged some =
      decoded_by_syndrome bits ∙ rw (ne_eqb (syndrome bits) 0 (λ e. some (worked_out ∙ e)))
      (sym (ap (λ (s : ℕ). repaired_at (place_below 22 s) bits) worked_out))

  pub read_refused : (bit_xor bits coded / 2 ^ 16 % 64 ≡ 0 → ⊥) → Missed 22 (bit_xor bits coded / 2 ^ 16 % 64) → decoded bits ≡ refused 8
  read_refused some missed = read_damaged some ∙ rw (none_named 22 (bit_xor bits coded / 2 ^ 16 % 64) missed)

  pub read_repaired : (place : ℕ) → (bit_xor bits coded / 2 ^ 16 % 64 ≡ 0 → ⊥) → Named (bit_xor bits coded / 2 ^ 16 % 64) place
      → decoded bits ≡ found (bit_xor bits (2 ^ place) % 2 ^ 16) (Repaired place)
  read_repaired place some names =
      read_damaged some ∙ ap (λ (p : ℕ). repaired_at p bits) names.0 ∙ rw (lt-ltb place 22 (suc-le-suc names.1))

-- ---- a value that is read has 16 bits

repaired_lt : (places bits : ℕ) → (repaired_below places bits).value < 2 ^ 16
unfolding repaired_below
repaired_lt zero bits = pow_pos 16
repaired_lt (suc place) bits = go (repaired_lt place bits) (is_code (flipped_at place bits))
  where
    go : (repaired_below place bits).value < 2 ^ 16 → (t : Bool)
        → (if t then found (data_of (flipped_at place bits)) (Repaired place) else repaired_below place bits).value < 2 ^ 16
    go below true = mod-lt (flipped_at place bits) (pow_pos 16)
    go below false = below

decoded_lt : (bits : ℕ) → (decoded bits).value < 2 ^ 16
unfolding decoded
decoded_lt bits = go (is_code bits)
  where
    go : (t : Bool) → (if t then found (data_of bits) Clean else repaired_below 22 bits).value < 2 ^ 16
    go true = mod-lt bits (pow_pos 16)
    go false = repaired_lt 22 bits

pub read_lt : (row : ℕ) → (read_row row).value < 2 ^ 16
read_lt row = go (decoded (upright row % 2 ^ 22)) (decoded_lt (upright row % 2 ^ 22))
  where
    go : (held : Answer) → held.value < 2 ^ 16 → (said_of row held).value < 2 ^ 16
    go held small = both_ways (λ (answer : Answer). answer.value < 2 ^ 16) (eqb held.number 0) _ _ small (pow_pos 16)
