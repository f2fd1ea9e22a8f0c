-- The check bits of a value, looked up in two tables, four data bits at a time.
-- Assumes nothing.
use mathlib.Core.List.{List, [], ◌∷◌}
use mathlib.Core.Path.{◌≡◌, sym, ap, ap₂, ◌∙◌}
use Prim.Native.Nat.{ℕ, zero, suc, ◌+◌, ◌*◌, ◌/◌, ◌%◌, ◌^◌, ◌≤◌, ◌<◌, zero-le}
use native.Mathlib.Nat.{mod-lt, mod-le, mod-eq_of_lt, lt_of_le_of_lt, add-zero, zero-add, zero-mul, mul-one, mul_assoc}
use native.Mathlib.Omega.{arith}
use lib.Bits.{bit_or, bit_xor, or_shifted_r, xor_block, xor_shr, xor_zero_l, xor_zero_r}
use lib.Arith.{digits_div, digits_mod}
use lib.Count.{ones_in}
use lib.Dec.{T, eqb, ltb, eqb→eq, ltb→lt}
use lib.ListN.{get_or}
use lib.Pow.{split, pow_pos, field, mod-mod-pow, shr_lt}
use Rattle.row.specs.Code.{set_bits, parity, masks, with_check, with_checks, code}
use Rattle.row.proofs.Digits.{all_below, at_below, NoneOf}
use Rattle.row.proofs.Codes.{code_linear, code_data, code_lt}

-- the check bits of some data
abbrev pub checks : ℕ → ℕ
checks bits = code bits / 2 ^ 16

-- the data bits of an entry of the low byte's table: the four, at their place; those of the high byte's stand eight places higher
abbrev pub four : ℕ → ℕ
four entry = entry % 16 * 16 ^ (entry / 16)

-- ---- the two tables

-- a table that passes a test at each of its 32 entries follows its rule at each number that an arm names
module _ (table : List ℕ) (rule : ℕ → ℕ) (tested : T (all_below 32 (λ k. eqb (get_or table k 0) (rule k)))) where
  at_key : {entry key : ℕ} → T (ltb key 32) → entry ≡ key → get_or table key 0 ≡ rule entry
  at_key {entry} {key} below is =
      eqb→eq (get_or table key 0) (rule key) (at_below 32 (λ k. eqb (get_or table k 0) (rule k)) tested key (ltb→lt key 32 below)) ∙ ap rule (sym is)

-- the table of the low byte
unfoldable pub lows : List ℕ
lows =
    0x00 ∷ 0x23 ∷ 0x25 ∷ 0x06 ∷ 0x26 ∷ 0x05 ∷ 0x03 ∷ 0x20 ∷ 0x07 ∷ 0x24 ∷ 0x22 ∷ 0x01 ∷ 0x21 ∷ 0x02 ∷ 0x04 ∷ 0x27
    ∷ 0x00 ∷ 0x29 ∷ 0x2a ∷ 0x03 ∷ 0x0b ∷ 0x22 ∷ 0x21 ∷ 0x08 ∷ 0x2c ∷ 0x05 ∷ 0x06 ∷ 0x2f ∷ 0x27 ∷ 0x0e ∷ 0x0d ∷ 0x24 ∷ []

pub at_low_key : {entry key : ℕ} → T (ltb key 32) → entry ≡ key → get_or lows key 0 ≡ checks (four entry)
unfolding lows code with_checks with_check masks parity set_bits ones_in
at_low_key = at_key lows (λ entry. checks (four entry)) tt

-- the table of the high byte
unfoldable pub highs : List ℕ
highs =
    0x00 ∷ 0x0d ∷ 0x0e ∷ 0x03 ∷ 0x2f ∷ 0x22 ∷ 0x21 ∷ 0x2c ∷ 0x31 ∷ 0x3c ∷ 0x3f ∷ 0x32 ∷ 0x1e ∷ 0x13 ∷ 0x10 ∷ 0x1d
    ∷ 0x00 ∷ 0x32 ∷ 0x13 ∷ 0x21 ∷ 0x34 ∷ 0x06 ∷ 0x27 ∷ 0x15 ∷ 0x15 ∷ 0x27 ∷ 0x06 ∷ 0x34 ∷ 0x21 ∷ 0x13 ∷ 0x32 ∷ 0x00 ∷ []

pub at_high_key : {entry key : ℕ} → T (ltb key 32) → entry ≡ key → get_or highs key 0 ≡ checks (four entry * 256)
unfolding highs code with_checks with_check masks parity set_bits ones_in
at_high_key = at_key highs (λ entry. checks (four entry * 256)) tt

-- no number below 32 is left for the default
past : (n x : ℕ) → NoneOf (λ k. k) n x → n ≤ x
past zero x none = zero-le
past (suc n) x none = let below : n ≤ x = past n x none.0 in omega (arith, none.1)

pub no_default : {entry value other : ℕ} → NoneOf (λ k. k) 32 entry → entry < 32 → value ≡ other
no_default {entry} none below = let all : 32 ≤ entry = past 32 entry none in omega (arith, below)

-- ---- the check bits of a value are the exclusive or of those of its parts

joined : (k v : ℕ) → bit_xor (v % 2 ^ k) (v / 2 ^ k * 2 ^ k) ≡ v
joined k v =
    let low : v % 2 ^ k < 2 ^ k = mod-lt v (pow_pos k) in
    ap₂ bit_xor (sym (ap (λ (x : ℕ). x + v % 2 ^ k) (zero-mul (2 ^ k)) ∙ zero-add (v % 2 ^ k))) (sym (add-zero (v / 2 ^ k * 2 ^ k)))
    ∙ xor_block k 0 (v / 2 ^ k) (v % 2 ^ k) 0 low (pow_pos k)
    ∙ ap₂ (λ (q r : ℕ). q * 2 ^ k + r) (xor_zero_l (v / 2 ^ k)) (xor_zero_r (v % 2 ^ k))
    ∙ split v k

halves : (k v : ℕ) → v < 2 ^ 16 → bit_xor (checks (v % 2 ^ k)) (checks (v / 2 ^ k * 2 ^ k)) ≡ checks v
halves k v h =
    let parts : v / 2 ^ k * 2 ^ k + v % 2 ^ k ≡ v = split v k in
    sym (xor_shr (code (v % 2 ^ k)) (code (v / 2 ^ k * 2 ^ k)) 16)
    ∙ ap (λ (x : ℕ). x / 2 ^ 16) (sym (code_linear (v % 2 ^ k) (v / 2 ^ k * 2 ^ k) (omega arith) (omega arith)))
    ∙ ap checks (joined k v)

-- four bits more
step : (k v : ℕ) → v < 2 ^ 16 → bit_xor (checks (v % 2 ^ k)) (checks (v / 2 ^ k % 2 ^ 4 * 2 ^ k)) ≡ checks (v % 2 ^ (4 + k))
step k v h =
    ap₂ (λ (low high : ℕ). bit_xor (checks low) (checks (high * 2 ^ k))) (sym (mod-mod-pow v 4 k)) (sym (field v 4 k))
    ∙ halves k (v % 2 ^ (4 + k)) (lt_of_le_of_lt (mod-le v (2 ^ (4 + k))) h)

four_at : (place n : ℕ) → n < 16 → four (place * 16 + n) ≡ n * 16 ^ place
four_at place n h = ap₂ (λ (low above : ℕ). low * 16 ^ above) (digits_mod place h) (digits_div place h)

first_four : (n : ℕ) → four (n % 16) ≡ n % 16
first_four n = ap four (sym (zero-add (n % 16))) ∙ four_at 0 (n % 16) (mod-lt n (pow_pos 4)) ∙ mul-one (n % 16)

next_four : (n : ℕ) → n < 16 → four (16 + n) ≡ n * 16
next_four n h = four_at 1 n h

-- what the four entries of a value give
pub parted : (v : ℕ) → v < 2 ^ 16
    → bit_xor (bit_xor (bit_xor (checks (four (v % 16))) (checks (four (16 + v / 16 % 16)))) (checks (four (v / 256 % 16) * 256))) (checks (four (16 + v / 4096) * 256))
    ≡ checks v
parted v h =
    let top : v / 4096 < 16 = shr_lt 4 12 h in
    ap₂ bit_xor
    (ap₂ bit_xor
    (ap₂ bit_xor (ap checks (first_four v)) (ap checks (next_four (v / 16 % 16) (mod-lt (v / 16) (pow_pos 4)))))
    (ap (λ (n : ℕ). checks (n * 256)) (first_four (v / 256))))
    (ap checks
    (ap (λ (n : ℕ). n * 256) (next_four (v / 4096) top) ∙ mul_assoc (v / 4096) 16 256 ∙ ap (λ (n : ℕ). n * 2 ^ 12) (sym (mod-eq_of_lt top))))
    ∙ ap (λ (x : ℕ). bit_xor (bit_xor x (checks (v / 2 ^ 8 % 2 ^ 4 * 2 ^ 8))) (checks (v / 2 ^ 12 % 2 ^ 4 * 2 ^ 12))) (step 4 v h)
    ∙ ap (λ (x : ℕ). bit_xor x (checks (v / 2 ^ 12 % 2 ^ 4 * 2 ^ 12))) (step 8 v h)
    ∙ step 12 v h
    ∙ ap checks (mod-eq_of_lt h)

pub checks_lt : (v : ℕ) → v < 2 ^ 16 → checks v < 2 ^ 6
checks_lt v h = shr_lt 6 16 (code_lt v h)

-- a value and its check bits above it are its code
pub above : (v : ℕ) → v < 2 ^ 16 → bit_or v (checks v * 2 ^ 16) ≡ code v
above v h = or_shifted_r (checks v) 16 v h ∙ ap (λ (x : ℕ). checks v * 2 ^ 16 + x) (sym (code_data v h)) ∙ split (code v) 16
