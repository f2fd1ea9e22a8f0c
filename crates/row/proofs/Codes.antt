-- The code of a value: its size, its data, and that it is linear over exclusive or.
-- Assumes nothing.
use mathlib.Core.Path.{◌≡◌, refl, sym, ap, ap₂, ◌∙◌}
use mathlib.Core.List.{List, [], ◌∷◌}
use Prim.Native.Nat.{ℕ, suc, ◌+◌, ◌*◌, ◌%◌, ◌^◌, ◌<◌}
use native.Mathlib.Nat.{mul_comm, pow-suc, suc-add, mod-eq_of_lt}
use lib.Arith.{digits_lt, digits_mod}
use lib.Bits.{bit_and, bit_xor, differ, or_shifted_r, xor_block, xor_lt}
use lib.Pow.{mod-mod-pow}
use Rattle.row.specs.Code.{parity, with_check, with_checks, masks, code}
use Rattle.row.proofs.Counts.{parity_xor, parity_lt}
use Rattle.row.proofs.Digits.{equal2}
use Rattle.row.proofs.Places.{and_xor}

-- a check bit stands above all bits that are there
check_above : (mask place bits : ℕ) → bits < 2 ^ place → with_check mask place bits ≡ parity (bit_and bits mask) * 2 ^ place + bits
unfolding with_check
check_above mask place bits h = or_shifted_r (parity (bit_and bits mask)) place bits h

check_lt : (mask place bits : ℕ) → bits < 2 ^ place → with_check mask place bits < 2 ^ suc place
check_lt mask place bits h =
    rw (check_above mask place bits h, pow-suc, mul_comm (2 ^ place) 2) (digits_lt (parity_lt (bit_and bits mask)) h)

check_mod : (mask place bits : ℕ) → bits < 2 ^ place → with_check mask place bits % 2 ^ place ≡ bits
check_mod mask place bits h = rw (check_above mask place bits h) (digits_mod (parity (bit_and bits mask)) h)

check_linear : (mask place a b : ℕ) → a < 2 ^ place → b < 2 ^ place
    → with_check mask place (bit_xor a b) ≡ bit_xor (with_check mask place a) (with_check mask place b)
check_linear mask place a b ha hb =
    check_above mask place (bit_xor a b) (xor_lt place a b ha hb)
    ∙ ap (λ (p : ℕ). p * 2 ^ place + bit_xor a b)
    (ap parity (and_xor a b mask) ∙ parity_xor (bit_and a mask) (bit_and b mask)
    ∙ sym (equal2 bit_xor differ tt (parity (bit_and a mask)) (parity (bit_and b mask)) (parity_lt (bit_and a mask)) (parity_lt (bit_and b mask))))
    ∙ sym (xor_block place (parity (bit_and a mask)) (parity (bit_and b mask)) a b ha hb)
    ∙ sym (ap₂ bit_xor (check_above mask place a ha) (check_above mask place b hb))

checks_linear : (ms : List ℕ) (place a b : ℕ) → a < 2 ^ place → b < 2 ^ place
    → with_checks ms place (bit_xor a b) ≡ bit_xor (with_checks ms place a) (with_checks ms place b)
unfolding with_checks
checks_linear [] place a b ha hb = refl
checks_linear (m ∷ ms) place a b ha hb =
    ap (with_checks ms (suc place)) (check_linear m place a b ha hb)
    ∙ checks_linear ms (suc place) (with_check m place a) (with_check m place b) (check_lt m place a ha) (check_lt m place b hb)

-- the bits below the check bits stay
checks_mod : (ms : List ℕ) (j k bits : ℕ) → bits < 2 ^ (j + k) → with_checks ms (j + k) bits % 2 ^ k ≡ bits % 2 ^ k
unfolding with_checks
checks_mod [] j k bits h = refl
checks_mod (m ∷ ms) j k bits h =
    let grown : with_check m (j + k) bits < 2 ^ (suc j + k) = rw suc-add (check_lt m (j + k) bits h) in
    ap (λ (p : ℕ). with_checks ms p (with_check m (j + k) bits) % 2 ^ k) (sym (suc-add j k))
    ∙ checks_mod ms (suc j) k (with_check m (j + k) bits) grown
    ∙ sym (mod-mod-pow (with_check m (j + k) bits) j k)
    ∙ ap (λ (x : ℕ). x % 2 ^ k) (check_mod m (j + k) bits h)

-- the code of an exclusive or is the exclusive or of the codes
pub code_linear : (a b : ℕ) → a < 2 ^ 16 → b < 2 ^ 16 → code (bit_xor a b) ≡ bit_xor (code a) (code b)
unfolding code
code_linear a b ha hb = checks_linear masks 16 a b ha hb

-- the data of a value's code is the value
pub code_data : (v : ℕ) → v < 2 ^ 16 → code v % 2 ^ 16 ≡ v
unfolding code
code_data v h = checks_mod masks 0 16 v h ∙ mod-eq_of_lt h

-- a code has 22 bits
pub code_lt : (v : ℕ) → v < 2 ^ 16 → code v < 2 ^ 22
unfolding code masks with_checks
code_lt v h =
    check_lt _ 21 _ (check_lt _ 20 _ (check_lt _ 19 _ (check_lt _ 18 _ (check_lt _ 17 _ (check_lt _ 16 v h)))))
