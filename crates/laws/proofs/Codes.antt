-- The code of a value: it is linear, and two codes differ in at least four places.
-- Assumes nothing.
use mathlib.Core.Bool.{Bool, true, false}
use mathlib.Core.Path.{◌≡◌, refl, sym, ap, ◌∙◌}
use Prim.Native.Nat.{ℕ, ◌*◌, ◌≤◌, min}
use native.Mathlib.Omega.{arith}
use borrow.Author.Tests.{leb-true, leb-false}
use lib.Bits.{bit_xor, xor_lt}
use lib.Count.{ones_in}
use lib.Dec.{leb, leb→le}
use Rattle.row.specs.Code.{set_bits, parity, masks, with_check, with_checks, code}
use Rattle.row.proofs.Codes.{code_linear, code_data}
use Rattle.row.proofs.Counts.{ones_split, ones_low, at_few}
use Rattle.decode.proofs.Syndromes.{xor_none}
use Rattle.laws.specs.Reads.{Value, Linear, FourApart}

pub linear : Linear
linear = code_linear

-- ---- four apart: a code that is not 0 has four set bits

-- the value's own bits are set in its code
own_bits : (value : ℕ) → Value value → ones_in 16 value ≤ set_bits (code value)
unfolding set_bits
own_bits value h = omega (arith, ones_split 16 8 (code value), sym (ones_low 16 (code value)) ∙ ap (ones_in 16) (code_data value h))

-- a value of at most three set bits: each of them is tried (`min 4 (4 * value)` is 4, and 0 for the value 0)
light : (value : ℕ) → Value value → ones_in 16 value ≤ 3 → min 4 (4 * value) ≤ set_bits (code value)
unfolding code with_checks with_check masks parity set_bits ones_in
light value h few =
    leb→le (min 4 (4 * value)) (set_bits (code value)) (at_few 16 3 (λ v. leb (min 4 (4 * v)) (set_bits (code v))) tt value h few)

four_set : (value : ℕ) → Value value → (value ≡ 0 → ⊥) → 4 ≤ set_bits (code value)
four_set value h some = go (leb (ones_in 16 value) 3) refl
  where
    go : (t : Bool) → leb (ones_in 16 value) 3 ≡ t → 4 ≤ set_bits (code value)
    go true e = omega (arith, light value h (leb-true (ones_in 16 value) 3 e))
    go false e = omega (arith, own_bits value h, leb-false (ones_in 16 value) 3 e)

pub four_apart : FourApart
four_apart a b ha hb different =
    rw (← linear a b ha hb) (four_set (bit_xor a b) (xor_lt 16 a b ha hb) (λ same. different (xor_none a b same)))
