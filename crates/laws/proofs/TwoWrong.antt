-- Two wrong bits: no code is within one place of them.
-- Assumes nothing.
use mathlib.Core.Bool.{Bool, true, false}
use mathlib.Core.Path.{◌≡◌, refl, ap, ◌∙◌, subst}
use Prim.Native.Nat.{ℕ, zero, suc, ◌+◌, ◌≤◌}
use native.Mathlib.Omega.{arith}
use borrow.Author.Tests.{eqb-true, eqb-false}
use lib.Bits.{bit_xor, differ, xor_comm}
use lib.Dec.{eqb}
use Rattle.row.specs.Code.{set_bits, distance, code}
use Rattle.row.proofs.Counts.{ones_at_most}
use Rattle.row.proofs.Places.{bit_at-bit_xor, xor_assoc}
use Rattle.decode.proofs.Syndromes.{xor_cancel_left}
use Rattle.laws.specs.Reads.{looked, Near, TwoNoticed}
use Rattle.laws.proofs.Codes.{four_apart}
use Rattle.laws.proofs.Reading.{eight_exactly}

differ_at_most : (x y : ℕ) → differ x y ≤ x + y
differ_at_most zero y = omega arith
differ_at_most (suc x) zero = omega arith
differ_at_most (suc x) (suc y) = omega (arith, differ_at_most x y)

-- from one number to another by a third is no shorter
by_a_third : (a b c : ℕ) → distance a c ≤ distance a b + distance b c
unfolding set_bits
by_a_third a b c =
    subst (λ (n : ℕ). set_bits n ≤ distance a b + distance b c) (xor_assoc a b (bit_xor b c) ∙ ap (bit_xor a) (xor_cancel_left b c))
    (ones_at_most 24 (bit_xor a b) (bit_xor b c) (bit_xor (bit_xor a b) (bit_xor b c))
    (λ k l. rw (bit_at-bit_xor k (bit_xor a b) (bit_xor b c)) (differ_at_most _ _)))

pub two_noticed : TwoNoticed
two_noticed row value h two = (eight_exactly row).1 (λ other near. go other near (eqb other value) refl)
  where
    back : distance (looked row) (code value) ≡ distance (code value) (looked row)
    back = ap set_bits (xor_comm (looked row) (code value))

    go : (other : ℕ) → Near row other → (t : Bool) → eqb other value ≡ t → ⊥
    go other near true e = omega (arith, two, subst (λ (v : ℕ). distance (code v) (looked row) ≤ 1) (eqb-true other value e) near.1)
    go other near false e =
        omega (arith, two, near.1, back, by_a_third (code other) (looked row) (code value), four_apart other value near.0 h (eqb-false other value e))
