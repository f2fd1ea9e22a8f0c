-- `permit::keys::same`: no bit differs of all the words exactly if each word is the same.
-- Assumes nothing.
use mathlib.Core.Bool.{Bool, true, false, ◌&&◌, and-true, and_assoc}
use mathlib.Core.List.{List, [], ◌∷◌, map}
use mathlib.Core.Path.{◌≡◌, refl, sym, ap, ◌∙◌}
use Prim.Native.Nat.{ℕ}
use native.Mathlib.Nat.{suc_inj}
use native.Mathlib.Omega.{arith}
use borrow.Author.Tests.{ne_eqb, eqb-true, eqb-false}
use lib.Bits.{bit_or, bit_xor, or_add_and, or_zero_l, and_le_l, and_le_r, xor_add_and, xor_self}
use lib.Dec.{eqb}
use lib.ListN.{length}
use Rattle.std.specs.List.{fold, zip}
use Rattle.chip.specs.Lists.{same}
use Rattle.permit.proofs.keys.same.Goals as goal

none_differs : (bits a b : ℕ) → eqb (bit_or bits (bit_xor a b)) 0 ≡ (eqb bits 0 && eqb a b)
none_differs bits a b = go (eqb bits 0) (eqb a b) refl refl
  where
    word : ℕ
    word = bit_xor a b

    go : (t t' : Bool) → eqb bits 0 ≡ t → eqb a b ≡ t' → eqb (bit_or bits word) 0 ≡ (t && t')
    go true true e e' = rw (eqb-true bits 0 e, eqb-true a b e', or_zero_l (bit_xor b b), xor_self b)
    go true false e e' = ne_eqb (bit_or bits word) 0 (λ none. eqb-false a b e' (omega (arith, none, or_add_and bits word, and_le_l bits word, xor_add_and a b, and_le_l a b, and_le_r a b)))
    go false t' e e' = ne_eqb (bit_or bits word) 0 (λ none. eqb-false bits 0 e (omega (arith, none, or_add_and bits word, and_le_r bits word)))

-- the words compared one after the other
compared : (a b : List ℕ) (bits : ℕ) → length a ≡ length b
    → eqb (fold (λ seen word. bit_or seen word) bits (map (λ (pair : ℕ × ℕ). bit_xor pair.0 pair.1) (zip a b))) 0 ≡ (eqb bits 0 && same a b)
unfolding same
compared [] [] bits e = sym (and-true (eqb bits 0))
compared [] (y ∷ b) bits e = absurd (omega (arith, e))
compared (x ∷ a) [] bits e = absurd (omega (arith, e))
compared (x ∷ a) (y ∷ b) bits e =
    compared a b (bit_or bits (bit_xor x y)) (suc_inj e)
    ∙ ap (λ (t : Bool). t && same a b) (none_differs bits x y)
    ∙ and_assoc (eqb bits 0) (eqb x y) (same a b)

pub returns : goal.returns
returns c = ap (λ (bits : ℕ). eqb bits 0) c.differing.ensures ∙ compared c.args.a c.args.b 0 (omega arith)
