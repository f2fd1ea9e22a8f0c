-- Writing a row: being in a row is an order, what an ECC write leaves, and what pulses it takes.
-- Assumes nothing.
use mathlib.Core.Bool.{Bool, true, false}
use mathlib.Core.Logic.{◌⊎◌, inl, inr, ◌↔◌}
use mathlib.Core.Path.{◌≡◌, refl, ap, ap₂, ◌∙◌}
use Prim.Native.Nat.{ℕ, ◌+◌, ◌*◌, ◌^◌, ◌≤◌, ◌<◌, min, max}
use native.Mathlib.Nat.{one-mul}
use native.Mathlib.Omega.{arith}
use borrow.Author.Tests.{eqb-true, eqb-false, eq-eqb, ne_eqb}
use lib.Bits.{bit_and, bit_or, differ, and_self}
use lib.Dec.{eqb, eqb→eq}
use Rattle.answer.specs.Answers.{found_in}
use Rattle.row.specs.Code.{bit_at, set_bits, flipped, plain, inverted}
use Rattle.decode.specs.Reading.{read_row}
use Rattle.row.specs.Writing.{fits, pulses, burnt_over, left_alone, ecc_written}
use Rattle.answer.specs.declared.answers.Condition.TheVariants.{Clean}
use Rattle.row.specs.Writing.{Written}
use Rattle.row.proofs.Counts.{ones_sum, ZeroOrPower, one_set}
use Rattle.row.proofs.Digits.{zero_or_one, at_below, equal3}
use Rattle.row.proofs.Places.{bit_lt, bit_at-bit_and, bit_at-bit_or, bit_at-bit_xor, by_digits, and_assoc, and_or, and_power}
use Rattle.laws.specs.Writes.{In, burnt_in, ZeroOrNine, ReadsBack, KeepsBits, NineExactly, RefusedKeeps, OneBitFits, SameEcc, SameRaw, PulsesAdd, StandsAlready, InItself, InThrough}
use Rattle.laws.proofs.Reading.{undamaged}

-- ---- being in a row

pub shared : (old row : ℕ) → In old row → bit_and old row ≡ old
shared old row = eqb-true (bit_and old row) old

pub in_shared : (old row : ℕ) → bit_and old row ≡ old → In old row
in_shared old row = eq-eqb (bit_and old row) old

pub in_itself : InItself
in_itself row = in_shared row row (and_self row)

pub in_through : InThrough
in_through a b c ab bc = in_shared a c (cc (shared a b ab, shared b c bc, and_assoc a b c))

-- ---- what an ECC write leaves

pub data Ecc (old value : ℕ) : Written → Type 0 where
  as_plain : In old (plain value) → Ecc old value (burnt_over old (plain value))
  as_inverted : (In old (plain value) → ⊥) → In old (inverted value) → Ecc old value (burnt_over old (inverted value))
  as_it_was : (In old (plain value) → ⊥) → (In old (inverted value) → ⊥) → Ecc old value (left_alone old 9)

lacks : (old row : ℕ) → fits old row ≡ false → In old row → ⊥
lacks old row e holds = eqb-false (bit_and old row) old e (shared old row holds)

pub written : (old value : ℕ) → Ecc old value (ecc_written old value)
written old value = go (fits old (plain value)) refl (fits old (inverted value)) refl
  where
    go : (p : Bool) → fits old (plain value) ≡ p → (i : Bool) → fits old (inverted value) ≡ i → Ecc old value (ecc_written old value)
    go true e i f = rw e (as_plain e)
    go false e true f = rw (e, f) (as_inverted (lacks old (plain value) e) f)
    go false e false f = rw (e, f) (as_it_was (lacks old (plain value) e) (lacks old (inverted value) f))

pub zero_or_nine : ZeroOrNine
zero_or_nine old value = go (written old value)
  where
    go : {w : Written} → Ecc old value w → (w.number ≡ 0) ⊎ (w.number ≡ 9)
    go (as_plain p) = inl refl
    go (as_inverted ¬p i) = inl refl
    go (as_it_was ¬p ¬i) = inr refl

pub reads_back : ReadsBack
reads_back old value h = go (written old value)
  where
    go : {w : Written} → Ecc old value w → w.number ≡ 0 → read_row w.row ≡ found_in (burnt_in old value) value Clean
    go (as_plain p) done = rw p (undamaged value h).0
    go (as_inverted ¬p i) done = rw (ne_eqb (bit_and old (plain value)) old (λ e. ¬p (in_shared old (plain value) e))) (undamaged value h).1
    go (as_it_was ¬p ¬i) done = absurd (omega arith)

pub keeps_bits : KeepsBits
keeps_bits old value = (go (written old value), in_shared old (bit_or old value) (and_or old value))
  where
    go : {w : Written} → Ecc old value w → In old w.row
    go (as_plain p) = p
    go (as_inverted ¬p i) = i
    go (as_it_was ¬p ¬i) = in_itself old

pub nine_exactly : NineExactly
nine_exactly old value = go (written old value)
  where
    go : {w : Written} → Ecc old value w → (w.number ≡ 9) ↔ ((In old (plain value) → ⊥) × (In old (inverted value) → ⊥))
    go (as_plain p) = (λ nine. absurd (omega arith), λ neither. absurd (neither.0 p))
    go (as_inverted ¬p i) = (λ nine. absurd (omega arith), λ neither. absurd (neither.1 i))
    go (as_it_was ¬p ¬i) = (λ nine. (¬p, ¬i), λ neither. refl)

pub refused_keeps : RefusedKeeps
refused_keeps old value = go (written old value)
  where
    go : {w : Written} → Ecc old value w → w.number ≡ 9 → (w.row ≡ old) × (w.pulses ≡ 0)
    go (as_plain p) nine = absurd (omega arith)
    go (as_inverted ¬p i) nine = absurd (omega arith)
    go (as_it_was ¬p ¬i) nine = (refl, refl)

pub same_ecc : SameEcc
same_ecc old between value done over = go (written old value) done
  where
    go : {w : Written} → Ecc old value w → w.number ≡ 0 → In between w.row
        → ((ecc_written between value).number ≡ 0) × ((ecc_written between value).row ≡ w.row)
    go (as_plain p) done under = rw under (refl, refl)
    go (as_inverted ¬p i) done under =
        let still : fits between (plain value) ≡ false =
        ne_eqb (bit_and between (plain value)) between (λ e. ¬p (in_through old between (plain value) over (in_shared between (plain value) e))) in
        rw (still, under) (refl, refl)
    go (as_it_was ¬p ¬i) done under = absurd (omega arith)

-- ---- one bit set beforehand

-- what flips a row has every bit
pub all_set : (place : ℕ) → place < 24 → bit_at place 0xffffff ≡ 1
all_set place h = eqb→eq (bit_at place 0xffffff) 1 (at_below 24 (λ k. eqb (bit_at k 0xffffff) 1) tt place h)

in-at : (place row : ℕ) → bit_at place row ≡ 1 → In (2 ^ place) row
in-at place row set =
    in_shared (2 ^ place) row (and_power place row ∙ ap (λ (bit : ℕ). bit * 2 ^ place) set ∙ one-mul (2 ^ place))

-- one set bit is in a row or in its opposite
in_either : (old row : ℕ) → old < 2 ^ 24 → set_bits old ≤ 1 → In old row ⊎ In old (flipped row)
unfolding set_bits
in_either old row small few = go (one_set 24 old small few)
  where
    at_place : (place : ℕ) → place < 24 → (bit_at place row ≡ 0) ⊎ (bit_at place row ≡ 1) → In (2 ^ place) row ⊎ In (2 ^ place) (flipped row)
    at_place place l (inl clear) = inr (in-at place (flipped row) (bit_at-bit_xor place row 0xffffff ∙ ap₂ differ clear (all_set place l)))
    at_place place l (inr set) = inl (in-at place row set)

    go : ZeroOrPower 24 old → In old row ⊎ In old (flipped row)
    go (inl none) = inl (rw none)
    go (inr (place, l, one)) = rw one (at_place place l (zero_or_one (bit_at place row) (bit_lt place row)))

pub one_bit_fits : OneBitFits
one_bit_fits old value small h few = go (written old value) (in_either old (plain value) small few)
  where
    go : {w : Written} → Ecc old value w → In old (plain value) ⊎ In old (inverted value) → w.number ≡ 0
    go (as_plain p) either = refl
    go (as_inverted ¬p i) either = refl
    go (as_it_was ¬p ¬i) (inl p) = absurd (¬p p)
    go (as_it_was ¬p ¬i) (inr i) = absurd (¬i i)

-- ---- a write made again

shared_or : (old between value : ℕ) → bit_or (bit_and between (bit_or old value)) value ≡ bit_or (bit_and old between) value
shared_or =
    by_digits (λ x y z. max (min y (max x z)) z) (λ x y z. max (min x y) z) tt
    (λ a b c. bit_or (bit_and b (bit_or a c)) c) (λ a b c. bit_or (bit_and a b) c)
    (λ k a b c. simp (bit_at-bit_and, bit_at-bit_or)) (λ k a b c. simp (bit_at-bit_and, bit_at-bit_or))

pub same_raw : SameRaw
same_raw old between value over under =
    rw (shared old between over, shared between (bit_or old value) under) at (shared_or old between value)

-- ---- pulses

-- of any three rows, made each in the next
pulses_through : (a b c : ℕ)
    → pulses (bit_and a (bit_and b c)) (bit_and b c) + pulses (bit_and b c) c ≡ pulses (bit_and a (bit_and b c)) c
unfolding pulses set_bits
pulses_through a b c =
    ones_sum 24 _ _ _
    (λ k l. simp (bit_at-bit_and, bit_at-bit_xor, all_set k l)
    (equal3 (λ x y z. min (min y z) (differ (min x (min y z)) 1) + min z (differ (min y z) 1)) (λ x y z. min z (differ (min x (min y z)) 1)) tt
    (bit_at k a) (bit_at k b) (bit_at k c) (bit_lt k a) (bit_lt k b) (bit_lt k c)))

pub pulses_add : PulsesAdd
pulses_add old between row over under =
    rw (shared between row under, shared old between over) at (pulses_through old between row)

pub stands_already : StandsAlready
stands_already row = omega (arith, pulses_add row row row (in_itself row) (in_itself row))
