-- Counting set bits: place by place, of two parts, of an exclusive or; numbers of few set bits; and parity.
-- Assumes nothing.
use mathlib.Core.Bool.{Bool, ◌&&◌}
use mathlib.Core.Logic.{◌⊎◌, inl, inr}
use mathlib.Core.Path.{◌≡◌, refl, sym, ap, ap₂, ◌∙◌, subst}
use Prim.Native.Nat.{ℕ, zero, suc, ◌+◌, ◌*◌, ◌/◌, ◌%◌, ◌^◌, ◌≤◌, ◌<◌, zero-le, suc-le-suc}
use native.Mathlib.Nat.{mod-lt, mod-mod, add-mod, add-zero, zero-add, add_assoc, suc-add, div-one, div-eq_of_lt}
use native.Mathlib.Numerals.{one-add, add-one}
use native.Mathlib.Omega.{arith}
use lib.Arith.{lt-one}
use lib.Bits.{bit_xor, differ, xor_shr}
use lib.Count.{ones, ones_in, ones_step}
use lib.Dec.{T, ltb, ltb→lt}
use lib.Pow.{shr-shr, mod-mod-pow, field}
use Rattle.row.specs.Code.{bit_at, set_bits, parity}
use Rattle.row.proofs.Digits.{zero_or_one, equal2, equal3, at_digits2}
use Rattle.answer.proofs.Choices.{both_left, both_right}
use Rattle.row.proofs.Places.{two_pos, bit_lowest, bit_half, xor_lowest}

-- ---- counts, place by place

pub ones_sum : (d a b c : ℕ) → ((k : ℕ) → k < d → bit_at k a + bit_at k b ≡ bit_at k c) → ones_in d a + ones_in d b ≡ ones_in d c
unfolding ones_in
ones_sum zero a b c h = refl
ones_sum (suc d) a b c h =
    let low : a % 2 + b % 2 ≡ c % 2 = ap₂ ◌+◌ (sym (bit_lowest a)) (sym (bit_lowest b)) ∙ h 0 (suc-le-suc zero-le) ∙ bit_lowest c in
    let rest : ones_in d (a / 2) + ones_in d (b / 2) ≡ ones_in d (c / 2) =
    ones_sum d (a / 2) (b / 2) (c / 2)
    (λ k l. ap₂ ◌+◌ (bit_half k a) (bit_half k b) ∙ h (suc k) (suc-le-suc l) ∙ sym (bit_half k c)) in
    omega arith

pub ones_same : (d a b : ℕ) → ((k : ℕ) → k < d → bit_at k a ≡ bit_at k b) → ones_in d a ≡ ones_in d b
unfolding ones_in
ones_same zero a b h = refl
ones_same (suc d) a b h =
    ap₂ ◌+◌ (sym (bit_lowest a) ∙ h 0 (suc-le-suc zero-le) ∙ bit_lowest b)
    (ones_same d (a / 2) (b / 2) (λ k l. bit_half k a ∙ h (suc k) (suc-le-suc l) ∙ sym (bit_half k b)))

pub ones_at_most : (d a b c : ℕ) → ((k : ℕ) → k < d → bit_at k c ≤ bit_at k a + bit_at k b) → ones_in d c ≤ ones_in d a + ones_in d b
unfolding ones_in
ones_at_most zero a b c h = zero-le
ones_at_most (suc d) a b c h =
    let low : c % 2 ≤ a % 2 + b % 2 = simp bit_lowest at (h 0 (suc-le-suc zero-le)) in
    let rest : ones_in d (c / 2) ≤ ones_in d (a / 2) + ones_in d (b / 2) =
    ones_at_most d (a / 2) (b / 2) (c / 2) (λ k l. simp bit_half (h (suc k) (suc-le-suc l))) in
    omega arith

-- ---- counts of two parts

pub ones_split : (d e n : ℕ) → ones_in (d + e) n ≡ ones_in d n + ones_in e (n / 2 ^ d)
unfolding ones_in
ones_split zero e n = ap₂ ones_in (zero-add e) (sym (div-one n)) ∙ sym (zero-add (ones_in e (n / 1)))
ones_split (suc d) e n =
    ap (λ (j : ℕ). ones_in j n) (suc-add d e)
    ∙ ap (λ (x : ℕ). n % 2 + x) (ones_split d e (n / 2) ∙ ap (λ (m : ℕ). ones_in d (n / 2) + ones_in e m) (shr-shr n 1 d ∙ ap (λ (j : ℕ). n / 2 ^ j) (one-add d)))
    ∙ sym (add_assoc (n % 2) (ones_in d (n / 2)) (ones_in e (n / 2 ^ suc d)))

pub ones_none : (d : ℕ) → ones_in d 0 ≡ 0
unfolding ones_in
ones_none zero = refl
ones_none (suc d) = zero-add (ones_in d 0) ∙ ones_none d

-- a count of more places than a number has
pub ones_wider : (d e n : ℕ) → n < 2 ^ d → ones_in (d + e) n ≡ ones_in d n
ones_wider d e n h =
    ones_split d e n ∙ ap (λ (m : ℕ). ones_in d n + ones_in e m) (div-eq_of_lt h)
    ∙ ap (λ (m : ℕ). ones_in d n + m) (ones_none e) ∙ add-zero (ones_in d n)

-- a count looks at no place above
pub ones_low : (d n : ℕ) → ones_in d (n % 2 ^ d) ≡ ones_in d n
unfolding ones_in
ones_low zero n = refl
ones_low (suc d) n =
    ap (λ (j : ℕ). n % 2 ^ j % 2 + ones_in d (n % 2 ^ j / 2)) (sym (add-one d))
    ∙ ap₂ ◌+◌ (mod-mod-pow n d 1) (ap (ones_in d) (field n d 1) ∙ ones_low d (n / 2))

-- the language's count of ones, at a number of d places
pub ones_counted : (d n : ℕ) → n < 2 ^ d → ones n ≡ ones_in d n
unfolding ones_in ones
ones_counted zero n h = ap ones (lt-one h)
ones_counted (suc d) n h =
    ones_step n ∙ ap (λ (x : ℕ). n % 2 + x) (ones_counted d (n / 2) (omega arith))

-- ---- few set bits

pub none_set : (d n : ℕ) → n < 2 ^ d → ones_in d n ≤ 0 → n ≡ 0
unfolding ones_in
none_set zero n h l = lt-one h
none_set (suc d) n h l =
    let rest : n / 2 ≡ 0 = none_set d (n / 2) (omega arith) (omega arith) in
    omega arith

-- 0, or the power of two of one of d places
abbrev pub ZeroOrPower : ℕ → ℕ → Type 0
ZeroOrPower d n = (n ≡ 0) ⊎ ((place : ℕ) × (place < d) × (n ≡ 2 ^ place))

pub one_set : (d n : ℕ) → n < 2 ^ d → ones_in d n ≤ 1 → ZeroOrPower d n
unfolding ones_in
one_set zero n h l = inl (lt-one h)
one_set (suc d) n h l = go (zero_or_one (n % 2) (mod-lt n two_pos)) (one_set d (n / 2) (omega arith))
  where
    doubled : n % 2 ≡ 0 → ZeroOrPower d (n / 2) → ZeroOrPower (suc d) n
    doubled even (inl none) = inl (omega arith)
    doubled even (inr one) = inr (suc one.0, omega arith, omega arith)

    go : (n % 2 ≡ 0) ⊎ (n % 2 ≡ 1) → (ones_in d (n / 2) ≤ 1 → ZeroOrPower d (n / 2)) → ZeroOrPower (suc d) n
    go (inl even) rest = doubled even (rest (omega arith))
    go (inr odd) rest =
        let none : n / 2 ≡ 0 = none_set d (n / 2) (omega arith) (omega arith) in
        inr (0, omega arith, omega arith)

-- a test passes at each number of d places of which at most `few` are set
abbrev pub all_few : ℕ → ℕ → (ℕ → Bool) → Bool
all_few zero few f = f 0
all_few (suc d) zero f = f 0
all_few (suc d) (suc few) f = all_few d (suc few) (λ n. f (n * 2)) && all_few d few (λ n. f (n * 2 + 1))

pub at_few : (d few : ℕ) (f : ℕ → Bool) → T (all_few d few f) → (n : ℕ) → n < 2 ^ d → ones_in d n ≤ few → T (f n)
unfolding ones_in
at_few zero few f t n h l = subst (λ (m : ℕ). T (f m)) (sym (lt-one h)) t
at_few (suc d) zero f t n h l = subst (λ (m : ℕ). T (f m)) (sym (none_set (suc d) n h l)) t
at_few (suc d) (suc few) f t n h l =
    let evens : Bool = all_few d (suc few) (λ m. f (m * 2)) in
    let odds : Bool = all_few d few (λ m. f (m * 2 + 1)) in
    go (zero_or_one (n % 2) (mod-lt n two_pos))
    (at_few d (suc few) (λ m. f (m * 2)) (both_left evens odds t) (n / 2) (omega arith))
    (at_few d few (λ m. f (m * 2 + 1)) (both_right evens odds t) (n / 2) (omega arith))
  where
    go : (n % 2 ≡ 0) ⊎ (n % 2 ≡ 1)
        → (ones_in d (n / 2) ≤ suc few → T (f (n / 2 * 2))) → (ones_in d (n / 2) ≤ few → T (f (n / 2 * 2 + 1))) → T (f n)
    go (inl even) at-even at-odd = subst (λ (m : ℕ). T (f m)) (omega arith) (at-even (omega arith))
    go (inr odd) at-even at-odd = subst (λ (m : ℕ). T (f m)) (omega arith) (at-odd (omega arith))

-- ---- parity

sum_parity : (a b : ℕ) → (a + b) % 2 ≡ differ (a % 2) (b % 2)
sum_parity a b =
    add-mod a b 2 ∙ equal2 (λ x y. (x + y) % 2) differ tt (a % 2) (b % 2) (mod-lt a two_pos) (mod-lt b two_pos)

differ_lt : (x y : ℕ) → x < 2 → y < 2 → differ x y < 2
differ_lt x y hx hy = ltb→lt _ _ (at_digits2 (λ x y. ltb (differ x y) 2) tt x y hx hy)

differ_swap : (w x y z : ℕ) → w < 2 → x < 2 → y < 2 → z < 2 → differ (differ w x) (differ y z) ≡ differ (differ w y) (differ x z)
differ_swap w x y z hw hx hy hz =
    equal3 (λ a b c. differ a (differ b c)) (λ a b c. differ (differ a b) c) tt (differ w x) y z (differ_lt w x hw hx) hy hz
    ∙ ap (λ (u : ℕ). differ u z) (equal3 (λ a b c. differ (differ a b) c) (λ a b c. differ (differ a c) b) tt w x y hw hx hy)
    ∙ sym (equal3 (λ a b c. differ a (differ b c)) (λ a b c. differ (differ a b) c) tt (differ w y) x z (differ_lt w y hw hy) hx hz)

-- the parity of an exclusive or
pub ones_xor : (d a b : ℕ) → ones_in d (bit_xor a b) % 2 ≡ differ (ones_in d a % 2) (ones_in d b % 2)
unfolding ones_in
ones_xor zero a b = refl
ones_xor (suc d) a b =
    sum_parity (bit_xor a b % 2) (ones_in d (bit_xor a b / 2))
    ∙ ap₂ differ (mod-mod (bit_xor a b) 2 ∙ xor_lowest a b) (ap (λ (m : ℕ). ones_in d m % 2) (xor_shr a b 1) ∙ ones_xor d (a / 2) (b / 2))
    ∙ differ_swap (a % 2) (b % 2) (ones_in d (a / 2) % 2) (ones_in d (b / 2) % 2)
    (mod-lt a two_pos) (mod-lt b two_pos) (mod-lt (ones_in d (a / 2)) two_pos) (mod-lt (ones_in d (b / 2)) two_pos)
    ∙ sym (ap₂ differ (sum_parity (a % 2) (ones_in d (a / 2)) ∙ ap (λ (x : ℕ). differ x (ones_in d (a / 2) % 2)) (mod-mod a 2))
    (sum_parity (b % 2) (ones_in d (b / 2)) ∙ ap (λ (x : ℕ). differ x (ones_in d (b / 2) % 2)) (mod-mod b 2)))

pub parity_xor : (a b : ℕ) → parity (bit_xor a b) ≡ differ (parity a) (parity b)
unfolding parity set_bits
parity_xor a b = ones_xor 24 a b

pub parity_lt : (a : ℕ) → parity a < 2
unfolding parity
parity_lt a = mod-lt (set_bits a) two_pos

-- a count is at most the number of places that it looks at
pub ones_le : (d n : ℕ) → ones_in d n ≤ d
unfolding ones_in
ones_le zero n = zero-le
ones_le (suc d) n =
    let low : n % 2 < 2 = mod-lt n two_pos in
    let rest : ones_in d (n / 2) ≤ d = ones_le d (n / 2) in
    omega arith

-- one place more
pub ones_more : (d n : ℕ) → ones_in (d + 1) n ≡ ones_in d n + bit_at d n
unfolding ones_in
ones_more d n = ones_split d 1 n ∙ ap (λ (x : ℕ). ones_in d n + x) (add-zero (bit_at d n))
