-- Rows bit by bit: what each operation does at each place, that equal bits make equal rows, and the laws of the operations that follow.
-- Assumes nothing.
use mathlib.Core.Bool.{Bool, true, false}
use mathlib.Core.Path.{◌≡◌, refl, sym, ap, ap₂, ◌∙◌}
use Prim.Native.Nat.{ℕ, zero, suc, ◌+◌, ◌-◌, ◌*◌, ◌/◌, ◌%◌, ◌^◌, ◌≤◌, ◌<◌, min, max}
use native.Mathlib.Nat.{zero-lt-suc, add-zero, mod-lt, div-one, div-add-mod', div-eq_of_lt, lt_of_lt_of_le, le-max_left, le-max_right}
use native.Mathlib.Numerals.{one-add}
use native.Mathlib.Omega.{arith}
use borrow.Author.Tests.{ltb-true, ltb-false}
use lib.Arith.{half_le, le-zero, digits_mod}
use lib.Bits.{bit_and, bit_or, bit_xor, differ, and_step, or_step, xor_step, and_comm, and_mask, and_block, and_shr, or_shr, xor_shr}
use lib.Dec.{T, ltb, eqb, ltb→lt}
use lib.Pow.{pow_pos, pow_mono, split, shr-shr, field, mod-mod-pow}
use Rattle.row.specs.Code.{bit_at}
use Rattle.row.proofs.Digits.{tried2, tried3, at_digits2, equal3}

pub two_pos : zero < 2
two_pos = zero-lt-suc 1

pub bit_lt : (k n : ℕ) → bit_at k n < 2
bit_lt k n = mod-lt (n / 2 ^ k) two_pos

pub bit_lowest : (n : ℕ) → bit_at 0 n ≡ n % 2
bit_lowest n = ap (λ (x : ℕ). x % 2) (div-one n)

pub bit_half : (k n : ℕ) → bit_at k (n / 2) ≡ bit_at (suc k) n
bit_half k n = ap (λ (x : ℕ). x % 2) (shr-shr n 1 k ∙ ap (λ (j : ℕ). n / 2 ^ j) (one-add k))

-- equal at every place, equal
pub same_bits : (a b : ℕ) → ((k : ℕ) → bit_at k a ≡ bit_at k b) → a ≡ b
same_bits a b = go (max a b) a b (le-max_left a b) (le-max_right a b)
  where
    go : (n x y : ℕ) → x ≤ n → y ≤ n → ((k : ℕ) → bit_at k x ≡ bit_at k y) → x ≡ y
    go zero x y hx hy e = le-zero hx ∙ sym (le-zero hy)
    go (suc n) x y hx hy e =
        sym (div-add-mod' x 2)
        ∙ ap₂ (λ (q r : ℕ). q * 2 + r)
        (go n (x / 2) (y / 2) (half_le hx) (half_le hy) (λ k. bit_half k x ∙ e (suc k) ∙ sym (bit_half k y)))
        (sym (bit_lowest x) ∙ e 0 ∙ bit_lowest y)
        ∙ div-add-mod' y 2

-- a bit of the d low places, and a bit above a number of d places
pub bit_low : (d k n : ℕ) → k < d → bit_at k (n % 2 ^ d) ≡ bit_at k n
bit_low d k n h =
    let between : ℕ = d - suc k in
    let width : d ≡ between + 1 + k = omega arith in
    ap (λ (w : ℕ). n % 2 ^ w / 2 ^ k % 2) width ∙ ap (λ (x : ℕ). x % 2) (field n (between + 1) k) ∙ mod-mod-pow (n / 2 ^ k) between 1

bit_above : (d k n : ℕ) → n < 2 ^ d → d ≤ k → bit_at k n ≡ 0
bit_above d k n h l = ap (λ (x : ℕ). x % 2) (div-eq_of_lt (lt_of_lt_of_le h (pow_mono l)))

-- two numbers of d places that are equal at each of them are equal
pub same_below : (d a b : ℕ) → a < 2 ^ d → b < 2 ^ d → ((k : ℕ) → k < d → bit_at k a ≡ bit_at k b) → a ≡ b
same_below d a b ha hb e = same_bits a b (λ k. go k (ltb k d) refl)
  where
    go : (k : ℕ) (t : Bool) → ltb k d ≡ t → bit_at k a ≡ bit_at k b
    go k true below = e k (ltb-true k d below)
    go k false above = bit_above d k a ha (ltb-false k d above) ∙ sym (bit_above d k b hb (ltb-false k d above))

-- an operation that goes digit by digit does at each place what it does to two digits
module _ (op f : ℕ → ℕ → ℕ)
    (shr : (a b k : ℕ) → op a b / 2 ^ k ≡ op (a / 2 ^ k) (b / 2 ^ k))
    (step : (a b : ℕ) → op a b ≡ op (a / 2) (b / 2) * 2 + f (a % 2) (b % 2))
    (small : T (tried2 (λ x y. ltb (f x y) 2))) where
  lowest : (a b : ℕ) → op a b % 2 ≡ f (a % 2) (b % 2)
  lowest a b =
      ap (λ (x : ℕ). x % 2) (step a b)
      ∙ digits_mod (op (a / 2) (b / 2))
      (ltb→lt _ _ (at_digits2 (λ x y. ltb (f x y) 2) small (a % 2) (b % 2) (mod-lt a two_pos) (mod-lt b two_pos)))

  at_place : (k a b : ℕ) → bit_at k (op a b) ≡ f (bit_at k a) (bit_at k b)
  at_place k a b = ap (λ (x : ℕ). x % 2) (shr a b k) ∙ lowest (a / 2 ^ k) (b / 2 ^ k)

pub bit_at-bit_and : (k a b : ℕ) → bit_at k (bit_and a b) ≡ min (bit_at k a) (bit_at k b)
bit_at-bit_and = at_place bit_and min and_shr and_step tt

pub bit_at-bit_or : (k a b : ℕ) → bit_at k (bit_or a b) ≡ max (bit_at k a) (bit_at k b)
bit_at-bit_or = at_place bit_or max or_shr or_step tt

pub bit_at-bit_xor : (k a b : ℕ) → bit_at k (bit_xor a b) ≡ differ (bit_at k a) (bit_at k b)
bit_at-bit_xor = at_place bit_xor differ xor_shr xor_step tt

pub xor_lowest : (a b : ℕ) → bit_xor a b % 2 ≡ differ (a % 2) (b % 2)
xor_lowest = lowest bit_xor differ xor_shr xor_step tt

-- two terms over three rows that agree in every case of their digits are equal
module _ (f g : ℕ → ℕ → ℕ → ℕ) (t : T (tried3 (λ x y z. eqb (f x y z) (g x y z)))) where
  pub by_digits : (F G : ℕ → ℕ → ℕ → ℕ)
      → ((k a b c : ℕ) → bit_at k (F a b c) ≡ f (bit_at k a) (bit_at k b) (bit_at k c))
      → ((k a b c : ℕ) → bit_at k (G a b c) ≡ g (bit_at k a) (bit_at k b) (bit_at k c))
      → (a b c : ℕ) → F a b c ≡ G a b c
  by_digits F G h_f h_g a b c =
      same_bits (F a b c) (G a b c)
      (λ k. h_f k a b c ∙ equal3 f g t (bit_at k a) (bit_at k b) (bit_at k c) (bit_lt k a) (bit_lt k b) (bit_lt k c) ∙ sym (h_g k a b c))

pub and_xor : (a b m : ℕ) → bit_and (bit_xor a b) m ≡ bit_xor (bit_and a m) (bit_and b m)
and_xor =
    by_digits (λ x y z. min (differ x y) z) (λ x y z. differ (min x z) (min y z)) tt
    (λ a b c. bit_and (bit_xor a b) c) (λ a b c. bit_xor (bit_and a c) (bit_and b c))
    (λ k a b c. simp (bit_at-bit_and, bit_at-bit_xor)) (λ k a b c. simp (bit_at-bit_and, bit_at-bit_xor))

pub xor_assoc : (a b c : ℕ) → bit_xor (bit_xor a b) c ≡ bit_xor a (bit_xor b c)
xor_assoc =
    by_digits (λ x y z. differ (differ x y) z) (λ x y z. differ x (differ y z)) tt
    (λ a b c. bit_xor (bit_xor a b) c) (λ a b c. bit_xor a (bit_xor b c))
    (λ k a b c. simp bit_at-bit_xor) (λ k a b c. simp bit_at-bit_xor)

pub xor_right_comm : (a b c : ℕ) → bit_xor (bit_xor a b) c ≡ bit_xor (bit_xor a c) b
xor_right_comm =
    by_digits (λ x y z. differ (differ x y) z) (λ x y z. differ (differ x z) y) tt
    (λ a b c. bit_xor (bit_xor a b) c) (λ a b c. bit_xor (bit_xor a c) b)
    (λ k a b c. simp bit_at-bit_xor) (λ k a b c. simp bit_at-bit_xor)

pub and_assoc : (a b c : ℕ) → bit_and (bit_and a b) c ≡ bit_and a (bit_and b c)
and_assoc =
    by_digits (λ x y z. min (min x y) z) (λ x y z. min x (min y z)) tt
    (λ a b c. bit_and (bit_and a b) c) (λ a b c. bit_and a (bit_and b c))
    (λ k a b c. simp bit_at-bit_and) (λ k a b c. simp bit_at-bit_and)

-- more bits set beside a row's own leave its own
pub and_or : (a b : ℕ) → bit_and a (bit_or a b) ≡ a
and_or a b =
    by_digits (λ x y z. min x (max x y)) (λ x y z. x) tt
    (λ a b c. bit_and a (bit_or a b)) (λ a b c. a)
    (λ k a b c. simp (bit_at-bit_and, bit_at-bit_or)) (λ k a b c. refl) a b 0

-- what a row shares with a power of two
pub and_power : (k n : ℕ) → bit_and (2 ^ k) n ≡ bit_at k n * 2 ^ k
and_power k n =
    let one : 2 ^ k ≡ 1 * 2 ^ k + 0 = omega arith in
    ap₂ bit_and one (sym (split n k)) ∙ and_block k 1 (n / 2 ^ k) 0 (n % 2 ^ k) (pow_pos k) (mod-lt n (pow_pos k))
    ∙ add-zero (bit_and 1 (n / 2 ^ k) * 2 ^ k)
    ∙ ap (λ (bit : ℕ). bit * 2 ^ k) (and_comm 1 (n / 2 ^ k) ∙ and_mask (n / 2 ^ k) 1)
