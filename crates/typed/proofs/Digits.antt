-- Digits: which bytes are digits, what is left of a number that is read digit by digit, and where a key is spelled.
-- Assumes nothing.
use mathlib.Core.Path.{◌≡◌, refl, ◌∙◌}
use mathlib.Core.Bool.{Bool, true, false, ◌&&◌, and-false}
use mathlib.Core.List.{List, [], ◌∷◌}
use Prim.Native.Nat.{ℕ, ◌+◌, ◌*◌, ◌-◌, ◌≤◌, ◌<◌}
use native.Mathlib.Nat.{mul-one, mul-le-mul_left}
use native.Mathlib.Numerals.{add-one}
use native.Mathlib.Omega.{arith}
use borrow.Author.Tests.{lt-ltb, le-ltb, le-leb, lt-leb, ltb-true, ltb-false}
use lib.Dec.{leb, ltb}
use lib.ListN.{length, get_or, drop}
use lib.Seq.{drop-cons, drop-length}
use Rattle.std.proofs.lemmas.List.Recursion.{and_from_places, and_fails_at}
use Rattle.std.specs.Prelude.{Option, Some, None, if◌then◌else◌}
use Rattle.typed.specs.Numbers.{within, digit_of, digit_in, digits_below, value_with, number_in, key_of, key_spelled}

module _ (first last byte : ℕ) where
  pub is_within : first ≤ byte → byte ≤ last → within first last byte ≡ true
  is_within low high = rw (le-leb first byte low, le-leb byte last high)

  pub below : byte < first → within first last byte ≡ false
  below low = rw (lt-leb first byte low)

  pub above : last < byte → within first last byte ≡ false
  above high = go (leb first byte)
    where
      go : (t : Bool) → (t && leb byte last) ≡ false
      go true = lt-leb byte last high
      go false = refl

-- what a byte counts, by the bytes that it is among
module _ (byte : ℕ) where
  pub decimal_digit : 48 ≤ byte → byte ≤ 57 → digit_in 16 byte ≡ Some (byte - 48)
  unfolding digit_of digit_in
  decimal_digit low high = rw (is_within 48 57 byte low high, lt-ltb (byte - 48) 16 (omega arith))

  pub upper_digit : 65 ≤ byte → byte ≤ 70 → digit_in 16 byte ≡ Some (byte - 55)
  unfolding digit_of digit_in
  upper_digit low high =
      rw (above 48 57 byte (omega arith), below 97 102 byte (omega arith), is_within 65 70 byte low high, lt-ltb (byte - 55) 16 (omega arith))

  pub lower_digit : 97 ≤ byte → byte ≤ 102 → digit_in 16 byte ≡ Some (byte - 87)
  unfolding digit_of digit_in
  lower_digit low high = rw (above 48 57 byte (omega arith), is_within 97 102 byte low high, lt-ltb (byte - 87) 16 (omega arith))

  pub low_byte : byte < 48 → digit_in 16 byte ≡ None
  unfolding digit_of digit_in
  low_byte high = rw (below 48 57 byte high, below 97 102 byte (omega arith), below 65 70 byte (omega arith))

  pub between_byte : 57 < byte → byte < 65 → digit_in 16 byte ≡ None
  unfolding digit_of digit_in
  between_byte low high = rw (above 48 57 byte low, below 97 102 byte (omega arith), below 65 70 byte high)

  pub middle_byte : 70 < byte → byte < 97 → digit_in 16 byte ≡ None
  unfolding digit_of digit_in
  middle_byte low high = rw (above 48 57 byte (omega arith), below 97 102 byte high, above 65 70 byte low)

  pub high_byte : 102 < byte → digit_in 16 byte ≡ None
  unfolding digit_of digit_in
  high_byte low = rw (above 48 57 byte (omega arith), above 97 102 byte low, above 65 70 byte (omega arith))

pub ruleset counts = (decimal_digit, upper_digit, lower_digit, low_byte, between_byte, middle_byte, high_byte)

-- a byte counts nothing only where it is no digit, and otherwise what it counts as one
module _ (byte : ℕ) where
  pub no_digit : digit_in 16 byte ≡ None → 16 ≤ digit_of byte
  unfolding digit_in
  no_digit none = go (ltb (digit_of byte) 16) refl none
    where
      go : (t : Bool) → ltb (digit_of byte) 16 ≡ t → (if t then Some (digit_of byte) else None) ≡ None → 16 ≤ digit_of byte
      go true own e = cc
      go false other e = ltb-false (digit_of byte) 16 other

  pub is_digit : (own : ℕ) → digit_in 16 byte ≡ Some own → (own ≡ digit_of byte) × (own < 16)
  unfolding digit_in
  is_digit own some = go (ltb (digit_of byte) 16) refl some
    where
      go : (t : Bool) → ltb (digit_of byte) 16 ≡ t → (if t then Some (digit_of byte) else None) ≡ Some own → (own ≡ digit_of byte) × (own < 16)
      go true below e = let is : own ≡ digit_of byte = cc in (is, rw is (ltb-true (digit_of byte) 16 below))
      go false other e = cc

-- the number that is left to read after a value
abbrev pub left : ℕ → ℕ → List ℕ → Option ℕ
left base value digits =
    if digits_below base digits && leb (value_with base value digits) 4294967295 then Some (value_with base value digits) else None

-- at the first digit all is left
pub all_left : (base : ℕ) (digits : List ℕ) → 1 ≤ length digits → number_in base digits ≡ left base 0 (drop 0 digits)
unfolding number_in
all_left base digits some = rw (le-leb 1 (length digits) some)

-- no digits, no number
pub none_spelled : (base : ℕ) (digits : List ℕ) → length digits ≡ 0 → number_in base digits ≡ None
unfolding number_in
none_spelled base digits none = rw (none)

-- a value is no less with digits behind it
value_grows : (base value : ℕ) (digits : List ℕ) → 1 ≤ base → value ≤ value_with base value digits
unfolding value_with
value_grows base value [] some = omega arith
value_grows base value (byte ∷ others) some =
    let more : value * 1 ≤ value * base = mul-le-mul_left value some in
    omega (arith, value_grows base (value * base + digit_of byte) others some, mul-one value)

-- a value that is too large stays so
pub left_large : (base value : ℕ) (digits : List ℕ) → 1 ≤ base → 4294967295 < value → left base value digits ≡ None
left_large base value digits some large =
    let too : 4294967295 < value_with base value digits = omega (arith, value_grows base value digits some) in
    rw (lt-leb (value_with base value digits) 4294967295 too, and-false (digits_below base digits))

module _ (base value : ℕ) (digits : List ℕ) (i : ℕ) (h : i < length digits) where
  -- a byte that is no digit of the base
  pub left_not : base ≤ digit_of (get_or digits i 0) → left base value (drop i digits) ≡ None
  unfolding digits_below
  left_not other = rw (drop-cons digits i 0 h, le-ltb (digit_of (get_or digits i 0)) base other)

  -- one digit more
  left_next : digit_of (get_or digits i 0) < base
      → left base value (drop i digits) ≡ left base (value * base + digit_of (get_or digits i 0)) (drop (i + 1) digits)
  unfolding digits_below value_with
  left_next own = rw (add-one, drop-cons digits i 0 h, lt-ltb (digit_of (get_or digits i 0)) base own)

  pub left_more : (own more : ℕ) → own ≡ digit_of (get_or digits i 0) → own < base → more ≡ value * base + own
      → left base value (drop i digits) ≡ left base more (drop (i + 1) digits)
  left_more own more is fits e = rw (e, is) (left_next (rw is at fits))

-- and where the value is too large with it, there is no number
pub left_over : (base value : ℕ) (digits : List ℕ) (i : ℕ) → i < length digits → digit_of (get_or digits i 0) < base
    → 4294967295 < value * base + digit_of (get_or digits i 0) → left base value (drop i digits) ≡ None
left_over base value digits i h own large =
    left_next base value digits i h own ∙ left_large base (value * base + digit_of (get_or digits i 0)) (drop (i + 1) digits) (omega arith) large

-- at the end the value is the number
pub left_none : (base value : ℕ) (digits : List ℕ) (i : ℕ) → i ≡ length digits → value ≤ 4294967295 → left base value (drop i digits) ≡ Some value
unfolding digits_below value_with
left_none base value digits i all fits = rw (all, drop-length digits, le-leb value 4294967295 fits)

-- a key is spelled where each of the 32 bytes is a digit
module _ (text : List ℕ) (long : length text ≡ 32) where
  pub key_spelled_lem : ((k : ℕ) → k < 32 → digit_of (get_or text k 0) < 16) → key_spelled text ≡ Some (key_of text)
  unfolding digits_below
  key_spelled_lem digits =
      let all : digits_below 16 text ≡ true = and_from_places (digits_below 16) _ refl (λ _ _. refl) text 0 (λ k h. lt-ltb (digit_of (get_or text k 0)) 16 (digits k (omega arith))) in
      rw (long, all)

  pub no_key_spelled : (k : ℕ) → k < 32 → 16 ≤ digit_of (get_or text k 0) → key_spelled text ≡ None
  unfolding digits_below
  no_key_spelled k h other =
      let some : digits_below 16 text ≡ false = and_fails_at (digits_below 16) _ refl (λ _ _. refl) text k 0 (omega arith) (le-ltb (digit_of (get_or text k 0)) 16 other) in
      rw (long, some)
