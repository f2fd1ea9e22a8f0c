-- Counting who has a bit, row by row, and the vote as a number made of its bits.
-- Assumes nothing.
use mathlib.Core.Path.{◌≡◌, sym, ap, ap₂, ◌∙◌}
use mathlib.Core.Bool.{Bool, true, false}
use mathlib.Core.Logic.{◌⊎◌, inl, inr}
use mathlib.Core.List.{List, [], ◌∷◌}
use Prim.Native.Nat.{ℕ, zero, suc, ◌+◌, ◌*◌, ◌%◌, ◌^◌, ◌≤◌, ◌<◌, suc-le-suc}
use native.Mathlib.Nat.{add_assoc, add_comm, add-zero, zero-add, zero-div, zero-mul, one-mul, mul_comm, pow-suc, mod-one, mod-eq_of_lt, le_refl, le_of_lt, le_of_suc-le-suc, not-suc-le-zero, eq-or-lt_of_le}
use native.Mathlib.Numerals.{add-one, one-add}
use borrow.Author.Tests.{le-leb, lt-leb}
use lib.Arith.{digits_lt}
use lib.Dec.{leb, lit<}
use lib.ListN.{length, get_or, take}
use lib.Pow.{high, low, mod-pow-add}
use lib.Seq.{take-nil, take_all, length-take-le, get_or-take}
use Rattle.std.specs.Prelude.{if◌then◌else◌}
use Rattle.row.specs.Code.{bit_at}
use Rattle.row.proofs.Places.{bit_low}
use Rattle.vote.specs.Voting.{holders, voted_bit, voted_below}

-- one row more; past the last row there is nothing to count
pub holders_more : (place : ℕ) (rows : List ℕ) (i : ℕ)
    → holders place (take (suc i) rows) ≡ holders place (take i rows) + bit_at place (get_or rows i 0)
unfolding holders
holders_more place [] i =
    sym (ap (λ (rows : List ℕ). holders place rows + bit_at place 0) (take-nil i) ∙ zero-add (bit_at place 0) ∙ ap (λ (n : ℕ). n % 2) (zero-div (2 ^ place)))
holders_more place (row ∷ rows) zero = add_comm (bit_at place row) 0
holders_more place (row ∷ rows) (suc i) =
    ap (λ (n : ℕ). bit_at place row + n) (holders_more place rows i)
    ∙ sym (add_assoc (bit_at place row) (holders place (take i rows)) (bit_at place (get_or rows i 0)))

-- one row more of those that count
pub holders_counted : (place : ℕ) (rows : List ℕ) (count i : ℕ) → i < count
    → holders place (take i (take count rows)) + bit_at place (get_or rows i 0) ≡ holders place (take (suc i) (take count rows))
holders_counted place rows count i h =
    ap (λ (row : ℕ). holders place (take i (take count rows)) + bit_at place row) (sym (get_or-take count rows i 0 h))
    ∙ sym (holders_more place (take count rows) i)

-- from the last row that counts on, no other row does
pub all_counted : (rows : List ℕ) (count i : ℕ) → count ≤ length rows → count ≤ i → take i (take count rows) ≡ take count rows
all_counted rows count i within h = take_all i (take count rows) (rw (length-take-le count rows within) h)

-- ---- the voted bits

voted_bit_lt : (threshold : ℕ) (rows : List ℕ) (place : ℕ) → voted_bit threshold rows place < 2
voted_bit_lt threshold rows place = go (leb threshold (holders place rows))
  where
    go : (t : Bool) → (if t then 1 else 0) < 2
    go true = lit< tt
    go false = lit< tt

-- the voted bits below a place are below it
pub voted_lt : (places threshold : ℕ) (rows : List ℕ) → voted_below places threshold rows < 2 ^ places
unfolding voted_below
voted_lt zero threshold rows = lit< tt
voted_lt (suc place) threshold rows =
    rw (add_comm, pow-suc, mul_comm (2 ^ place) 2) (digits_lt (voted_bit_lt threshold rows place) (voted_lt place threshold rows))

-- each voted bit stands at its place
pub bit_voted : (places place threshold : ℕ) (rows : List ℕ) → place < places
    → bit_at place (voted_below places threshold rows) ≡ voted_bit threshold rows place
unfolding voted_below
bit_voted zero place threshold rows h = absurd (not-suc-le-zero h)
bit_voted (suc top) place threshold rows h =
    rw add_comm (go (eq-or-lt_of_le (le_of_suc-le-suc h)) (bit_voted top place threshold rows))
  where
    bit : ℕ
    bit = voted_bit threshold rows top

    below : ℕ
    below = voted_below top threshold rows

    go : (place ≡ top) ⊎ (place < top) → (place < top → bit_at place below ≡ voted_bit threshold rows place)
        → bit_at place (bit * 2 ^ top + below) ≡ voted_bit threshold rows place
    go (inl e) rest =
        rw (e, high bit top (voted_lt top threshold rows)) (mod-eq_of_lt (voted_bit_lt threshold rows top))
    go (inr l) rest =
        sym (bit_low top place (bit * 2 ^ top + below) l) ∙ ap (bit_at place) (low bit top (voted_lt top threshold rows)) ∙ rest l

-- one bit more, as the code judges it
pub voted_set : (place threshold : ℕ) (rows : List ℕ) → threshold ≤ holders place rows
    → voted_below (place + 1) threshold rows ≡ voted_below place threshold rows + 2 ^ place
unfolding voted_below
voted_set place threshold rows h =
    rw (add-one, le-leb threshold (holders place rows) h, one-mul)

pub voted_clear : (place threshold : ℕ) (rows : List ℕ) → holders place rows < threshold
    → voted_below (place + 1) threshold rows ≡ voted_below place threshold rows
unfolding voted_below
voted_clear place threshold rows h =
    rw (add-one, lt-leb threshold (holders place rows) h, zero-mul, add-zero)

-- a number whose bits are the voted ones is the vote
pub voted_is : (places threshold : ℕ) (rows : List ℕ) (n : ℕ) → ((k : ℕ) → k < places → voted_bit threshold rows k ≡ bit_at k n)
    → voted_below places threshold rows ≡ n % 2 ^ places
unfolding voted_below
voted_is zero threshold rows n h = sym (mod-one n)
voted_is (suc place) threshold rows n h =
    ap₂ ◌+◌ (voted_is place threshold rows n (λ k l. h k (le_of_lt (suc-le-suc l)))) (ap (λ (b : ℕ). b * 2 ^ place) (h place (le_refl (suc place))))
    ∙ add_comm (n % 2 ^ place) (bit_at place n * 2 ^ place)
    ∙ sym (mod-pow-add n 1 place)
    ∙ ap (λ (j : ℕ). n % 2 ^ j) (one-add place)
