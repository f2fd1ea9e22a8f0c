-- The vote of a lock row's three copies is their majority, bit by bit.
-- Assumes nothing.
use mathlib.Core.Path.{◌≡◌, sym, ◌∙◌}
use mathlib.Core.List.{[], ◌∷◌}
use Prim.Native.Nat.{ℕ, ◌+◌, ◌/◌, ◌%◌, ◌^◌, ◌<◌, min, max}
use native.Mathlib.Nat.{add-zero, mod-lt, mod-eq_of_lt, lt_of_lt_of_le}
use lib.Bits.{bit_and, bit_or, or_lt, and_lt}
use lib.Dec.{leb, lit≤}
use lib.Pow.{pow_pos, pow_mono}
use Rattle.std.specs.Prelude.{if◌then◌else◌}
use Rattle.row.specs.Code.{bit_at}
use Rattle.row.proofs.Digits.{equal3}
use Rattle.row.proofs.Places.{bit_at-bit_and, bit_at-bit_or, bit_lt}
use Rattle.vote.specs.Voting.{holders, voted_bit, vote}
use Rattle.vote.proofs.Votes.{voted_is}
use Rattle.latch.specs.Locks.{voted_byte}

abbrev pub majority : ℕ → ℕ → ℕ → ℕ
majority a b c = bit_or (bit_or (bit_and a b) (bit_and a c)) (bit_and b c)

majority_bit : (a b c k : ℕ) → voted_bit 2 (a ∷ b ∷ c ∷ []) k ≡ bit_at k (majority a b c)
unfolding holders
majority_bit a b c k =
    rw add-zero
    (equal3 (λ x y z. if leb 2 (x + (y + z)) then 1 else 0) (λ x y z. max (max (min x y) (min x z)) (min y z)) tt
    (bit_at k a) (bit_at k b) (bit_at k c) (bit_lt k a) (bit_lt k b) (bit_lt k c)
    ∙ sym (simp (bit_at-bit_or, bit_at-bit_and)))

majority_lt : (a b c : ℕ) → a < 2 ^ 8 → b < 2 ^ 8 → c < 2 ^ 8 → majority a b c < 2 ^ 24
majority_lt a b c ha hb hc =
    lt_of_lt_of_le
    (or_lt 8 (bit_or (bit_and a b) (bit_and a c)) (bit_and b c)
    (or_lt 8 (bit_and a b) (bit_and a c) (and_lt 8 a b ha hb) (and_lt 8 a c ha hc)) (and_lt 8 b c hb hc))
    (pow_mono {i = 8} {j = 24} (lit≤ tt))

pub voted_byte_lem : (row : ℕ) → majority (row % 256) (row / 256 % 256) (row / 65536 % 256) ≡ voted_byte row
unfolding voted_byte vote
voted_byte_lem row =
    sym (voted_is 24 2 (row % 256 ∷ row / 256 % 256 ∷ row / 65536 % 256 ∷ []) (majority (row % 256) (row / 256 % 256) (row / 65536 % 256))
    (λ k h. majority_bit (row % 256) (row / 256 % 256) (row / 65536 % 256) k)
    ∙ mod-eq_of_lt
    (majority_lt (row % 256) (row / 256 % 256) (row / 65536 % 256) (mod-lt row (pow_pos 8)) (mod-lt (row / 256) (pow_pos 8)) (mod-lt (row / 65536) (pow_pos 8))))
