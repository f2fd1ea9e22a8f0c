-- Votes: each bit by itself, a vote of equal rows, and that burning rows clears no voted bit.
-- Assumes nothing.
use mathlib.Core.Bool.{Bool, true, false}
use mathlib.Core.List.{List}
use mathlib.Core.Logic.{◌⊎◌, inl, inr, ◌↔◌}
use mathlib.Core.Path.{◌≡◌, refl, sym, ap, ◌∙◌}
use Prim.Native.Nat.{ℕ, ◌*◌, ◌≤◌, ◌<◌}
use native.Mathlib.Nat.{le_refl, le_trans, lt_of_le_of_lt, min-eq_left}
use native.Mathlib.Omega.{arith}
use borrow.Author.Tests.{leb-true, leb-false, le-leb, lt-leb}
use lib.Bits.{bit_and, and_le_l}
use lib.Dec.{leb}
use lib.ListN.{length}
use Rattle.std.specs.Prelude.{if◌then◌else◌}
use Rattle.row.specs.Code.{bit_at}
use Rattle.row.proofs.Digits.{zero_or_one}
use Rattle.row.proofs.Places.{bit_lt, bit_at-bit_and, same_below}
use Rattle.vote.specs.Voting.{holders, vote}
use Rattle.vote.proofs.Votes.{voted_lt, bit_voted}
use Rattle.laws.specs.Writes.{In}
use Rattle.laws.specs.Votes.{VotedBit, VoteIsRow, Each, VoteOfEqual, EachIn, VoteKeepsBits}
use Rattle.laws.proofs.Writes.{shared, in_shared}

pub voted_bit : VotedBit
unfolding vote
voted_bit threshold rows place h = go (leb threshold (holders place rows)) refl (bit_voted 24 place threshold rows h)
  where
    go : (t : Bool) → leb threshold (holders place rows) ≡ t → bit_at place (vote threshold rows) ≡ (if t then 1 else 0)
        → (bit_at place (vote threshold rows) ≡ 1) ↔ (threshold ≤ holders place rows)
    go true enough set = (λ one. leb-true threshold (holders place rows) enough, λ l. set)
    go false few clear = (λ one. absurd (omega arith), λ l. absurd (omega (arith, leb-false threshold (holders place rows) few)))

pub vote_is_row : VoteIsRow
unfolding vote
vote_is_row threshold rows = voted_lt 24 threshold rows

-- ---- equal rows

each_holds : {row : ℕ} {rows : List ℕ} (place : ℕ) → Each row rows → holders place rows ≡ length rows * bit_at place row
unfolding holders
each_holds place Each.none = omega arith
each_holds place (Each.more same) = omega (arith, each_holds place same)

pub vote_of_equal : VoteOfEqual
unfolding vote
vote_of_equal threshold row rows small some enough same =
    same_below 24 (vote threshold rows) row (vote_is_row threshold rows) small
    (λ k l. bit_voted 24 k threshold rows l ∙ go k (zero_or_one (bit_at k row) (bit_lt k row)))
  where
    go : (k : ℕ) → (bit_at k row ≡ 0) ⊎ (bit_at k row ≡ 1) → (if leb threshold (holders k rows) then 1 else 0) ≡ bit_at k row
    go k (inl clear) =
        let held : holders k rows ≡ length rows * 0 = each_holds k same ∙ ap (λ (bit : ℕ). length rows * bit) clear in
        rw (lt-leb threshold (holders k rows) (omega arith)) (sym clear)
    go k (inr set) =
        let held : holders k rows ≡ length rows * 1 = each_holds k same ∙ ap (λ (bit : ℕ). length rows * bit) set in
        rw (le-leb threshold (holders k rows) (omega arith)) (sym set)

-- ---- rows burnt

in-bit : (place old row : ℕ) → In old row → bit_at place old ≤ bit_at place row
in-bit place old row holds = omega (arith, sym (bit_at-bit_and place old row) ∙ ap (bit_at place) (shared old row holds))

more_hold : {olds news : List ℕ} (place : ℕ) → EachIn olds news → holders place olds ≤ holders place news
unfolding holders
more_hold place EachIn.none = le_refl 0
more_hold place (EachIn.more {old} {new} one rest) = omega (arith, in-bit place old new one, more_hold place rest)

pub vote_keeps_bits : VoteKeepsBits
vote_keeps_bits threshold olds news each =
    let before : ℕ = vote threshold olds in
    let after : ℕ = vote threshold news in
    in_shared before after
    (same_below 24 (bit_and before after) before
    (lt_of_le_of_lt (and_le_l before after) (vote_is_row threshold olds)) (vote_is_row threshold olds)
    (λ k l. bit_at-bit_and k before after ∙ min-eq_left (go k l (zero_or_one (bit_at k before) (bit_lt k before)))))
  where
    go : (k : ℕ) → k < 24 → (bit_at k (vote threshold olds) ≡ 0) ⊎ (bit_at k (vote threshold olds) ≡ 1)
        → bit_at k (vote threshold olds) ≤ bit_at k (vote threshold news)
    go k l (inl clear) = omega arith
    go k l (inr set) =
        let still : bit_at k (vote threshold news) ≡ 1 =
        (voted_bit threshold news k l).1 (le_trans ((voted_bit threshold olds k l).0 set) (more_hold k each)) in
        omega arith
