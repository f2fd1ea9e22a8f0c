-- Slices, each row of one in the other's: an order, what a row put in does to it, and the bits newly set between them.
-- Assumes nothing.
use mathlib.Core.List.{List, [], ◌∷◌}
use mathlib.Core.Path.{◌≡◌, refl, sym, ap, ap₂, ◌∙◌}
use Prim.Native.Nat.{ℕ, zero, suc, ◌+◌, ◌≤◌, ◌<◌}
use native.Mathlib.Nat.{le_of_suc-le-suc, not-suc-le-zero}
use native.Mathlib.Omega.{arith}
use lib.Bits.{and_comm, and_le_r}
use lib.ListN.{length, set}
use lib.Seq.{set-get_or}
use Rattle.row.specs.Writing.{pulses}
use Rattle.chip.specs.Slices.{row_at}
use Rattle.laws.specs.Writes.{In}
use Rattle.laws.specs.Votes.{EachIn}
use Rattle.laws.specs.Writes.{newly_set}
use Rattle.laws.proofs.Writes.{shared, in_itself, in_through, pulses_add, stands_already}

-- ---- an order

pub in_both : (a b : ℕ) → In a b → In b a → a ≡ b
in_both a b ab ba = sym (shared a b ab) ∙ and_comm a b ∙ shared b a ba

pub in_le : (a b : ℕ) → In a b → a ≤ b
in_le a b ab = rw (shared a b ab) at (and_le_r a b)

pub each_self : (rows : List ℕ) → EachIn rows rows
each_self [] = EachIn.none
each_self (row ∷ rows) = EachIn.more (in_itself row) (each_self rows)

pub each_through : {a b c : List ℕ} → EachIn a b → EachIn b c → EachIn a c
each_through EachIn.none EachIn.none = EachIn.none
each_through (EachIn.more {old} {new} one rest) (EachIn.more {new = last} next others) =
    EachIn.more (in_through old new last one next) (each_through rest others)

pub each_both : {a b : List ℕ} → EachIn a b → EachIn b a → a ≡ b
each_both EachIn.none EachIn.none = refl
each_both (EachIn.more {old} {new} one rest) (EachIn.more back others) = ap₂ ◌∷◌ (in_both old new one back) (each_both rest others)

pub each_length : {a b : List ℕ} → EachIn a b → length a ≡ length b
each_length EachIn.none = refl
each_length (EachIn.more one rest) = ap suc (each_length rest)

pub each_at : {a b : List ℕ} (k : ℕ) → EachIn a b → In (row_at a k) (row_at b k)
each_at k EachIn.none = in_itself 0
each_at zero (EachIn.more one rest) = one
each_at (suc k) (EachIn.more one rest) = each_at k rest

-- a row that is the same in the slice above is the same between
pub each_held : {a b c : List ℕ} (k : ℕ) → EachIn a b → EachIn b c → row_at c k ≡ row_at a k → row_at b k ≡ row_at a k
each_held {a} {b} k over under e = in_both (row_at b k) (row_at a k) (rw e at (each_at k under)) (each_at k over)

-- ---- a row put in

pub each_set : {a b : List ℕ} (k old new : ℕ) → EachIn a b → In old new → EachIn (set a k old) (set b k new)
each_set k old new EachIn.none one = EachIn.none
each_set zero old new (EachIn.more first rest) one = EachIn.more one rest
each_set (suc k) old new (EachIn.more first rest) one = EachIn.more first (each_set k old new rest one)

pub each_over : (rows : List ℕ) (k new : ℕ) → In (row_at rows k) new → EachIn rows (set rows k new)
each_over rows k new one = rw (set-get_or rows k 0) at (each_set k (row_at rows k) new (each_self rows) one)

pub each_under : {a b : List ℕ} (k old : ℕ) → EachIn a b → In old (row_at b k) → EachIn (set a k old) b
each_under {a} {b} k old each one = rw (set-get_or b k 0) at (each_set k old (row_at b k) each one)

-- ---- the bits newly set

pub new_through : {a b c : List ℕ} → EachIn a b → EachIn b c → newly_set a b + newly_set b c ≡ newly_set a c
unfolding newly_set
new_through EachIn.none EachIn.none = refl
new_through (EachIn.more {old} {new} one rest) (EachIn.more {new = last} next others) =
    omega (arith, pulses_add old new last one next, new_through rest others)

pub new_none : (rows : List ℕ) → newly_set rows rows ≡ 0
unfolding newly_set
new_none [] = refl
new_none (row ∷ rows) = omega (arith, stands_already row, new_none rows)

pub new_set : (rows : List ℕ) (k new : ℕ) → k < length rows → newly_set rows (set rows k new) ≡ pulses (row_at rows k) new
unfolding newly_set
new_set [] k new h = absurd (not-suc-le-zero h)
new_set (row ∷ rows) zero new h = omega (arith, new_none rows)
new_set (row ∷ rows) (suc k) new h = omega (arith, stands_already row, new_set rows k new (le_of_suc-le-suc h))
