-- Rows in their place: what it says of an entry that the rule of its file's version finds no fault in its row.
-- Assumes nothing.
use mathlib.Core.Path.{◌≡◌, refl}
use mathlib.Core.Bool.{Bool, true, false, ◌&&◌}
use mathlib.Core.Logic.{◌⊎◌, inl, inr}
use Prim.Native.Nat.{ℕ, ◌≤◌, ◌<◌}
use native.Mathlib.Omega.{arith}
use borrow.Author.Tests.{eqb-false, leb-true, leb-false, ltb-false}
use lib.Dec.{eqb, leb, ltb}
use Rattle.std.specs.Prelude.{if◌then◌else◌}
use Rattle.answer.proofs.Ladders.{never_zero}
use Rattle.form.specs.Faults.{order_fault, locking_fault, row_fault, Sound, High, Kept, Past, Coded, Late, Order}
use Rattle.form.specs.declared.entries.Entry.{Entry}
use Rattle.form.proofs.Faulty.{head_passed}

-- a data row, or a lock row whose entry is not ECC
abbrev pub Placed : Entry → Type 0
Placed e = (e.row < 0xf40) ⊎ ((0xf80 ≤ e.row) × (e.row ≤ 4095) × (e.kind ≡ 0 → ⊥))

-- no row of the chip is above 4,095
pub placed_low : (e : Entry) → Placed e → e.row ≤ 4095
placed_low e (inl data-row) = omega arith
placed_low e (inr lock_row) = lock_row.1

-- version 1: below 0xf40, and not below the least
pub order_kept : (i least : ℕ) (e : Entry) → order_fault i least e ≡ Sound → (e.row < 0xf40) × (least ≤ e.row)
order_kept i least e sound =
    let high = head_passed (leb 0xf40 e.row) (High i) _ (never_zero 10) sound in
    let low = head_passed (ltb e.row least) (Order i) _ (never_zero 10) high.1 in
    (leb-false 0xf40 e.row high.0, ltb-false e.row least low.0)

-- version 2: in its place, and not below the least
locking_kept : (i least : ℕ) (e : Entry) → locking_fault i least e ≡ Sound → Placed e × (least ≤ e.row)
locking_kept i least e sound =
    let kept = head_passed (leb 0xf40 e.row && ltb e.row 0xf80) (Kept i) _ (never_zero 10) sound in
    let past = head_passed (ltb 4095 e.row) (Past i) _ (never_zero 10) kept.1 in
    let coded = head_passed (leb 0xf80 e.row && eqb e.kind 0) (Coded i) _ (never_zero 10) past.1 in
    let late = head_passed (ltb e.row 0xf40 && ltb 0xf80 least) (Late i) _ (never_zero 10) coded.1 in
    let low = head_passed (ltb e.row least) (Order i) _ (never_zero 10) late.1 in
    (placed (leb 0xf40 e.row) (leb 0xf80 e.row) refl refl kept.0 past.0 coded.0, ltb-false e.row least low.0)
  where
    placed : (above lock : Bool) → leb 0xf40 e.row ≡ above → leb 0xf80 e.row ≡ lock → (leb 0xf40 e.row && ltb e.row 0xf80) ≡ false
        → ltb 4095 e.row ≡ false → (leb 0xf80 e.row && eqb e.kind 0) ≡ false → Placed e
    placed false lock low is-lock kept past coded = inl (leb-false 0xf40 e.row low)
    placed true false high not-lock kept past coded =
        absurd (omega (arith, leb-false 0xf80 e.row not-lock, ltb-false e.row 0xf80 (rw high at kept)))
    placed true true high is-lock kept past coded =
        inr (leb-true 0xf80 e.row is-lock, ltb-false 4095 e.row past, eqb-false e.kind 0 (rw is-lock at coded))

-- either version
pub row_kept : (version i least : ℕ) (e : Entry) → row_fault version i least e ≡ Sound → Placed e × (least ≤ e.row)
row_kept version i least e = go (eqb version 2)
  where
    go : (t : Bool) → (if t then locking_fault i least e else order_fault i least e) ≡ Sound → Placed e × (least ≤ e.row)
    go true sound = locking_kept i least e sound
    go false sound =
        let kept = order_kept i least e sound in
        (inl kept.0, kept.1)
