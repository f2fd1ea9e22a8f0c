-- The bootloader's rights lie within Secure's, no call but a reset changes its levels, and Secure and Non-secure have the rights that they had.
-- Assumes nothing.
use mathlib.Core.Bool.{Bool, true, false, ◌&&◌, ◌||◌}
use mathlib.Core.List.{[], ◌∷◌}
use mathlib.Core.Logic.{◌⊎◌, inl, inr}
use mathlib.Core.Path.{◌≡◌, refl, sym, ap, ◌∙◌}
use Prim.Native.Nat.{ℕ, zero, suc, ◌≤◌, max}
use native.Mathlib.Nat.{le_trans, max-le, le-max_left, le-max_right}
use native.Mathlib.Omega.{arith}
use borrow.Author.Tests.{eq-eqb, le-ltb, le-leb, leb-true}
use lib.Dec.{eqb, leb}
use Rattle.answer.specs.Rungs.{◌when◌, first_of}
use Rattle.chip.specs.Pages.{is_lock_row}
use Rattle.permit.specs.Permission.{row_key_level, caller_level, may_read, may_write}
use Rattle.chip.specs.declared.state.State.{State}
use Rattle.lock.specs.Calls.{advance}
use Rattle.laws.specs.Callers.{BootloaderExactly, BootloaderWithinSecure, BootloaderLevelsStay, SevenToBootloader, ShownToAll, PermissionStays, NumbersStay}
use Rattle.answer.proofs.Choices.{both_ways}
use Rattle.laws.proofs.Permits.{all_zero}
use Rattle.laws.proofs.Locking.{advance_asked}
use Rattle.laws.proofs.WithoutReset.{by_calls}

-- ---- rows

module _ (state : State) (row : ℕ) where
  abbrev own_level : ℕ
  own_level = caller_level state 2 row

  abbrev secure_level : ℕ
  secure_level = caller_level state 0 row

  abbrev key_level_lem : ℕ
  key_level_lem = row_key_level state row

  -- a read goes by the highest of the three levels
  reads : is_lock_row row ≡ false → may_read state 2 row ≡ leb (max (max own_level secure_level) key_level_lem) 1
  unfolding may_read
  reads no-lock = rw no-lock

  may_read_lem : is_lock_row row ≡ false → may_read state 2 row ≡ true → (own_level ≤ 1) × (secure_level ≤ 1) × (key_level_lem ≤ 1)
  may_read_lem no-lock may =
      let highest : max (max own_level secure_level) key_level_lem ≤ 1 = leb-true (max (max own_level secure_level) key_level_lem) 1 (sym (reads no-lock) ∙ may) in
      let higher : max own_level secure_level ≤ 1 = le_trans (le-max_left (max own_level secure_level) key_level_lem) highest in
      (le_trans (le-max_left own_level secure_level) higher, le_trans (le-max_right own_level secure_level) higher, le_trans (le-max_right (max own_level secure_level) key_level_lem) highest)

pub bootloader_exactly : BootloaderExactly
unfolding may_write
bootloader_exactly state row = (
  λ no-lock. (
    may_read_lem state row no-lock,
    λ low. reads state row no-lock ∙ le-leb _ 1 (max-le (max-le low.0 low.1) low.2),
  ),
  (all_zero state 2 row, λ none. rw (none.0, none.1, none.2)),
)

pub bootloader_within_secure : BootloaderWithinSecure
unfolding may_read may_write
bootloader_within_secure state row = (
  λ may. go (is_lock_row row) refl may,
  λ may. let none = all_zero state 2 row may in rw (none.1, none.2),
)
  where
    go : (t : Bool) → is_lock_row row ≡ t → may_read state 2 row ≡ true → may_read state 0 row ≡ true
    go true lock may = rw lock
    go false no-lock may =
        let low = may_read_lem state row no-lock may in
        ap (λ (t : Bool). t || leb (max (secure_level state row) (key_level_lem state row)) 1) no-lock ∙ le-leb _ 1 (max-le low.1 low.2)

-- ---- calls on the state

abbrev SameBootloader : State → State → Type 0
SameBootloader before after = after.bootloader ≡ before.bootloader

advance_keeps : (state : State) (caller domain page level : ℕ) → (advance state caller domain page level).answer.number ≡ 0
    → SameBootloader state (advance state caller domain page level).state
advance_keeps state caller domain page level done =
    rw (advance_asked state caller domain page level done)
    (both_ways (SameBootloader state) (eqb domain 0) _ _ refl (both_ways (SameBootloader state) (eqb domain 1) _ _ refl refl))

pub bootloader_levels_stay : BootloaderLevelsStay
bootloader_levels_stay =
    by_calls SameBootloader (λ state. refl) (λ a b c first second. second ∙ first)
    advance_keeps (λ state words. refl) (λ state tallies. refl)

pub seven_to_bootloader : SevenToBootloader
seven_to_bootloader = (
  λ caller domain page level c d p l which.
      rw (le-ltb 2 caller c, le-ltb 2 domain d, le-ltb 63 page p, le-ltb 2 level l) (either caller domain which),
  λ key long. rw (eq-eqb _ 16 long),
)
  where
    either : (caller domain : ℕ) → (caller ≡ 2) ⊎ (domain ≡ 2)
        → first_of (7 when eqb domain 2 ∷ 7 when eqb caller 2 ∷ 7 when (eqb caller 1 && eqb domain 0) ∷ []) ≡ 7
    either caller domain (inl is) = rw (eq-eqb caller 2 is) (both_ways (λ (n : ℕ). n ≡ 7) (eqb domain 2) 7 7 refl refl)
    either caller domain (inr is) = rw (eq-eqb domain 2 is)

pub shown_to_all : ShownToAll
shown_to_all caller domain page c d p = rw (le-ltb 2 caller c, le-ltb 2 domain d, le-ltb 63 page p)

-- ---- Secure and Non-secure

pub permission_stays : PermissionStays
unfolding may_read may_write
permission_stays state zero row low = (refl, refl)
permission_stays state (suc zero) row low = (refl, refl)
permission_stays state (suc (suc more)) row low = absurd (omega arith)

pub numbers_stay : NumbersStay
numbers_stay zero zero page level key c d = (refl, refl, refl)
numbers_stay zero (suc zero) page level key c d = (refl, refl, refl)
numbers_stay (suc zero) zero page level key c d = (refl, refl, refl)
numbers_stay (suc zero) (suc zero) page level key c d = (refl, refl, refl)
numbers_stay zero (suc (suc more)) page level key c d = absurd (omega arith)
numbers_stay (suc zero) (suc (suc more)) page level key c d = absurd (omega arith)
numbers_stay (suc (suc more)) domain page level key c d = absurd (omega arith)
