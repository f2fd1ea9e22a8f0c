-- What is promised of the bootloader as a caller, and that Secure and Non-secure have the rights that they had (request 2026-05).
use Rattle.std.specs.Prelude.{ℕ, ◌≤◌, max, Bool, true, false, not, ◌&&◌, ◌||◌, List, [], ◌∷◌, ◌⊎◌, ◌↔◌, ◌≡◌, eqb, ltb, leb, length}
use Rattle.std.specs.Prelude.{if◌then◌else◌}
use Rattle.answer.specs.Rungs.{◌when◌, first_of}
use Rattle.chip.specs.Pages.{is_lock_row, owner}
use Rattle.permit.specs.Permission.{row_key_level, caller_level, may_read, may_write}
use Rattle.chip.specs.States.{counted_level}
use Rattle.chip.specs.declared.state.State.{State}
use Rattle.lock.specs.Calls.{advance_number, show_number, enter_number}
use Rattle.laws.specs.Calls.{Chip, Call, perform_all}
use Rattle.laws.specs.Promises.{NoReset}

-- ---- the bootloader, caller 2

-- a read needs bootloader, Secure and key level at most 1, a write all three at 0
abbrev pub BootloaderExactly : Type 0
BootloaderExactly =
    (state : State) (row : ℕ)
    → (is_lock_row row ≡ false
    → (may_read state 2 row ≡ true) ↔ ((caller_level state 2 row ≤ 1) × (caller_level state 0 row ≤ 1) × (row_key_level state row ≤ 1)))
    × ((may_write state 2 row ≡ true) ↔ ((caller_level state 2 row ≡ 0) × (caller_level state 0 row ≡ 0) × (row_key_level state row ≡ 0)))

-- it may read only what Secure may read, and write only what Secure may write
abbrev pub BootloaderWithinSecure : Type 0
BootloaderWithinSecure =
    (state : State) (row : ℕ)
    → (may_read state 2 row ≡ true → may_read state 0 row ≡ true) × (may_write state 2 row ≡ true → may_write state 0 row ≡ true)

-- no call but a reset changes a bootloader level
abbrev pub BootloaderLevelsStay : Type 0
BootloaderLevelsStay =
    (chip : Chip) (calls : List Call) → NoReset calls → (perform_all chip calls).state.bootloader ≡ chip.state.bootloader

-- advancing any lock as bootloader is 7, and so is advancing its domain, by anyone; entering a key as bootloader is 7
abbrev pub SevenToBootloader : Type 0
SevenToBootloader =
    ((caller domain page level : ℕ) → caller ≤ 2 → domain ≤ 2 → page ≤ 63 → level ≤ 2 → (caller ≡ 2) ⊎ (domain ≡ 2)
    → advance_number caller domain page level ≡ 7)
    × ((key : List ℕ) → length key ≡ 16 → enter_number 2 key ≡ 7)

-- every domain may be shown, by each of the three
abbrev pub ShownToAll : Type 0
ShownToAll = (caller domain page : ℕ) → caller ≤ 2 → domain ≤ 2 → page ≤ 63 → show_number caller domain page ≡ 0

-- ---- Secure and Non-secure, as document 01 has them

-- the caller's level at a row, of two
abbrev pub level_of_two : State → ℕ → ℕ → ℕ
level_of_two state caller row =
    if eqb caller 0 then counted_level state.secure (owner row) else counted_level state.nonsecure (owner row)

-- read: the higher of the caller's level and the key level is at most 1; lock rows are always readable
abbrev pub may_read_of_two : State → ℕ → ℕ → Bool
may_read_of_two state caller row = is_lock_row row || leb (max (level_of_two state caller row) (row_key_level state row)) 1

-- write: Secure needs Secure and key level 0; Non-secure, for which Secure makes it, Non-secure, Secure and key level 0
abbrev pub may_write_of_two : State → ℕ → ℕ → Bool
may_write_of_two state caller row =
    eqb (level_of_two state caller row) 0 && eqb (counted_level state.secure (owner row)) 0 && eqb (row_key_level state row) 0

-- for these two callers permission is what it was
abbrev pub PermissionStays : Type 0
PermissionStays =
    (state : State) (caller row : ℕ) → caller ≤ 1
    → (may_read state caller row ≡ may_read_of_two state caller row) × (may_write state caller row ≡ may_write_of_two state caller row)

-- and so are the numbers of their calls on their two domains
abbrev pub NumbersStay : Type 0
NumbersStay =
    (caller domain page level : ℕ) (key : List ℕ) → caller ≤ 1 → domain ≤ 1
    → (advance_number caller domain page level
    ≡ first_of (4 when ltb 63 page ∷ 4 when ltb 2 level ∷ 7 when (eqb caller 1 && eqb domain 0) ∷ []))
    × (show_number caller domain page ≡ first_of (4 when ltb 63 page ∷ []))
    × (enter_number caller key ≡ first_of (4 when not (eqb (length key) 16) ∷ 7 when eqb caller 1 ∷ []))
