-- Whose levels and whose key settings decide a row: of lock rows, and of data rows (document 01, "Permission"; erratum E28).
use Rattle.std.specs.Prelude.{ℕ, ◌+◌, ◌≤◌, true, ◌&&◌, ◌⊎◌, ◌≡◌, eqb, leb}
use Rattle.std.specs.Prelude.{if◌then◌else◌}
use Rattle.chip.specs.Callers.{shown_level}
use Rattle.permit.specs.Keys.{key_level}
use Rattle.chip.specs.Pages.{first_row, low_lock_row, high_lock_row}
use Rattle.permit.specs.Permission.{row_key_level, caller_level, may_read, may_write}
use Rattle.chip.specs.declared.state.State.{State}

-- a row of a lock word, the low or the high one
abbrev pub InWord : ℕ → ℕ → Type 0
InWord row word = (word ≤ 63) × ((row ≡ low_lock_row word) ⊎ (row ≡ high_lock_row word))

-- lock words 0 to 31 take page 62's key indexes and no-key state, 32 to 63 take page 63's
abbrev pub taken_from : ℕ → ℕ
taken_from word = if leb word 31 then 62 else 63

-- erratum E28: the key level of a lock row is worked out from those, and not from its own lock word's
abbrev pub KeysOfLockRows : Type 0
KeysOfLockRows = (state : State) (row word : ℕ) → InWord row word → row_key_level state row ≡ key_level state (taken_from word)

-- its lock levels are those of its own lock word
abbrev pub LevelsOfLockRows : Type 0
LevelsOfLockRows =
    (state : State) (caller row word : ℕ) → InWord row word → caller_level state caller row ≡ shown_level state caller word

-- so a lock row is always readable, and is written where the levels of its own word and that key level are 0
abbrev pub PermissionOfLockRows : Type 0
PermissionOfLockRows =
    (state : State) (caller row word : ℕ) → InWord row word
    → (may_read state caller row ≡ true)
    × (may_write state caller row
    ≡ (eqb (shown_level state caller word) 0 && eqb (shown_level state 0 word) 0 && eqb (key_level state (taken_from word)) 0))

-- data pages keep their own word, for levels and for keys
abbrev pub DataPagesKeepTheirs : Type 0
DataPagesKeepTheirs =
    (state : State) (caller row page : ℕ) → page ≤ 61 → first_row page ≤ row → row ≤ first_row page + 63
    → (caller_level state caller row ≡ shown_level state caller page) × (row_key_level state row ≡ key_level state page)
