-- Who may read and write a row (document 01, "Permission"; request 2026-05).
use Rattle.std.specs.Prelude.{ℕ, max, Bool, ◌&&◌, ◌||◌, eqb, leb}
use Rattle.std.specs.Prelude.{if◌then◌else◌}
use Rattle.chip.specs.Callers.{shown_level}
use Rattle.permit.specs.Keys.{key_level}
use Rattle.chip.specs.Pages.{is_lock_row, owner, key_page}
use Rattle.chip.specs.declared.state.State.{State}

-- the key level of a row: that of the page whose key settings it goes by
abbrev pub row_key_level : State → ℕ → ℕ
row_key_level state row = key_level state (key_page row)

-- the caller's level at a row
abbrev pub caller_level : State → ℕ → ℕ → ℕ
caller_level state caller row = shown_level state caller (owner row)

-- the level that a caller reads at: its own; the bootloader runs as Secure, so for it the higher of its own and Secure's
abbrev pub read_level : State → ℕ → ℕ → ℕ
read_level state caller row =
    if eqb caller 2 then max (caller_level state caller row) (caller_level state 0 row) else caller_level state caller row

-- read: the higher of that level and the key level is at most 1; lock rows are always readable
unfoldable pub may_read : State → ℕ → ℕ → Bool
may_read state caller row = is_lock_row row || leb (max (read_level state caller row) (row_key_level state row)) 1

-- write: Secure makes it, also for Non-secure and for the bootloader, so the caller's level, Secure's and the key level are all 0
unfoldable pub may_write : State → ℕ → ℕ → Bool
may_write state caller row =
    eqb (caller_level state caller row) 0 && eqb (caller_level state 0 row) 0 && eqb (row_key_level state row) 0

-- two rows that the same levels and the same key settings decide
abbrev pub share_permission : ℕ → ℕ → Bool
share_permission a b = eqb (owner a) (owner b) && eqb (key_page a) (key_page b)
