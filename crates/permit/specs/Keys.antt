-- Keys: where they stand, when one matches, and the key level of a page (document 01, "Keys").
use Rattle.std.specs.Prelude.{ℕ, ◌+◌, ◌-◌, ◌*◌, ◌/◌, Bool, false, not, ◌&&◌, List, [], eqb, ltb, leb, get_or, replicate}
use Rattle.std.specs.Prelude.{if◌then◌else◌}
use Rattle.chip.specs.Lists.{same}
use Rattle.chip.specs.States.{counted_index, counted_no_key}
use Rattle.chip.specs.declared.state.Key.{Key}
use Rattle.chip.specs.declared.state.State.{State}

-- key k, 1 to 6, has eight ECC rows, from here on
abbrev pub key_row : ℕ → ℕ
key_row k = 0xf48 + 8 * (k - 1)

-- its valid flag is this row
abbrev pub valid_row : ℕ → ℕ
valid_row k = 0xf78 + k

-- an entered key of all zeros is none
abbrev pub no_key : List ℕ
no_key = replicate 8 0

-- the latched key of an index from 1 to 6; at any other there is none
abbrev pub key_at : State → ℕ → Key
key_at state index = get_or state.keys (index - 1) (record { words = []; valid = false; whole = false })

-- a key matches if it is latched valid, all its rows decoded, and it equals the entered one, which is not all zeros; index 0 and 7 never match
unfoldable pub matches : State → ℕ → Bool
matches state index =
    leb 1 index && leb index 6
    && (key_at state index).valid && (key_at state index).whole
    && same (key_at state index).words state.entered
    && not (same state.entered no_key)

-- the key level of a page: no index registered, 0; else the write key matches, 0; else the read key matches, 1; else the no-key state plus 1
unfoldable pub key_level : State → ℕ → ℕ
key_level state page =
    if eqb (counted_index state.writekey page) 0 && eqb (counted_index state.readkey page) 0 then 0
    else if matches state (counted_index state.writekey page) then 0
    else if matches state (counted_index state.readkey page) then 1
    else if counted_no_key state.nokey page then 2
    else 1

-- a row of a latched valid key
unfoldable pub hidden : State → ℕ → Bool
hidden state row = leb 0xf48 row && ltb row 0xf78 && (key_at state (1 + (row - 0xf48) / 8)).valid
