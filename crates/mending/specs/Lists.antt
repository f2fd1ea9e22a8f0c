-- The list that the crew asks for, and the first of its rows that is out of place.
use Rattle.std.specs.Prelude.{ℕ, zero, suc, ◌+◌, true, false, List, ◌≡◌, set, take}
use Rattle.repair.specs.Pass.{out_of_order}

-- a list with so many rows put into it, from a row on
unfoldable pub with_range : List ℕ → ℕ → ℕ → List ℕ
with_range list from zero = list
with_range list from (suc count) = set (with_range list from count) count (from + count)

-- of a list that the pass refuses with 11: the rows before a place are in order, and with the row at it they are not
abbrev pub FirstOut : List ℕ → ℕ → Type 0
FirstOut list place =
    out_of_order 0 list ≡ true → (out_of_order 0 (take place list) ≡ false) × (out_of_order 0 (take (place + 1) list) ≡ true)
