-- Two images of a chip, a present and a wanted one, row by row (request 2026-04).
use Rattle.std.specs.Prelude.{ℕ, zero, suc, Bool, false, not, ◌&&◌, ◌||◌, List, [], ◌∷◌, ◌++◌, eqb, ltb, leb}
use Rattle.std.specs.Prelude.{if◌then◌else◌}
use Rattle.row.specs.Writing.{fits}
use Rattle.chip.specs.Slices.{row_at}
use Rattle.form.specs.declared.entries.Entry.{Entry}

-- of a row, what it holds and what is wanted there: one of the two is above 16,777,215
abbrev pub either_large : ℕ → ℕ → ℕ → Bool
either_large row present wanted = ltb 16777215 present || ltb 16777215 wanted

-- it has a burnt bit that the wanted one lacks
abbrev pub loses_bit : ℕ → ℕ → ℕ → Bool
loses_bit row present wanted = not (fits present wanted)

-- it is a row from 0xf40 up, and differs
abbrev pub kept_differs : ℕ → ℕ → ℕ → Bool
kept_differs row present wanted = leb 0xf40 row && not (eqb present wanted)

-- it is a row below 0xf40, and differs
abbrev pub data_differs : ℕ → ℕ → ℕ → Bool
data_differs row present wanted = ltb row 0xf40 && not (eqb present wanted)

-- some row below a number is such a row
unfoldable pub some_below : (ℕ → ℕ → ℕ → Bool) → List ℕ → List ℕ → ℕ → Bool
some_below such present wanted zero = false
some_below such present wanted (suc row) = some_below such present wanted row || such row (row_at present row) (row_at wanted row)

-- some row of the 4,096
abbrev pub some_row : (ℕ → ℕ → ℕ → Bool) → List ℕ → List ℕ → Bool
some_row such present wanted = some_below such present wanted 4096

-- a raw entry for a row below 0xf40 that differs, which carries the wanted row; for any other row none
abbrev pub change_at : ℕ → ℕ → ℕ → List Entry
change_at row present wanted = if data_differs row present wanted then record { row = row; kind = 1; value = wanted } ∷ [] else []

-- those of the rows below a number, rising
unfoldable pub changes_below : List ℕ → List ℕ → ℕ → List Entry
changes_below present wanted zero = []
changes_below present wanted (suc row) = changes_below present wanted row ++ change_at row (row_at present row) (row_at wanted row)

-- one for each row below 0xf40 that differs
abbrev pub changes : List ℕ → List ℕ → List Entry
changes present wanted = changes_below present wanted 4096
