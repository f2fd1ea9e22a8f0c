-- What the crew is told of two images: the first row that stands in the way of a job, how many do, and the bits that a job burns.
use Rattle.std.specs.Prelude.{ℕ, zero, suc, ◌+◌, ◌<◌, Bool, true, false, List, ◌≡◌, eqb, ltb}
use Rattle.std.specs.Prelude.{if◌then◌else◌}
use Rattle.row.specs.Writing.{pulses}
use Rattle.chip.specs.Slices.{row_at}
use Rattle.maker.specs.Images.{loses_bit, kept_differs, data_differs, some_row}
use Rattle.making.specs.declared.found.Found.{Found}
use Rattle.making.specs.declared.found.Why.{Why}
use Rattle.making.specs.declared.found.Why.TheVariants.{Lost, Kept, Changed}

-- the test of a row, which is the one that the making of a job goes by
abbrev pub such : Why → ℕ → ℕ → ℕ → Bool
such Lost = loses_bit
such Kept = kept_differs
such Changed = data_differs

-- one such row more: the first stays, and each is counted
abbrev pub with_one : Found → ℕ → Found
with_one found number = record { row = if eqb found.rows 0 then number else found.row; rows = found.rows + 1 }

-- one row more, such or not
abbrev pub with_row : Found → ℕ → Bool → Found
with_row found number holds = if holds then with_one found number else found

-- the first such row of those below a number, and how many there are; 0 and 0 where there is none
unfoldable pub found_below : Why → List ℕ → List ℕ → ℕ → Found
found_below why present wanted zero = record { row = 0; rows = 0 }
found_below why present wanted (suc row) =
    with_row (found_below why present wanted row) row (such why row (row_at present row) (row_at wanted row))

-- what that says: no row before it is such a row; it is one, where there are any; and there are where the making of a job finds one
pub record First (why : Why) (present wanted : List ℕ) (found : Found) : Type 0 where
  pub before : (row : ℕ) → row < found.row → such why row (row_at present row) (row_at wanted row) ≡ false
  pub own : 0 < found.rows → such why found.row (row_at present found.row) (row_at wanted found.row) ≡ true
  pub some : some_row (such why) present wanted ≡ ltb 0 found.rows

-- the bits that the wanted rows below a number have more
unfoldable pub bits_below : List ℕ → List ℕ → ℕ → ℕ
bits_below present wanted zero = 0
bits_below present wanted (suc row) = bits_below present wanted row + pulses (row_at present row) (row_at wanted row)
