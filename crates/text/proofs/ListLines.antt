-- The text of a list that is read line by line is read as its definitions say, and its rows are put where they say.
-- Assumes nothing.
use mathlib.Core.Path.{◌≡◌, refl}
use mathlib.Core.List.{List, ◌++◌}
use Prim.Native.Nat.{ℕ, ◌+◌}
use native.Mathlib.Omega.{arith}
use lib.ListN.{length}
use Rattle.text.specs.Jobs.{Reading, passed, stopped}
use Rattle.text.specs.Lists.{Listed, Empty, Row, Wrong, next_listed, list_by, row_by, list_from, rows_from, with_rows}
use Rattle.text.specs.Readings.{walk, walk_puts}
use Rattle.text.proofs.LineByLine.{walked, counted, put_all}

abbrev by : List ℕ → Reading → Reading
by text reading = list_by text reading (next_listed text reading)

abbrev puts : List ℕ → Reading → List ℕ → List ℕ
puts text reading list = with_rows list reading.count (row_by (next_listed text reading))

-- a line's row is counted, and put in before the others
module _ (text : List ℕ) (reading : Reading) where
  count_by : (line : Listed) → (list_by text reading line).count ≡ reading.count + length (row_by line)
  unfolding passed stopped
  count_by Empty = omega arith
  count_by (Row row) = refl
  count_by (Wrong word why) = omega arith

  put_first : (list : List ℕ) (line : Listed) (others : List ℕ)
      → with_rows list reading.count (row_by line ++ others) ≡ with_rows (with_rows list reading.count (row_by line)) (list_by text reading line).count others
  unfolding passed stopped with_rows
  put_first list Empty others = refl
  put_first list (Row row) others = refl
  put_first list (Wrong word why) others = refl

module _ (text : List ℕ) (most : ℕ) where
  abbrev gives : Reading → List ℕ
  gives reading = row_by (next_listed text reading)

  pub list_walk : (lines : ℕ) (reading : Reading) → walk by lines text most reading ≡ list_from lines text most reading
  unfolding list_from rows_from
  list_walk = walked text most by gives (λ n r. list_from n text most r) (λ r. refl) (λ n r. refl) (λ n r. rows_from n text most r) (λ r. refl) (λ n r. refl)

  pub list_counted : (lines : ℕ) (reading : Reading) → (list_from lines text most reading).count ≡ reading.count + length (rows_from lines text most reading)
  unfolding list_from rows_from
  list_counted =
      counted text most by gives (λ n r. list_from n text most r) (λ r. refl) (λ n r. refl) (λ n r. rows_from n text most r) (λ r. refl) (λ n r. refl)
      (λ r. count_by text r (next_listed text r))

  pub list_puts : (lines : ℕ) (reading : Reading) (list : List ℕ)
      → walk_puts by puts lines text most reading list ≡ with_rows list reading.count (rows_from lines text most reading)
  unfolding list_from rows_from with_rows
  list_puts =
      put_all text most by gives (λ n r. list_from n text most r) (λ r. refl) (λ n r. refl) (λ n r. rows_from n text most r) (λ r. refl) (λ n r. refl)
      puts with_rows (λ list at. refl) (λ r list others. put_first text r list (next_listed text r) others)
