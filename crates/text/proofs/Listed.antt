-- The list that a text gives: as many rows as are counted. So the first so many of a list with room for them are the text's.
-- Assumes nothing.
use mathlib.Core.Path.{◌≡◌, refl, ap, ◌∙◌}
use mathlib.Core.List.{List, [], ◌∷◌}
use Prim.Native.Nat.{ℕ, suc, ◌+◌, ◌≤◌}
use native.Mathlib.Nat.{zero-add}
use native.Mathlib.Numerals.{add-one}
use native.Mathlib.Omega.{arith}
use lib.ListN.{length, set, take, drop}
use lib.Seq.{sets, sets-eq, take-append_seam}
use Rattle.text.specs.Jobs.{begun, most_lines}
use Rattle.text.proofs.ListLines.{list_counted}
use Rattle.text.specs.Lists.{list_reading, rows_of, with_rows}

pub counted : (text : List ℕ) (most : ℕ) → (list_reading text most).count ≡ length (rows_of text most)
counted text most = list_counted text most most_lines begun ∙ zero-add (length (rows_of text most))

-- rows put one after the other are a run of stores
as_sets : (rows list : List ℕ) (at : ℕ) → with_rows list at rows ≡ sets list at rows
unfolding with_rows
as_sets [] list at = refl
as_sets (row ∷ others) list at = rw (add-one at) (as_sets others (set list at row) (suc at))

-- a text is read into a list that has room for its rows: the first so many as are counted are the text's
pub given : (text list : List ℕ) (most : ℕ) → length (rows_of text most) ≤ length list
    → take (list_reading text most).count (with_rows list 0 (rows_of text most)) ≡ rows_of text most
given text list most room =
    let rows = rows_of text most in
    ap (λ (n : ℕ). take n (with_rows list 0 rows)) (counted text most)
    ∙ ap (take (length rows)) (as_sets rows list 0 ∙ sets-eq rows list 0 (omega arith))
    ∙ take-append_seam rows (drop (0 + length rows) list)
