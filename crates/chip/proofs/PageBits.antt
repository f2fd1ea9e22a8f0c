-- The set bits of rows: few, and counted one after the other.
-- Assumes nothing.
use mathlib.Core.List.{List, [], ◌∷◌}
use mathlib.Core.Path.{◌≡◌, refl, ◌∙◌}
use Prim.Native.Nat.{ℕ, ◌*◌, ◌≤◌, zero-le}
use native.Mathlib.Nat.{min-le_left}
use native.Mathlib.Omega.{arith}
use lib.ListN.{length, drop, length-take, length-set}
use Rattle.std.specs.List.{sum_by}
use Rattle.std.proofs.lemmas.List.Recursion.{is_sum_by}
use Rattle.row.specs.Code.{set_bits}
use Rattle.row.proofs.Counts.{ones_le}
use Rattle.chip.specs.Tallies.{page_rows, bits_of, Gain, with_gain, with_gains}

-- a row has at most 24 set bits
pub row_few : (row : ℕ) → set_bits row ≤ 24
unfolding set_bits
row_few row = ones_le 24 row

bits_few : (rows : List ℕ) → bits_of rows ≤ 24 * length rows
unfolding bits_of
bits_few [] = zero-le
bits_few (row ∷ others) = omega (arith, row_few row, bits_few others)

-- a page has at most 1,536
pub page_few : (rows : List ℕ) (page : ℕ) → bits_of (page_rows rows page) ≤ 1536
page_few rows page =
    let long : length (page_rows rows page) ≤ 64 = rw (length-take 64 (drop (64 * page) rows)) (min-le_left 64 _) in
    omega (arith, bits_few (page_rows rows page))

-- the set bits of some rows are their sum
pub bits_summed : (rows : List ℕ) → bits_of rows ≡ sum_by set_bits rows
unfolding bits_of
bits_summed rows = is_sum_by bits_of set_bits refl (λ row others. refl) rows

-- there are as many tallies as before
pub length_gains : (tallies : List ℕ) (gained : List Gain) → length (with_gains tallies gained) ≡ length tallies
length_gains tallies [] = refl
length_gains tallies (gain ∷ others) = length_gains (with_gain tallies gain) others ∙ length-set tallies _ _
