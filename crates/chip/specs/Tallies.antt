-- The tallies: how many bits of each page are burnt (request 2026-07).
use Rattle.std.specs.Prelude.{ℕ, ◌+◌, min, List, [], ◌∷◌, get_or, take, drop, set}
use Rattle.row.specs.Code.{set_bits}
use Rattle.chip.specs.Lists.{listed}
use Rattle.chip.specs.Pages.{first_row, page_of}

-- the rows of a page
abbrev pub page_rows : List ℕ → ℕ → List ℕ
page_rows rows page = take 64 (drop (first_row page) rows)

-- the set bits of some rows
unfoldable pub bits_of : List ℕ → ℕ
bits_of [] = 0
bits_of (row ∷ others) = set_bits row + bits_of others

-- the tallies of a chip: the set bits of each page's rows
unfoldable pub tallies_of : List ℕ → List ℕ
tallies_of rows = listed 64 (λ page. bits_of (page_rows rows page))

-- a page's tally, of 64
abbrev pub tally_at : List ℕ → ℕ → ℕ
tally_at tallies page = get_or tallies page 0

-- what burns says which row gained how many bits; it may be none
pub record Gain : Type 0 where
  pub row : ℕ
  pub bits : ℕ

abbrev pub ◌gains◌ : ℕ → ℕ → Gain
row gains bits = record { row = row; bits = bits }

infix 70 ◌gains◌
-- the page that the row is in is left at the lesser of 1,536 and old plus new bits, and each other page as it was
abbrev pub with_gain : List ℕ → Gain → List ℕ
with_gain tallies gain = set tallies (page_of gain.row) (min 1536 (tally_at tallies (page_of gain.row) + gain.bits))

-- gains added one after the other
abbrev pub with_gains : List ℕ → List Gain → List ℕ
with_gains tallies [] = tallies
with_gains tallies (gain ∷ others) = with_gains (with_gain tallies gain) others
