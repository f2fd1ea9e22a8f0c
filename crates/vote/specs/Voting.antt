-- Votes (document 01, "Votes").
use Rattle.std.specs.Prelude.{ℕ, zero, suc, ◌+◌, ◌*◌, ◌^◌, List, [], ◌∷◌, leb, eqb}
use Rattle.std.specs.Prelude.{if◌then◌else◌}
use Rattle.row.specs.Code.{bit_at}

-- three rows: at least two; eight rows: at least three
abbrev pub threshold : ℕ → ℕ
threshold count = if eqb count 3 then 2 else 3

-- how many rows have the bit at a place
unfoldable pub holders : ℕ → List ℕ → ℕ
holders place [] = 0
holders place (row ∷ rows) = bit_at place row + holders place rows

-- a bit is set if at least `threshold` rows have it
abbrev pub voted_bit : ℕ → List ℕ → ℕ → ℕ
voted_bit threshold rows place = if leb threshold (holders place rows) then 1 else 0

-- the voted bits below `places`
unfoldable pub voted_below : ℕ → ℕ → List ℕ → ℕ
voted_below zero threshold rows = 0
voted_below (suc place) threshold rows = voted_below place threshold rows + voted_bit threshold rows place * 2 ^ place

-- the vote of some rows: each of the 24 bits is judged by itself
unfoldable pub vote : ℕ → List ℕ → ℕ
vote threshold rows = voted_below 24 threshold rows
