-- The lent slice of rows (document 01, "What the library models"). Past its end a row holds nothing.
use Rattle.std.specs.Prelude.{ℕ, Bool, not, List, eqb, ltb, length, get_or}

-- what the slice holds at a row
abbrev pub row_at : List ℕ → ℕ → ℕ
row_at rows row = get_or rows row 0

-- the row slice hasn't 4,096 entries
abbrev pub not_whole : List ℕ → Bool
not_whole rows = not (eqb (length rows) 4096)

-- what it holds at a row is above 16,777,215
abbrev pub too_large : List ℕ → ℕ → Bool
too_large rows row = ltb 16777215 (row_at rows row)
