-- The one format of an image: 16,384 bytes for 4,096 rows, row 0 first, each a number of 32 bits, low byte first.
use Rattle.std.specs.Prelude.{ℕ, ◌+◌, ◌*◌, ◌/◌, ◌%◌, ◌^◌, List, get_or}
use Rattle.chip.specs.Lists.{listed}
use Rattle.chip.specs.Slices.{row_at}

-- a byte of a file, and 0 past its end
abbrev pub byte_at : List ℕ → ℕ → ℕ
byte_at bytes at = get_or bytes at 0

-- a row, from its four bytes
abbrev pub row_of : List ℕ → ℕ → ℕ
row_of bytes row =
    byte_at bytes (4 * row) + 256 * byte_at bytes (4 * row + 1) + 65536 * byte_at bytes (4 * row + 2) + 16777216 * byte_at bytes (4 * row + 3)

-- the rows of an image, from its bytes
abbrev pub rows_of : List ℕ → List ℕ
rows_of bytes = listed 4096 (row_of bytes)

-- one of the four bytes of a row
abbrev pub byte_of : ℕ → ℕ → ℕ
byte_of row which = row / 256 ^ which % 256

-- the bytes of an image, from its rows
abbrev pub bytes_of : List ℕ → List ℕ
bytes_of rows = listed 16384 (λ at. byte_of (row_at rows (at / 4)) (at % 4))
