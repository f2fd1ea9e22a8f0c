-- An image that was written reads back: the rows of the bytes of rows are those rows.
-- Assumes nothing.
use mathlib.Core.List.{List}
use mathlib.Core.Path.{◌≡◌, sym, ◌∙◌}
use Prim.Native.Nat.{ℕ, ◌+◌, ◌*◌, ◌/◌, ◌%◌, ◌^◌, ◌<◌}
use native.Mathlib.Nat.{add-zero}
use native.Mathlib.Omega.{arith}
use lib.ListN.{length}
use lib.Seq.{ext_get_or}
use Rattle.chip.specs.Slices.{row_at}
use Rattle.chip.proofs.Lists.{length_listed, listed_at}
use Rattle.image.specs.Images.{byte_at, row_of, rows_of, byte_of, bytes_of}

-- the four bytes of a number of 32 bits make it up
four_bytes : (n : ℕ) → n < 2 ^ 32 → n / 256 ^ 0 % 256 + 256 * (n / 256 ^ 1 % 256) + 65536 * (n / 256 ^ 2 % 256) + 16777216 * (n / 256 ^ 3 % 256) ≡ n
four_bytes n fits =
    let third : n / 65536 ≡ n / 256 / 256 = omega arith in
    let fourth : n / 16777216 ≡ n / 65536 / 256 = omega arith in
    let low : n ≡ n % 256 + 256 * (n / 256) = omega arith in
    let next : n / 256 ≡ n / 256 % 256 + 256 * (n / 65536) = omega arith in
    let last : n / 65536 ≡ n / 65536 % 256 + 256 * (n / 16777216) = omega arith in
    let top : n / 16777216 % 256 ≡ n / 16777216 = omega arith in
    omega arith

module _ (rows : List ℕ) where
  abbrev rule : ℕ → ℕ
  rule at = byte_of (row_at rows (at / 4)) (at % 4)

  -- each of a row's four bytes
  byte_back : (row which : ℕ) → row < 4096 → which < 4 → byte_at (bytes_of rows) (4 * row + which) ≡ byte_of (row_at rows row) which
  byte_back row which h k =
      let own : (4 * row + which) / 4 ≡ row = omega arith in
      let place : (4 * row + which) % 4 ≡ which = omega arith in
      listed_at rule 16384 (4 * row + which) 0 (omega arith) ∙ rw (own, place)

  -- a row of 32 bits
  row_back : (row : ℕ) → row < 4096 → row_at rows row < 2 ^ 32 → row_of (bytes_of rows) row ≡ row_at rows row
  row_back row h fits =
      let low : byte_at (bytes_of rows) (4 * row) ≡ byte_of (row_at rows row) 0 = rw add-zero at (byte_back row 0 h (omega arith)) in
      rw (low, byte_back row 1 h (omega arith), byte_back row 2 h (omega arith), byte_back row 3 h (omega arith)) (four_bytes (row_at rows row) fits)

-- the rows of the bytes of 4,096 rows of 32 bits
pub read_back : (rows : List ℕ) → length rows ≡ 4096 → ((row : ℕ) → row_at rows row < 2 ^ 32) → rows_of (bytes_of rows) ≡ rows
read_back rows whole fits =
    ext_get_or 0 (rows_of (bytes_of rows)) rows (length_listed (row_of (bytes_of rows)) 4096 ∙ sym whole)
    (λ row h.
    let below : row < 4096 = omega (arith, length_listed (row_of (bytes_of rows)) 4096) in
    listed_at (row_of (bytes_of rows)) 4096 row 0 below ∙ row_back rows row below (fits row))
