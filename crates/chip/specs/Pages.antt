-- The pages of the chip (document 01, "Locks").
use Rattle.std.specs.Prelude.{ℕ, ◌+◌, ◌-◌, ◌*◌, ◌/◌, Bool, ltb, leb}
use Rattle.std.specs.Prelude.{if◌then◌else◌}

-- page n is rows 64n to 64n+63
abbrev pub first_row : ℕ → ℕ
first_row page = 64 * page

-- its lock word is rows 0xf80+2n (low) and 0xf81+2n (high)
abbrev pub low_lock_row : ℕ → ℕ
low_lock_row page = 0xf80 + 2 * page

abbrev pub high_lock_row : ℕ → ℕ
high_lock_row page = 0xf81 + 2 * page

-- rows 0xf80 and up are lock rows
abbrev pub is_lock_row : ℕ → Bool
is_lock_row row = leb 0xf80 row

-- the page whose levels a row goes by: a lock row belongs to the lock word that it is in; past row 4,095 there is no page, which is said as 64
abbrev pub owner : ℕ → ℕ
owner row =
    if ltb 4095 row then 64
    else if is_lock_row row then (row - 0xf80) / 2
    else row / 64

-- the page whose key settings a row goes by: the chip divides by 64 for lock rows too, so that theirs are page 62's or 63's (erratum E28)
abbrev pub key_page : ℕ → ℕ
key_page row = if ltb 4095 row then 64 else row / 64

-- the page that a row is in, by its number: lock rows are in pages 62 and 63
abbrev pub page_of : ℕ → ℕ
page_of row = row / 64
