-- Whose levels and whose key settings decide a row, by the two pages that its number gives.
-- Assumes nothing.
use mathlib.Core.Bool.{Bool, true, false}
use mathlib.Core.Logic.{◌⊎◌, inl, inr}
use mathlib.Core.Path.{◌≡◌, refl, ap}
use Prim.Native.Nat.{ℕ, ◌+◌, ◌-◌, ◌*◌, ◌/◌, ◌≤◌}
use native.Mathlib.Omega.{arith}
use borrow.Author.Tests.{le-ltb, le-leb, lt-leb, leb-true, leb-false}
use lib.Dec.{leb}
use Rattle.std.specs.Prelude.{if◌then◌else◌}
use Rattle.permit.specs.Keys.{key_level}
use Rattle.chip.specs.Pages.{first_row, low_lock_row, high_lock_row, owner, key_page}
use Rattle.permit.specs.Permission.{may_read, may_write}
use Rattle.laws.specs.LockRows.{InWord, taken_from, KeysOfLockRows, LevelsOfLockRows, PermissionOfLockRows, DataPagesKeepTheirs}

-- ---- the pages of a lock row

module _ (row word : ℕ) (in-word : InWord row word) where
  last : word ≤ 63
  last = in-word.0

  spanned : (0xf80 + 2 * word ≤ row) × (row ≤ 0xf81 + 2 * word)
  spanned = go in-word.1
    where
      go : (row ≡ low_lock_row word) ⊎ (row ≡ high_lock_row word) → (0xf80 + 2 * word ≤ row) × (row ≤ 0xf81 + 2 * word)
      go (inl low) = (omega (arith, low), omega (arith, low))
      go (inr high) = (omega (arith, high), omega (arith, high))

  inside : row ≤ 4095
  inside = omega (arith, last, spanned.1)

  lock_row : leb 0xf80 row ≡ true
  lock_row = le-leb 0xf80 row (omega (arith, spanned.0))

  word_owns : owner row ≡ word
  word_owns =
      let half : (row - 0xf80) / 2 ≡ word = omega (arith, spanned.0, spanned.1) in
      rw (le-ltb 4095 row inside, lock_row) half

  key_page_taken : key_page row ≡ taken_from word
  key_page_taken = rw (le-ltb 4095 row inside) (by_64 (leb word 31) refl)
    where
      by_64 : (t : Bool) → leb word 31 ≡ t → row / 64 ≡ (if t then 62 else 63)
      by_64 true low = omega (arith, spanned.0, spanned.1, leb-true word 31 low)
      by_64 false high = omega (arith, last, spanned.0, spanned.1, leb-false word 31 high)

pub keys_of_lock_rows : KeysOfLockRows
keys_of_lock_rows state row word in-word = ap (key_level state) (key_page_taken row word in-word)

pub levels_of_lock_rows : LevelsOfLockRows
levels_of_lock_rows state caller row word in-word = rw (word_owns row word in-word)

pub permission_of_lock_rows : PermissionOfLockRows
unfolding may_read may_write
permission_of_lock_rows state caller row word in-word =
    (rw (lock_row row word in-word), rw (word_owns row word in-word, key_page_taken row word in-word))

-- ---- the page of a data row

module _ (row page : ℕ) (last : page ≤ 61) (from : first_row page ≤ row) (to : row ≤ first_row page + 63) where
  by_64 : row / 64 ≡ page
  by_64 = omega (arith, last, from, to)

  page_owns : owner row ≡ page
  page_owns = rw (le-ltb 4095 row (omega (arith, last, to)), lt-leb 0xf80 row (omega (arith, last, to))) by_64

  key_page_own : key_page row ≡ page
  key_page_own = rw (le-ltb 4095 row (omega (arith, last, to))) by_64

pub data_pages_keep_theirs : DataPagesKeepTheirs
data_pages_keep_theirs state caller row page last from to =
    (rw (page_owns row page last from to), ap (key_level state) (key_page_own row page last from to))
