-- The rows of a page, when one row of the chip is put in, and the set bits of rows that gain some.
-- Assumes nothing.
use mathlib.Core.Bool.{Bool, true, false}
use mathlib.Core.List.{List}
use mathlib.Core.Path.{◌≡◌, refl, ap, ◌∙◌}
use Prim.Native.Nat.{ℕ, ◌+◌, ◌-◌, ◌*◌, ◌%◌, ◌≤◌, ◌<◌, min}
use native.Mathlib.Nat.{mod-lt}
use native.Mathlib.Omega.{arith}
use borrow.Author.Tests.{ltb-true, ltb-false}
use lib.Bits.{bit_and, differ}
use lib.Dec.{ltb, lit<}
use lib.ListN.{length, take, drop, set, length-drop}
use lib.Seq.{drop-set-lt, drop-set-add, take-set-lt, take-set-le, get_or-take, get_or-drop, length-take-le}
use Rattle.row.specs.Code.{bit_at, set_bits}
use Rattle.row.specs.Writing.{pulses}
use Rattle.row.proofs.Counts.{ones_sum}
use Rattle.row.proofs.Digits.{equal2}
use Rattle.row.proofs.Places.{bit_lt, bit_at-bit_and, bit_at-bit_xor}
use Rattle.chip.specs.Pages.{page_of}
use Rattle.chip.specs.Slices.{row_at}
use Rattle.chip.specs.Tallies.{page_rows, bits_of}
use Rattle.laws.specs.Writes.{newly_set}
use Rattle.laws.specs.Votes.{EachIn}
use Rattle.laws.specs.Writes.{In}
use Rattle.laws.proofs.Between.{new_none, new_set}
use Rattle.laws.proofs.Writes.{shared, all_set}

-- ---- one row put in

module _ (rows : List ℕ) (row new : ℕ) where
  -- on the page that the row is in
  page_in : page_rows (set rows row new) (page_of row) ≡ set (page_rows rows (page_of row)) (row % 64) new
  page_in =
      let first : ℕ = 64 * page_of row in
      let parts : row ≡ first + row % 64 = omega arith in
      ap (λ (at : ℕ). take 64 (drop first (set rows at new))) parts
      ∙ ap (take 64) (drop-set-add first rows (row % 64) new)
      ∙ take-set-lt 64 (drop first rows) (row % 64) new (omega arith)

  -- on any other nothing changes
  page_out : (page : ℕ) → (page_of row ≡ page → ⊥) → page_rows (set rows row new) page ≡ page_rows rows page
  page_out page other = go (ltb row (64 * page)) refl
    where
      go : (t : Bool) → ltb row (64 * page) ≡ t → page_rows (set rows row new) page ≡ page_rows rows page
      go true below = ap (take 64) (drop-set-lt (64 * page) rows row new (ltb-true row (64 * page) below))
      go false above =
          let from : 64 * page ≤ row = ltb-false row (64 * page) above in
          let parts : row ≡ 64 * page + (row - 64 * page) = omega arith in
          let past : 64 ≤ row - 64 * page = omega (arith, other) in
          ap (λ (at : ℕ). take 64 (drop (64 * page) (set rows at new))) parts
          ∙ ap (take 64) (drop-set-add (64 * page) rows (row - 64 * page) new)
          ∙ take-set-le 64 (drop (64 * page) rows) (row - 64 * page) new past

  -- the bits newly set on the page that it is in, and on any other
  pub new_in : row < 4096 → length rows ≡ 4096
      → newly_set (page_rows rows (page_of row)) (page_rows (set rows row new) (page_of row)) ≡ pulses (row_at rows row) new
  new_in inside whole =
      let first : ℕ = 64 * page_of row in
      let low : row % 64 < 64 = mod-lt row (lit< tt) in
      let parts : first + row % 64 ≡ row = omega arith in
      let long : length (page_rows rows (page_of row)) ≡ 64 = length-take-le 64 (drop first rows) (rw (length-drop first rows, whole) (omega arith)) in
      ap (newly_set (page_rows rows (page_of row))) page_in
      ∙ new_set (page_rows rows (page_of row)) (row % 64) new (rw long low)
      ∙ ap (λ (old : ℕ). pulses old new)
      (get_or-take 64 (drop first rows) (row % 64) 0 low ∙ get_or-drop first rows (row % 64) 0 ∙ ap (row_at rows) parts)

  pub new_out : (page : ℕ) → (page_of row ≡ page → ⊥) → newly_set (page_rows rows page) (page_rows (set rows row new) page) ≡ 0
  new_out page other = ap (newly_set (page_rows rows page)) (page_out page other) ∙ new_none (page_rows rows page)

-- ---- set bits

-- of any two rows, the first made in the second
bits_both : (a b : ℕ) → set_bits (bit_and a b) + pulses (bit_and a b) b ≡ set_bits b
unfolding pulses set_bits
bits_both a b =
    ones_sum 24 _ _ _
    (λ k l. simp (bit_at-bit_and, bit_at-bit_xor, all_set k l)
    (equal2 (λ x y. min x y + min y (differ (min x y) 1)) (λ x y. y) tt (bit_at k a) (bit_at k b) (bit_lt k a) (bit_lt k b)))

-- a row's set bits are the old ones and those newly set
bits_row : (old new : ℕ) → In old new → set_bits old + pulses old new ≡ set_bits new
bits_row old new over = rw (shared old new over) at (bits_both old new)

pub bits_gained : {rows left : List ℕ} → EachIn rows left → bits_of rows + newly_set rows left ≡ bits_of left
unfolding bits_of newly_set
bits_gained EachIn.none = refl
bits_gained (EachIn.more {old} {new} one rest) = omega (arith, bits_row old new one, bits_gained rest)
