-- The n lowest of some bits: place by place, and as what a mask leaves.
-- Assumes nothing.
use mathlib.Core.Path.{◌≡◌, refl, sym, ap, ap₂, ◌∙◌}
use mathlib.Core.Bool.{Bool, true, false}
use Prim.Native.Nat.{ℕ, zero, suc, ◌+◌, ◌-◌, ◌*◌, ◌%◌, ◌^◌, ◌≤◌, ◌<◌}
use native.Mathlib.Nat.{add_comm, add-zero, zero-mul, mul_comm, pow-suc, mod-one, mod-lt, le_refl}
use native.Mathlib.Numerals.{add-one, one-add}
use native.Mathlib.Omega.{arith}
use borrow.Author.Tests.{lt-ltb, le-ltb, ltb-false, leb-true, leb-false}
use lib.Arith.{digits_lt}
use lib.Bits.{bit_and, and_mask}
use lib.Count.{ones_in}
use lib.Dec.{ltb, leb, lit<}
use lib.Pow.{pow_pos, mod-pow-add}
use Rattle.std.specs.Prelude.{if◌then◌else◌}
use Rattle.row.specs.Code.{bit_at}
use Rattle.row.proofs.Counts.{ones_more, ones_low, ones_wider}
use Rattle.row.proofs.Places.{bit_lt}
use Rattle.row.specs.Upward.{lowest_below}

taken_lt : (t : Bool) (place bits : ℕ) → (if t then bit_at place bits else 0) < 2
taken_lt true place bits = bit_lt place bits
taken_lt false place bits = lit< tt

-- those below a place are below it
pub lowest_lt : (places n bits : ℕ) → lowest_below places n bits < 2 ^ places
unfolding lowest_below
lowest_lt zero n bits = lit< tt
lowest_lt (suc place) n bits =
    rw (add_comm, pow-suc, mul_comm (2 ^ place) 2)
    (digits_lt (taken_lt (ltb (ones_in place bits) n) place bits) (lowest_lt place n bits))

-- one place more, as the code takes it
pub lowest_taken : (place n bits : ℕ) → ones_in place bits < n
    → lowest_below (place + 1) n bits ≡ lowest_below place n bits + bit_at place bits * 2 ^ place
unfolding lowest_below
lowest_taken place n bits h = rw (add-one, lt-ltb (ones_in place bits) n h)

pub lowest_left : (place n bits : ℕ) → n ≤ ones_in place bits → lowest_below (place + 1) n bits ≡ lowest_below place n bits
unfolding lowest_below
lowest_left place n bits h = rw (add-one, le-ltb (ones_in place bits) n h, zero-mul, add-zero)

-- ---- how many they are

taken_all : (place n bits : ℕ) → ones_in (place + 1) bits ≤ n → (if ltb (ones_in place bits) n then bit_at place bits else 0) ≡ bit_at place bits
taken_all place n bits few = go (ltb (ones_in place bits) n) refl
  where
    go : (t : Bool) → ltb (ones_in place bits) n ≡ t → (if t then bit_at place bits else 0) ≡ bit_at place bits
    go true more = refl
    go false none = omega (arith, ones_more place bits, ltb-false (ones_in place bits) n none)

-- where at most n are set, all are taken
lowest_all : (places n bits : ℕ) → ones_in places bits ≤ n → lowest_below places n bits ≡ bits % 2 ^ places
unfolding lowest_below
lowest_all zero n bits few = sym (mod-one bits)
lowest_all (suc place) n bits few =
    let here : ones_in (place + 1) bits ≤ n = rw add-one few in
    ap₂ (λ (low taken : ℕ). low + taken * 2 ^ place)
    (lowest_all place n bits (omega (arith, ones_more place bits))) (taken_all place n bits here)
    ∙ add_comm (bits % 2 ^ place) (bit_at place bits * 2 ^ place)
    ∙ sym (mod-pow-add bits 1 place)
    ∙ ap (λ (j : ℕ). bits % 2 ^ j) (one-add place)

-- where at least n are set, those taken are all the bits below some width
abbrev Cropped : ℕ → ℕ → ℕ → Type 0
Cropped places n bits = (width : ℕ) × (width ≤ places) × (lowest_below places n bits ≡ bits % 2 ^ width) × (ones_in width bits ≡ n)

lowest_cropped : (places n bits : ℕ) → n ≤ ones_in places bits → Cropped places n bits
unfolding ones_in
lowest_cropped zero n bits enough = (0, le_refl 0, lowest_all zero n bits (omega arith), omega arith)
lowest_cropped (suc place) n bits enough = go (leb n (ones_in place bits)) refl (lowest_cropped place n bits)
  where
    go : (t : Bool) → leb n (ones_in place bits) ≡ t → (n ≤ ones_in place bits → Cropped place n bits) → Cropped (suc place) n bits
    go true below rest =
        let l : n ≤ ones_in place bits = leb-true n (ones_in place bits) below in
        let found = rest l in
        (found.0, omega arith, rw add-one at (lowest_left place n bits l) ∙ found.2, found.3)
    go false above rest =
        let more : ones_in (suc place) bits ≡ ones_in place bits + bit_at place bits = rw add-one at (ones_more place bits) in
        let few : ones_in place bits < n = leb-false n (ones_in place bits) above in
        let one : bit_at place bits < 2 = bit_lt place bits in
        (suc place, le_refl (suc place), lowest_all (suc place) n bits (omega arith), omega arith)

-- so they are what a mask leaves, and they are n
pub lowest_masked : (places n bits : ℕ) → n ≤ ones_in places bits
    → (mask : ℕ) × (lowest_below places n bits ≡ bit_and bits mask) × (ones_in places (bit_and bits mask) ≡ n)
lowest_masked places n bits enough =
    let found = lowest_cropped places n bits enough in
    let width : ℕ = found.0 in
    let cropped : bit_and bits (2 ^ width - 1) ≡ bits % 2 ^ width = and_mask bits width in
    let wide : width + (places - width) ≡ places = omega arith in (
      2 ^ width - 1,
      found.2 ∙ sym cropped,
      ap₂ ones_in (sym wide) cropped
          ∙ ones_wider width (places - width) (bits % 2 ^ width) (mod-lt bits (pow_pos width))
          ∙ ones_low width bits
          ∙ found.3,
    )
