-- What stands for a number that has no room in an entry: the library finds the same fault in it.
-- Assumes nothing.
use mathlib.Core.Path.{◌≡◌, refl}
use mathlib.Core.Bool.{Bool, true, false}
use Prim.Native.Nat.{ℕ, ◌≤◌, ◌<◌, min}
use native.Mathlib.Omega.{arith}
use borrow.Author.Tests.{lt-ltb, le-ltb, le-leb, leb-true, leb-false}
use lib.Dec.{leb}
use Rattle.form.specs.Faults.{form_fault, row_fault}
use Rattle.form.specs.declared.entries.Entry.{Entry}

-- a row, a kind and a value of any size
abbrev typed : ℕ → ℕ → ℕ → Entry
typed row kind value = record { row = row; kind = kind; value = value }

-- a row above 16 bits is from 0xf40 up and above 4,095, and so is the largest: in either version it has the same fault
pub row_stands : (version i least row kind value : ℕ)
    → row_fault version i least (typed (min row 0xffff) kind value) ≡ row_fault version i least (typed row kind value)
row_stands version i least row kind value = go (leb row 0xffff) refl
  where
    go : (t : Bool) → leb row 0xffff ≡ t → row_fault version i least (typed (min row 0xffff) kind value) ≡ row_fault version i least (typed row kind value)
    go true fits =
        let small : row ≤ 0xffff = leb-true row 0xffff fits in
        let own : min row 0xffff ≡ row = omega arith in
        rw own
    go false large =
        let high : 0xffff < row = leb-false row 0xffff large in
        let most : min row 0xffff ≡ 0xffff = omega arith in
        rw (most, le-leb 0xf40 row (omega arith), le-ltb row 0xf80 (omega arith), lt-ltb 4095 row (omega arith))

-- an ECC value above 24 bits is above 65,535, and so is the largest
pub value_stands : (i row value : ℕ) → form_fault i (typed row 0 (min value 0xffffff)) ≡ form_fault i (typed row 0 value)
value_stands i row value = go (leb value 0xffffff) refl
  where
    go : (t : Bool) → leb value 0xffffff ≡ t → form_fault i (typed row 0 (min value 0xffffff)) ≡ form_fault i (typed row 0 value)
    go true fits =
        let small : value ≤ 0xffffff = leb-true value 0xffffff fits in
        let own : min value 0xffffff ≡ value = omega arith in
        rw own
    go false large =
        let high : 0xffffff < value = leb-false value 0xffffff large in
        let most : min value 0xffffff ≡ 0xffffff = omega arith in
        rw (most, lt-ltb 65535 value (omega arith))
