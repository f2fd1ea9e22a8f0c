-- A list in order: its rows rise, and each is below 0xf40.
-- Assumes nothing.
use Prim.Native.Nat.{ℕ, zero, suc, ◌+◌, ◌≤◌, ◌<◌}
use mathlib.Core.Bool.{true, false, ◌||◌}
use mathlib.Core.List.{List, [], ◌∷◌}
use mathlib.Core.Path.{◌≡◌, ap, ◌∙◌}
use native.Mathlib.Nat.{le_of_suc-le-suc, not-suc-le-zero}
use native.Mathlib.Numerals.{add-one}
use native.Mathlib.Omega.{arith}
use borrow.Author.Tests.{ltb-false, leb-false, lt-leb, le-ltb, lt-ltb, le-leb}
use lib.Dec.{ltb, leb}
use lib.ListN.{length, get_or, drop}
use lib.Seq.{drop-cons, drop-length}
use Rattle.answer.proofs.Ladders.{neither}
use Rattle.repair.specs.Pass.{out_of_order}

-- the first row of a list in order, and the others
pub first_row_lem : (least row : ℕ) (others : List ℕ) → out_of_order least (row ∷ others) ≡ false
    → (row < 0xf40) × (least ≤ row) × (out_of_order (row + 1) others ≡ false)
unfolding out_of_order
first_row_lem least row others e =
    let here = neither (leb 0xf40 row || ltb row least) (out_of_order (row + 1) others) e in
    let own = neither (leb 0xf40 row) (ltb row least) here.0 in
    (leb-false 0xf40 row own.0, ltb-false row least own.1, here.1)

-- each row is below 0xf40, and as many places above the least one as its own
pub each_row : (least : ℕ) (list : List ℕ) → out_of_order least list ≡ false → (k : ℕ) → k < length list
    → (get_or list k 0 < 0xf40) × (least + k ≤ get_or list k 0)
each_row least [] e k h = absurd (not-suc-le-zero h)
each_row least (row ∷ others) e zero h = let first = first_row_lem least row others e in (first.0, omega (arith, first.1))
each_row least (row ∷ others) e (suc k) h =
    let first = first_row_lem least row others e in
    let later = each_row (row + 1) others first.2 k (le_of_suc-le-suc h) in
    (later.0, omega (arith, first.1, later.1))

-- a later row is higher
pub rises : (least : ℕ) (list : List ℕ) → out_of_order least list ≡ false → (i k : ℕ) → i < k → k < length list
    → get_or list i 0 < get_or list k 0
rises least [] e i k h in_List = absurd (not-suc-le-zero in_List)
rises least (row ∷ others) e i zero h in_List = absurd (not-suc-le-zero h)
rises least (row ∷ others) e zero (suc k) h in_List =
    let later = each_row (row + 1) others (first_row_lem least row others e).2 k (le_of_suc-le-suc in_List) in
    omega (arith, later.1)
rises least (row ∷ others) e (suc i) (suc k) h in_List =
    rises (row + 1) others (first_row_lem least row others e).2 i k (le_of_suc-le-suc h) (le_of_suc-le-suc in_List)

-- ---- the list taken upward

module _ (list : List ℕ) (i : ℕ) where
  -- the row at a place, and those behind it
  pub next_row : i < length list → drop i list ≡ get_or list i 0 ∷ drop (i + 1) list
  next_row h = rw (add-one i) (drop-cons list i 0 h)

  -- none is left
  pub no_row : i ≡ length list → drop i list ≡ []
  no_row e = ap (λ (n : ℕ). drop n list) e ∙ drop-length list

module _ (list : List ℕ) (least i : ℕ) (h : i < length list) where
  abbrev row : ℕ
  row = get_or list i 0

  pub high_stops : 0xf40 ≤ row → out_of_order least (drop i list) ≡ true
  unfolding out_of_order
  high_stops high = rw (next_row list i h, le-leb 0xf40 row high)

  pub low_stops : row < 0xf40 → row < least → out_of_order least (drop i list) ≡ true
  unfolding out_of_order
  low_stops low below = rw (next_row list i h, lt-leb 0xf40 row low, lt-ltb row least below)

  pub order_next : row < 0xf40 → least ≤ row → out_of_order least (drop i list) ≡ out_of_order (row + 1) (drop (i + 1) list)
  unfolding out_of_order
  order_next low above = rw (next_row list i h, lt-leb 0xf40 row low, le-ltb row least above)
