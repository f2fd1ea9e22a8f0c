-- Two chips that agree: their calls on rows are refused alike, and where one is not refused the entry is the same.
-- Assumes nothing.
use mathlib.Core.Bool.{Bool, true, false, not, ◌&&◌, ◌||◌, or-true}
use mathlib.Core.List.{List, ◌∷◌, ◌++◌}
use mathlib.Core.Path.{◌≡◌, refl, sym, ap, ap₂, ◌∙◌}
use Prim.Native.Nat.{ℕ, zero, suc, ◌+◌, ◌-◌, ◌/◌, ◌≤◌, max}
use native.Mathlib.Omega.{arith}
use borrow.Author.Tests.{ltb-false, not-false}
use lib.Dec.{eqb, ltb, leb}
use lib.ListN.{length, take}
use lib.Seq.{drop-cons}
use Rattle.std.specs.Prelude.{if◌then◌else◌}
use Rattle.answer.specs.Rungs.{Rung, first_of}
use Rattle.permit.specs.Keys.{hidden}
use Rattle.chip.specs.Pages.{is_lock_row, owner}
use Rattle.permit.specs.Permission.{may_read, may_write}
use Rattle.chip.specs.Slices.{row_at, not_whole, too_large}
use Rattle.chip.specs.declared.state.State.{State}
use Rattle.access.specs.Judging.{row_rungs, call_rungs}
use Rattle.access.specs.Votes.{group_rungs, read_vote_number, group}
use Rattle.access.proofs.Passing.{whole}
use Rattle.answer.proofs.Ladders.{passed}
use Rattle.laws.specs.Calls.{Chip}
use Rattle.plugins.specs.Plugins.{Agree}

-- the same number where a test holds, and where it fails what the rest gives
below : (t : Bool) (n x y : ℕ) → (t ≡ false → x ≡ y) → (if t then n else x) ≡ (if t then n else y)
below true n x y same = refl
below false n x y same = same refl

-- two calls with the same number, and where it is 0 they use the same
abbrev pub Judged : {A : Type 0} → ℕ → ℕ → A → A → Type 0
Judged m n x y = (m ≡ n) × (m ≡ 0 → x ≡ y)

module _ (a b : Chip) (agree : Agree a b) where
  -- ---- what Non-secure may use

  same_hidden : (row : ℕ) → hidden a.state row ≡ hidden b.state row
  unfolding hidden
  same_hidden row = rw (agree.flags (1 + (row - 0xf48) / 8))

  pub same_read : (row : ℕ) → may_read a.state 1 row ≡ may_read b.state 1 row
  unfolding may_read
  same_read row = ap₂ (λ (own key : ℕ). is_lock_row row || leb (max own key) 1) (agree.levels 1 (owner row)) (agree.key_levels row)

  pub same_write : (row : ℕ) → may_write a.state 1 row ≡ may_write b.state 1 row
  unfolding may_write
  same_write row = rw (agree.levels 1 (owner row), agree.levels 0 (owner row), agree.key_levels row)

  abbrev SameEntry : ℕ → Type 0
  SameEntry row = row_at a.rows row ≡ row_at b.rows row

  known : (row : ℕ) → row ≤ 4095 → hidden a.state row ≡ false → may_read a.state 1 row ≡ true → SameEntry row
  known row low shown may = agree.entries row low (rw (shown, may) (or-true (is_lock_row row)))

  -- ---- one row, used by a call that is allowed only where Non-secure may read

  module _ (row : ℕ) (may : Bool) (reads : may ≡ true → may_read a.state 1 row ≡ true) where
    row_number : row ≤ 4095 → (rest-a rest-b : List Rung) → (SameEntry row → first_of rest-a ≡ first_of rest-b)
        → first_of (row_rungs a.rows a.state may row ++ rest-a) ≡ first_of (row_rungs b.rows b.state may row ++ rest-b)
    unfolding row_rungs
    row_number low rest-a rest-b rest =
        rw (← same_hidden row)
        (below (hidden a.state row) 6 _ _ (λ shown.
        below (not may) 7 _ _ (λ allowed.
        let same : SameEntry row = known row low shown (reads (not-false may allowed)) in
        rw same (below (too_large b.rows row) 3 _ _ (λ small. rest same)))))

    row_entry : row ≤ 4095 → (rest : List Rung) → first_of (row_rungs a.rows a.state may row ++ rest) ≡ 0
        → SameEntry row × (first_of rest ≡ 0)
    unfolding row_rungs
    row_entry low rest none =
        let six = passed (hidden a.state row) 5 _ none in
        let seven = passed (not may) 6 _ six.1 in
        (known row low six.0 (reads (not-false may seven.0)), (passed (too_large a.rows row) 2 _ seven.1).1)

  -- ---- a call on one row

  module _ (row : ℕ) (coded large : Bool) (may : State → Bool) (same-may : may a.state ≡ may b.state)
      (reads : may a.state ≡ true → may_read a.state 1 row ≡ true) (last : ℕ → List Rung) where
    -- its number: what every such call is refused for, and then what its entry is
    abbrev number_on : Chip → ℕ
    number_on chip = first_of (call_rungs chip.rows chip.state 1 row coded large (may chip.state) ++ last (row_at chip.rows row))

    same_number : number_on a ≡ number_on b
    unfolding call_rungs
    same_number =
        rw (← agree.lengths, ← same-may)
        (below (not_whole a.rows) 1 _ _ (λ long.
        below large 4 _ _ (λ fits.
        below (ltb 4095 row) 2 _ _ (λ low.
        below (coded && is_lock_row row) 5 _ _ (λ coded-row.
        row_number row (may a.state) reads (ltb-false 4095 row low) (last (row_at a.rows row)) (last (row_at b.rows row))
        (λ same. ap (λ (entry : ℕ). first_of (last entry)) same))))))

    same_entry : number_on a ≡ 0 → SameEntry row
    unfolding call_rungs
    same_entry none =
        let one = passed (not_whole a.rows) 0 _ none in
        let four = passed large 3 _ one.1 in
        let two = passed (ltb 4095 row) 1 _ four.1 in
        let five = passed (coded && is_lock_row row) 4 _ two.1 in
        (row_entry row (may a.state) reads (ltb-false 4095 row two.0) (last (row_at a.rows row)) five.1).0

    pub on_one_row : Judged (number_on a) (number_on b) (row_at a.rows row) (row_at b.rows row)
    on_one_row = (same_number, same_entry)

  -- ---- a vote

  group_number : (count row : ℕ) → row + count ≤ 4096
      → first_of (group_rungs a.rows a.state 1 row count) ≡ first_of (group_rungs b.rows b.state 1 row count)
  unfolding group_rungs
  group_number zero row low = refl
  group_number (suc others) row low =
      rw (← same_read row)
      (row_number row (may_read a.state 1 row) (λ may. may) (omega arith) (group_rungs a.rows a.state 1 (suc row) others)
      (group_rungs b.rows b.state 1 (suc row) others) (λ same. group_number others (suc row) (omega arith)))

  group_rows : (count row : ℕ) → length a.rows ≡ 4096 → row + count ≤ 4096
      → first_of (group_rungs a.rows a.state 1 row count) ≡ 0 → group a.rows row count ≡ group b.rows row count
  unfolding group_rungs
  group_rows zero row long low none = refl
  group_rows (suc others) row long low none =
      let here = row_entry row (may_read a.state 1 row) (λ may. may) (omega arith) (group_rungs a.rows a.state 1 (suc row) others) none in
      ap (take (suc others)) (drop-cons a.rows row 0 (omega (arith, long)))
      ∙ ap₂ (λ (entry : ℕ) (above : List ℕ). entry ∷ above) here.0 (group_rows others (suc row) long (omega arith) here.1)
      ∙ sym (ap (take (suc others)) (drop-cons b.rows row 0 (omega (arith, long, agree.lengths))))

  pub on_a_group : (row count : ℕ)
      → Judged (read_vote_number a.rows a.state 1 row count) (read_vote_number b.rows b.state 1 row count)
      (group a.rows row count) (group b.rows row count)
  on_a_group row count = (
    rw (← agree.lengths)
        (below (not_whole a.rows) 1 _ _ (λ long.
        below (not (eqb count 3 || eqb count 8)) 4 _ _ (λ counted.
        below (ltb 4096 (row + count)) 2 _ _ (λ low.
        below (ltb 0xf80 (row + count)) 5 _ _ (λ coded-row.
        group_number count row (ltb-false 4096 (row + count) low)))))),
    λ none.
        let one = passed (not_whole a.rows) 0 _ none in
        let four = passed (not (eqb count 3 || eqb count 8)) 3 _ one.1 in
        let two = passed (ltb 4096 (row + count)) 1 _ four.1 in
        let five = passed (ltb 0xf80 (row + count)) 4 _ two.1 in
        group_rows count row (whole a.rows one.0) (ltb-false 4096 (row + count) two.0) five.1,
  )
