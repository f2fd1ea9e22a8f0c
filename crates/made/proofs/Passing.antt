-- What a making that is done has passed, and that nothing else is asked of it.
-- Assumes nothing.
use mathlib.Core.Bool.{Bool, true, false, not, ◌&&◌, ◌||◌}
use mathlib.Core.List.{List}
use mathlib.Core.Path.{◌≡◌, refl, sym, ap, ◌∙◌}
use Prim.Native.Nat.{ℕ, ◌≤◌, ◌<◌}
use native.Mathlib.Omega.{arith}
use borrow.Author.Tests.{le-ltb, le-leb, eq-eqb, eqb-true, eqb-false, leb-true, ltb-true, ltb-false, not-false}
use lib.Dec.{eqb, ltb, leb}
use lib.ListN.{length}
use Rattle.answer.proofs.Ladders.{passed, neither}
use Rattle.row.specs.Writing.{fits}
use Rattle.chip.specs.Slices.{row_at, not_whole}
use Rattle.maker.specs.Images.{either_large, loses_bit, kept_differs, some_row, changes}
use Rattle.maker.specs.Making.{Made, job_bytes, make_number, make_job}
use Rattle.maker.proofs.Made.{make_refused, make_done}
use Rattle.laws.specs.Writes.{In}
use Rattle.made.specs.Refusing.{Image}
use Rattle.made.proofs.Rows.{past_end, none_such, no_such}

pub record Passed (present wanted out : List ℕ) : Type 0 where
  pub of_present : Image present
  pub of_wanted : Image wanted
  pub bits_kept : (row : ℕ) → In (row_at present row) (row_at wanted row)
  pub rows_kept : (row : ℕ) → 0xf40 ≤ row → row_at present row ≡ row_at wanted row
  pub few : length (changes present wanted) ≤ 512
  pub room : job_bytes (changes present wanted) ≤ length out

-- what holds of each row of two whole images, and of rows past their end, holds of every row
every_row : (P : ℕ → ℕ → ℕ → Type 0) (present wanted : List ℕ) → length present ≡ 4096 → length wanted ≡ 4096 → ((row : ℕ) → P row 0 0)
    → ((row : ℕ) → row < 4096 → P row (row_at present row) (row_at wanted row)) → (row : ℕ) → P row (row_at present row) (row_at wanted row)
every_row P present wanted of_present of_wanted past inside row = go (ltb row 4096) refl
  where
    go : (t : Bool) → ltb row 4096 ≡ t → P row (row_at present row) (row_at wanted row)
    go true below = inside row (omega (arith, ltb-true row 4096 below))
    go false above =
        let high = ltb-false row 4096 above in
        rw (past_end present row (omega arith), past_end wanted row (omega arith)) (past row)

-- neither is too large
both_small : (p w : ℕ) → (ltb 16777215 p || ltb 16777215 w) ≡ false → (p ≤ 16777215) × (w ≤ 16777215)
both_small p w e =
    let two = neither (ltb 16777215 p) (ltb 16777215 w) e in
    (ltb-false 16777215 p two.0, ltb-false 16777215 w two.1)

-- a row from 0xf40 up does not differ, and the other way round
equal_kept : (row p w : ℕ) → (leb 0xf40 row && not (eqb p w)) ≡ false → 0xf40 ≤ row → p ≡ w
equal_kept row p w e high = eqb-true p w (not-false (eqb p w) (rw (le-leb 0xf40 row high) at e))

kept_equal : (row p w : ℕ) → (0xf40 ≤ row → p ≡ w) → (leb 0xf40 row && not (eqb p w)) ≡ false
kept_equal row p w same = go (leb 0xf40 row) refl
  where
    go : (t : Bool) → leb 0xf40 row ≡ t → (t && not (eqb p w)) ≡ false
    go false low = refl
    go true high = rw (eq-eqb p w (same (leb-true 0xf40 row high)))

-- two whole images: no search finds a row that is not as it must be
module _ (present wanted : List ℕ) (of_present : length present ≡ 4096) (of_wanted : length wanted ≡ 4096) where
  small_rows : some_row either_large present wanted ≡ false → (row : ℕ) → (row_at present row ≤ 16777215) × (row_at wanted row ≤ 16777215)
  small_rows none =
      every_row (λ row p w. (p ≤ 16777215) × (w ≤ 16777215)) present wanted of_present of_wanted (λ row. (omega arith, omega arith))
      (λ row h. both_small (row_at present row) (row_at wanted row) (none_such either_large present wanted 4096 none row h))

  bits : some_row loses_bit present wanted ≡ false → (row : ℕ) → In (row_at present row) (row_at wanted row)
  bits none =
      every_row (λ row p w. In p w) present wanted of_present of_wanted (λ row. refl)
      (λ row h. not-false (fits (row_at present row) (row_at wanted row)) (none_such loses_bit present wanted 4096 none row h))

  pub rows : some_row kept_differs present wanted ≡ false → (row : ℕ) → 0xf40 ≤ row → row_at present row ≡ row_at wanted row
  rows none =
      every_row (λ row p w. 0xf40 ≤ row → p ≡ w) present wanted of_present of_wanted (λ row high. refl)
      (λ row h. equal_kept row (row_at present row) (row_at wanted row) (none_such kept_differs present wanted 4096 none row h))

module _ (present wanted out : List ℕ) where
  -- by the four tests of two whole images in range
  pub passed_by : Image present → Image wanted → some_row loses_bit present wanted ≡ false → some_row kept_differs present wanted ≡ false
      → ltb 512 (length (changes present wanted)) ≡ false → ltb (length out) (job_bytes (changes present wanted)) ≡ false → Passed present wanted out
  passed_by of_present of_wanted no-bit no_row few room = record {
    of_present = of_present;
    of_wanted = of_wanted;
    bits_kept = bits present wanted of_present.0 of_wanted.0 no-bit;
    rows_kept = rows present wanted of_present.0 of_wanted.0 no_row;
    few = ltb-false 512 (length (changes present wanted)) few;
    room = ltb-false (length out) (job_bytes (changes present wanted)) room;
  }

  all_passed : make_number present wanted out ≡ 0 → Passed present wanted out
  all_passed e =
      let one = passed (not_whole present || not_whole wanted) 0 _ e in
      let three = passed (some_row either_large present wanted) 2 _ one.1 in
      let thirteen = passed (some_row loses_bit present wanted) 12 _ three.1 in
      let eleven = passed (some_row kept_differs present wanted) 10 _ thirteen.1 in
      let fourteen = passed (ltb 512 (length (changes present wanted))) 13 _ eleven.1 in
      let twelve = passed (ltb (length out) (job_bytes (changes present wanted))) 11 0 fourteen.1 in
      let whole = neither (not_whole present) (not_whole wanted) one.0 in
      let p : length present ≡ 4096 = eqb-true (length present) 4096 (not-false (eqb (length present) 4096) whole.0) in
      let w : length wanted ≡ 4096 = eqb-true (length wanted) 4096 (not-false (eqb (length wanted) 4096) whole.1) in
      let small = small_rows present wanted p w three.0 in
      passed_by (p, λ row. (small row).0) (w, λ row. (small row).1) thirteen.0 eleven.0 fourteen.0 twelve.0

  -- and where all of it holds, no rung does
  pub none_refused_lem : Passed present wanted out → make_number present wanted out ≡ 0
  none_refused_lem p =
      rw (
        eq-eqb (length present) 4096 p.of_present.0,
        eq-eqb (length wanted) 4096 p.of_wanted.0,
        no_such either_large present wanted 4096 (λ row h. rw (le-ltb 16777215 (row_at present row) (p.of_present.1 row), le-ltb 16777215 (row_at wanted row) (p.of_wanted.1 row))),
        no_such loses_bit present wanted 4096 (λ row h. rw (p.bits_kept row)),
        no_such kept_differs present wanted 4096 (λ row h. kept_equal row (row_at present row) (row_at wanted row) (p.rows_kept row)),
        le-ltb 512 (length (changes present wanted)) p.few,
        le-ltb (length out) (job_bytes (changes present wanted)) p.room,
      )

  -- its number is that of its rungs
  pub own : (make_job present wanted out).answer.number ≡ make_number present wanted out
  own = go (eqb (make_number present wanted out) 0) refl
    where
      go : (t : Bool) → eqb (make_number present wanted out) 0 ≡ t → (make_job present wanted out).answer.number ≡ make_number present wanted out
      go true e =
          let none = eqb-true (make_number present wanted out) 0 e in
          ap (λ (m : Made). m.answer.number) (make_done present wanted out none) ∙ sym none
      go false e = ap (λ (m : Made). m.answer.number) (make_refused present wanted out (make_number present wanted out) refl (eqb-false (make_number present wanted out) 0 e))

  -- what a done one has passed
  pub done_passed : (make_job present wanted out).answer.number ≡ 0 → Passed present wanted out
  done_passed done = all_passed (sym own ∙ done)
