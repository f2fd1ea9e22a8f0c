-- What a pass is refused for, what it answers, and what it leaves of the rows and of the report.
-- Assumes nothing.
use mathlib.Core.Bool.{Bool, true, false, ◌&&◌, and-eq-true_iff, true≢false}
use mathlib.Core.List.{List, [], ◌∷◌}
use mathlib.Core.Logic.{◌⊎◌, inl, inr}
use mathlib.Core.Path.{◌≡◌, refl, sym, ap, ap₂, ◌∙◌}
use Prim.Native.Nat.{ℕ, suc, ◌+◌, ◌≤◌, ◌<◌, zero-le, suc-le-suc}
use native.Mathlib.Omega.{arith}
use borrow.Author.Tests.{eq-eqb, leb-true, ltb-true}
use lib.Dec.{eqb, ltb, leb}
use lib.ListN.{length, get_or}
use Rattle.std.specs.Prelude.{if◌then◌else◌}
use Rattle.permit.specs.Permission.{may_write}
use Rattle.chip.specs.Slices.{row_at, too_large}
use Rattle.chip.specs.declared.state.State.{State}
use Rattle.repair.specs.Finding.{found_of, kind_of, left_by, pulses_by}
use Rattle.repair.specs.Pass.{Passed, out_of_order, some_too_large, repair_number, looks, mended_rows, mending_pulses}
use Rattle.repair.specs.declared.finding.Found.{Found}
use Rattle.repair.specs.declared.finding.Found.TheVariants.{Clean, Mended, Worn, Damaged, NotPermitted}
use Rattle.repair.proofs.Passing.{let_by, pass_number, pass_refused, pass_done}
use Rattle.repair.proofs.Rising.{each_row, rises}
use Rattle.mended.specs.Passes.{listed_row, finding_at, Done, rows_left, ListWrong, ListedTooLarge, RepairRefusedExactly, RepairRefusalKeeps, mended_of, RepairAnswers, ReportSays, MendedRow, OnlyMendedAlter, MendedRowsReadClean, RepairNoRoom}
use Rattle.mended.specs.Rows.{OneBitMore}
use Rattle.mended.proofs.Listed.{AtPlace, Unlisted, listed_or_not, length_mended, unlisted_stays, listed_leaves, small_at}
use Rattle.mended.proofs.Reports.{length_report, entry_stays, entry_at_lem}
use Rattle.mended.proofs.Rows.{mended_reads}

-- ---- refused

-- where a list is wrong: a row from 0xf40 up, the first row below the least, or a row not above the one before it
abbrev WrongFrom : ℕ → List ℕ → ℕ → Type 0
WrongFrom least list i =
    (0xf40 ≤ get_or list i 0) ⊎ (((i ≡ 0) × (get_or list i 0 < least)) ⊎ ((k : ℕ) × (k + 1 ≡ i) × (get_or list i 0 ≤ get_or list k 0)))

wrong_from : (least : ℕ) (list : List ℕ) → out_of_order least list ≡ true → (i : ℕ) × (i < length list) × WrongFrom least list i
unfolding out_of_order
wrong_from least [] e = absurd (true≢false (sym e))
wrong_from least (row ∷ others) e = go (leb 0xf40 row) refl (ltb row least) refl (wrong_from (row + 1) others)
  where
    later : (i : ℕ) → WrongFrom (row + 1) others i → WrongFrom least (row ∷ others) (suc i)
    later i (inl high) = inl high
    later i (inr (inl (first, low))) = inr (inr (0, omega (arith, first), omega (arith, low)))
    later i (inr (inr (k, next, low))) = inr (inr (suc k, omega (arith, next), low))

    go : (high : Bool) → leb 0xf40 row ≡ high → (low : Bool) → ltb row least ≡ low
        → (out_of_order (row + 1) others ≡ true → (i : ℕ) × (i < length others) × WrongFrom (row + 1) others i)
        → (i : ℕ) × (i < length (row ∷ others)) × WrongFrom least (row ∷ others) i
    go true high low eb rest = (0, suc-le-suc zero-le, inl (leb-true 0xf40 row high))
    go false high true below rest = (0, suc-le-suc zero-le, inr (inl (refl, ltb-true row least below)))
    go false high false below rest =
        let found = rest (rw (high, below) at e) in
        (suc found.0, suc-le-suc found.1, later found.0 found.2)

list_wrong : (list : List ℕ) → out_of_order 0 list ≡ true → ListWrong list
list_wrong list e = let found = wrong_from 0 list e in (found.0, found.1, go found.0 found.2)
  where
    go : (i : ℕ) → WrongFrom 0 list i → (0xf40 ≤ listed_row list i) ⊎ ((k : ℕ) × (k + 1 ≡ i) × (listed_row list i ≤ listed_row list k))
    go i (inl high) = inl high
    go i (inr (inl (first, low))) = absurd (omega (arith, low))
    go i (inr (inr before)) = inr before

right_list : (list : List ℕ) → out_of_order 0 list ≡ false → ListWrong list → ⊥
right_list list order (i, below, inl high) = omega (arith, high, (each_row 0 list order i below).0)
right_list list order (i, below, inr (k, next, low)) = omega (arith, low, rises 0 list order k i (omega (arith, next)) below)

large_at : (rows : List ℕ) (state : State) (list : List ℕ) → some_too_large rows state list ≡ true → ListedTooLarge rows state list
unfolding some_too_large
large_at rows state [] e = absurd (true≢false (sym e))
large_at rows state (row ∷ others) e = go (may_write state 0 row && too_large rows row) refl (large_at rows state others)
  where
    go : (here : Bool) → (may_write state 0 row && too_large rows row) ≡ here → (some_too_large rows state others ≡ true → ListedTooLarge rows state others)
        → ListedTooLarge rows state (row ∷ others)
    go true is rest =
        let both = (and-eq-true_iff (may_write state 0 row) (too_large rows row)).0 is in
        (0, suc-le-suc zero-le, both.0, ltb-true 16777215 (row_at rows row) both.1)
    go false is rest =
        let found = rest (rw is at e) in
        (suc found.0, suc-le-suc found.1, found.2, found.3)

pub repair_refused_exactly : RepairRefusedExactly
repair_refused_exactly rows state list report whole = (because, refuses)
  where
    done : repair_number rows state list report ≡ 0 → Done rows state list report
    done none = pass_number rows state list report ∙ none

    because : (Done rows state list report → ⊥) → ListWrong list ⊎ ((length report < length list) ⊎ ListedTooLarge rows state list)
    because refused = go (out_of_order 0 list) refl (ltb (length report) (length list)) refl (some_too_large rows state list) refl
      where
        go : (a : Bool) → out_of_order 0 list ≡ a → (b : Bool) → ltb (length report) (length list) ≡ b → (c : Bool) → some_too_large rows state list ≡ c
            → ListWrong list ⊎ ((length report < length list) ⊎ ListedTooLarge rows state list)
        go true wrong b short c large = inl (list_wrong list wrong)
        go false order true short c large = inr (inl (ltb-true (length report) (length list) short))
        go false order false room true large = inr (inr (large_at rows state list large))
        go false order false room false small = absurd (refused (done (rw (eq-eqb (length rows) 4096 whole, order, room, small))))

    refuses : ListWrong list ⊎ ((length report < length list) ⊎ ListedTooLarge rows state list) → Done rows state list report → ⊥
    refuses why is = by why
      where
        passed : (length rows ≡ 4096) × (out_of_order 0 list ≡ false) × (length list ≤ length report) × (some_too_large rows state list ≡ false)
        passed = let_by rows state list report (sym (pass_number rows state list report) ∙ is)

        by : ListWrong list ⊎ ((length report < length list) ⊎ ListedTooLarge rows state list) → ⊥
        by (inl wrong) = right_list list passed.1 wrong
        by (inr (inl short)) = omega (arith, short, passed.2)
        by (inr (inr (i, below, may, large))) = omega (arith, large, small_at rows state list passed.3 i below may)

pub repair_refusal_keeps : RepairRefusalKeeps
repair_refusal_keeps rows state list report refused =
    let kept = pass_refused rows state list report _ refl (λ none. refused (pass_number rows state list report ∙ none)) in
    (ap (λ (p : Passed). p.report) kept, ap (λ (p : Passed). p.left.outcome.answer.place) kept)

-- ---- done

module _ (rows : List ℕ) (state : State) (list report : List ℕ) (done : Done rows state list report) where
  abbrev none : repair_number rows state list report ≡ 0
  none = sym (pass_number rows state list report) ∙ done

  pub let_through : (length rows ≡ 4096) × (out_of_order 0 list ≡ false) × (length list ≤ length report) × (some_too_large rows state list ≡ false)
  let_through = let_by rows state list report none

  pub left_rows : rows_left rows state list report ≡ mended_rows rows (looks rows state list)
  left_rows = ap (λ (p : Passed). p.left.rows) (pass_done rows state list report none)

  -- what is left in a listed row
  pub left_at_lem : (i : ℕ) → i < length list
      → row_at (rows_left rows state list report) (listed_row list i) ≡ left_by (finding_at rows state list i) (row_at rows (listed_row list i))
  left_at_lem i below = rw left_rows (listed_leaves rows state list let_through.1 let_through.0 i below)

-- a row is mended, and counted as one
counted : (found : Found) → pulses_by found ≡ (if eqb (kind_of found) 1 then 1 else 0)
counted Clean = refl
counted (Mended bit) = refl
counted Worn = refl
counted Damaged = refl
counted NotPermitted = refl

all_counted : (rows : List ℕ) (state : State) (list : List ℕ) → mending_pulses (looks rows state list) ≡ mended_of rows state list
unfolding looks mending_pulses mended_of
all_counted rows state [] = refl
all_counted rows state (row ∷ others) = ap₂ ◌+◌ (counted (found_of (may_write state 0 row) (row_at rows row))) (all_counted rows state others)

pub repair_answers : RepairAnswers
repair_answers rows state list report done =
    rw (pass_done rows state list report (none rows state list report done)) (refl, refl, refl, refl, all_counted rows state list)

pub report_says : ReportSays
report_says rows state list report done =
    rw (pass_done rows state list report (none rows state list report done)) (
      length_report rows state list report 0,
      entry_at_lem rows state list report (let_through rows state list report done).2,
      λ place past. entry_stays rows state list report 0 place (λ from. omega (arith, past)),
    )

-- what is not mended stays
unmended : (found : Found) (held : ℕ) → ((bit : ℕ) → found ≡ Mended bit → ⊥) → left_by found held ≡ held
unmended Clean held other = refl
unmended (Mended bit) held other = absurd (other bit refl)
unmended Worn held other = refl
unmended Damaged held other = refl
unmended NotPermitted held other = refl

pub only_mended_alter : OnlyMendedAlter
only_mended_alter rows state list report done = (long, stays, alters)
  where
    long : length (rows_left rows state list report) ≡ 4096
    long = ap length (left_rows rows state list report done) ∙ length_mended rows state list rows ∙ (let_through rows state list report done).0

    stays : (row : ℕ) → (MendedRow rows state list row → ⊥) → row_at (rows_left rows state list report) row ≡ row_at rows row
    stays row other = go (listed_or_not list row)
      where
        go : ((i : ℕ) × AtPlace list row i) ⊎ Unlisted list row → row_at (rows_left rows state list report) row ≡ row_at rows row
        go (inl (i, (below, at))) =
            ap (row_at (rows_left rows state list report)) (sym at) ∙ left_at_lem rows state list report done i below
            ∙ unmended (finding_at rows state list i) (row_at rows (listed_row list i)) (λ bit is. other (i, bit, below, at, is)) ∙ ap (row_at rows) at
        go (inr apart) = rw (left_rows rows state list report done) (unlisted_stays rows state list rows row apart)

    alters : (i bit : ℕ) → i < length list → finding_at rows state list i ≡ Mended bit
        → OneBitMore bit (row_at rows (listed_row list i)) (row_at (rows_left rows state list report) (listed_row list i))
    alters i bit below is =
        rw (left_at_lem rows state list report done i below, is) (mended_reads (may_write state 0 (listed_row list i)) (row_at rows (listed_row list i)) bit is).1

pub mended_rows_read_clean : MendedRowsReadClean
mended_rows_read_clean rows state list report i bit done below is =
    rw (left_at_lem rows state list report done i below, is) (mended_reads (may_write state 0 (listed_row list i)) (row_at rows (listed_row list i)) bit is).2

pub repair_no_room : RepairNoRoom
repair_no_room rows state list report a b left left' entries entries' (oa, la, ea) (ob, lb, eb) = (oa ∙ sym ob, la ∙ sym lb, ea ∙ sym eb)
