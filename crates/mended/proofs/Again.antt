-- The same list over rows that each are as they were or as the pass left them: the pass is done, and ends in the same rows.
-- Assumes nothing.
use mathlib.Core.Bool.{Bool, true, false, and-eq-true_iff}
use mathlib.Core.List.{List, [], ◌∷◌}
use mathlib.Core.Logic.{◌⊎◌, inl, inr}
use mathlib.Core.Path.{◌≡◌, sym, ap, ◌∙◌}
use Prim.Native.Nat.{ℕ, zero, suc, ◌^◌, ◌≤◌, ◌<◌}
use native.Mathlib.Omega.{arith}
use borrow.Author.Tests.{eq-eqb, le-ltb, leb-true}
use lib.Bits.{or_lt}
use lib.Dec.{leb}
use lib.ListN.{length}
use lib.Pow.{pow-lt}
use lib.Seq.{ext_get_or}
use Rattle.permit.specs.Permission.{may_write}
use Rattle.chip.specs.Slices.{row_at}
use Rattle.chip.specs.declared.state.State.{State}
use Rattle.latch.specs.Resetting.{all_in_range, reset_number}
use Rattle.repair.specs.Finding.{found_of, bit_of, left_by}
use Rattle.repair.specs.Pass.{out_of_order, some_too_large, looks, mended_rows}
use Rattle.repair.specs.declared.finding.Found.{Found}
use Rattle.repair.specs.declared.finding.Found.TheVariants.{Clean, Mended, Worn, Damaged, NotPermitted}
use Rattle.repair.proofs.Bits.{found_low}
use Rattle.repair.proofs.Passing.{pass_number}
use Rattle.repair.proofs.Rising.{each_row}
use Rattle.repair.proofs.Turns.{in_turn_lem}
use Rattle.laws.proofs.Latches.{reset_passed, reset_done}
use Rattle.cuts.specs.Cuts.{Keyed, ready}
use Rattle.cuts.proofs.Agreement.{AgreeToWrite}
use Rattle.cuts.proofs.Ranges.{range_set}
use Rattle.cuts.proofs.Ready.{ready_agree}
use Rattle.mended.specs.Passes.{listed_row, finding_at, Done, rows_left}
use Rattle.mended.proofs.Listed.{AtPlace, Unlisted, listed_or_not, length_mended, unlisted_stays, small_at, none_large}
use Rattle.mended.proofs.Passes.{let_through, left_rows, left_at_lem}
use Rattle.mended.proofs.Rows.{found_next_lem, next_keeps}

-- ---- what is left in a row is a row

left_small : (found : Found) (held : ℕ) → bit_of found < 24 → held ≤ 16777215 → left_by found held ≤ 16777215
left_small Clean held low small = small
left_small (Mended bit) held low small = omega (arith, or_lt 24 held (2 ^ bit) (omega (arith, small)) (pow-lt low))
left_small Worn held low small = small
left_small Damaged held low small = small
left_small NotPermitted held low small = small

-- ---- a pass, and rows between its first and its last

module _ (rows : List ℕ) (state : State) (list report : List ℕ) (done : Done rows state list report) where
  abbrev after : List ℕ
  after = rows_left rows state list report

  abbrev by : (length rows ≡ 4096) × (out_of_order 0 list ≡ false) × (length list ≤ length report) × (some_too_large rows state list ≡ false)
  by = let_through rows state list report done

  pub stays_unlisted : (k : ℕ) → Unlisted list k → row_at after k ≡ row_at rows k
  stays_unlisted k apart = rw (left_rows rows state list report done) (unlisted_stays rows state list rows k apart)

  -- each row is as it was, or as the pass left it
  abbrev pub Between : List ℕ → Type 0
  Between left = (length left ≡ 4096) × ((k : ℕ) → (row_at left k ≡ row_at rows k) ⊎ (row_at left k ≡ row_at after k))

  module _ (left : List ℕ) (later : State) (between : Between left) (agree : AgreeToWrite 0 later state) where
    -- a listed row: what is found of it now leaves it as the pass did
    same_left : (i : ℕ) → i < length list
        → left_by (finding_at left later list i) (row_at left (listed_row list i)) ≡ left_by (finding_at rows state list i) (row_at rows (listed_row list i))
    same_left i below = rw (agree (listed_row list i)) (go (between.1 (listed_row list i)))
      where
        row : ℕ
        row = listed_row list i

        may : Bool
        may = may_write state 0 row

        leaves : ℕ → ℕ
        leaves held = left_by (found_of may held) held

        go : (row_at left row ≡ row_at rows row) ⊎ (row_at left row ≡ row_at after row) → leaves (row_at left row) ≡ leaves (row_at rows row)
        go (inl same) = ap leaves same
        go (inr same) =
            ap leaves (same ∙ left_at_lem rows state list report done i below)
            ∙ ap (λ (f : Found). left_by f (leaves (row_at rows row))) (found_next_lem may (row_at rows row)) ∙ next_keeps (found_of may (row_at rows row)) (leaves (row_at rows row))

    still_small : (i : ℕ) → i < length list → may_write later 0 (listed_row list i) ≡ true → row_at left (listed_row list i) ≤ 16777215
    still_small i below may = go (between.1 row)
      where
        row : ℕ
        row = listed_row list i

        small : row_at rows row ≤ 16777215
        small = small_at rows state list by.3 i below (sym (agree row) ∙ may)

        go : (row_at left row ≡ row_at rows row) ⊎ (row_at left row ≡ row_at after row) → row_at left row ≤ 16777215
        go (inl same) = rw same small
        go (inr same) =
            rw (same ∙ left_at_lem rows state list report done i below)
            (left_small (finding_at rows state list i) (row_at rows row) (found_low (may_write state 0 row) (row_at rows row)) small)

    pub done_again : (next : List ℕ) → length list ≤ length next → Done left later list next
    done_again next room =
        pass_number left later list next
        ∙ rw (eq-eqb (length left) 4096 between.0, by.1, le-ltb (length next) (length list) room, none_large left later list still_small)

    pub same_rows : (next : List ℕ) (room : length list ≤ length next) → rows_left left later list next ≡ after
    same_rows next room =
        ext_get_or 0 (rows_left left later list next) after (left_long ∙ sym after_long) (λ k below. at k (listed_or_not list k))
      where
        second : Done left later list next
        second = done_again next room

        left_long : length (rows_left left later list next) ≡ 4096
        left_long = ap length (left_rows left later list next second) ∙ length_mended left later list left ∙ between.0

        after_long : length after ≡ 4096
        after_long = ap length (left_rows rows state list report done) ∙ length_mended rows state list rows ∙ by.0

        held : (k : ℕ) → Unlisted list k → (row_at left k ≡ row_at rows k) ⊎ (row_at left k ≡ row_at after k) → row_at left k ≡ row_at after k
        held k apart (inl same) = same ∙ sym (stays_unlisted k apart)
        held k apart (inr same) = same

        at : (k : ℕ) → ((i : ℕ) × AtPlace list k i) ⊎ Unlisted list k → row_at (rows_left left later list next) k ≡ row_at after k
        at k (inl (i, (below, is))) =
            ap (row_at (rows_left left later list next)) (sym is) ∙ left_at_lem left later list next second i below ∙ same_left i below
            ∙ sym (left_at_lem rows state list report done i below) ∙ ap (row_at after) is
        at k (inr apart) =
            ap (λ (slice : List ℕ). row_at slice k) (left_rows left later list next second) ∙ unlisted_stays left later list left k apart
            ∙ held k apart (between.1 k)

  -- ---- a chip just reset

  -- rows from 0xf40 up are in no list
  pub high_stays : (k : ℕ) → 0xf40 ≤ k → row_at after k ≡ row_at rows k
  high_stays k high = stays_unlisted k (λ i below is. omega (arith, is, (each_row 0 list by.1 i below).0))

range_at : (rows : List ℕ) → all_in_range rows ≡ true → (k : ℕ) → row_at rows k ≤ 16777215
unfolding all_in_range
range_at [] small k = omega arith
range_at (row ∷ rows) small zero = leb-true row 16777215 ((and-eq-true_iff (leb row 16777215) (all_in_range rows)).0 small).0
range_at (row ∷ rows) small (suc k) = range_at rows ((and-eq-true_iff (leb row 16777215) (all_in_range rows)).0 small).1 k

-- a reset that was done is done over what a pass leaves
pub reset_again : (rows : List ℕ) (state : State) (list report : List ℕ) → Done rows state list report → reset_number rows ≡ 0
    → reset_number (rows_left rows state list report) ≡ 0
unfolding looks mended_rows
reset_again rows state list report done reset =
    let by = let_through rows state list report done in
    let range = (reset_passed rows reset).1 in
    rw (left_rows rows state list report done)
    (reset_done (mended_rows rows (looks rows state list)) (length_mended rows state list rows ∙ by.0)
    (in_turn_lem rows state InRange (λ held small. small)
    (λ held row others low still rest small.
    rest (range_set held row _ small (left_small (found_of (may_write state 0 row) (row_at rows row)) (row_at rows row) (found_low (may_write state 0 row) (row_at rows row)) (range_at rows range row))))
    list by.1 range))
  where
    InRange : List ℕ → List ℕ → Type 0
    InRange held left = all_in_range held ≡ true → all_in_range (mended_rows held (looks rows state left)) ≡ true

-- and leaves a state that judges as the first did
pub agree_again : (rows : List ℕ) (before later : State) (key : Keyed) (list report : List ℕ) → Done rows (ready rows before key) list report
    → reset_number rows ≡ 0 → AgreeToWrite 0 (ready (rows_left rows (ready rows before key) list report) later key) (ready rows before key)
agree_again rows before later key list report done reset =
    ready_agree rows (rows_left rows (ready rows before key) list report) before later key reset
    (reset_again rows (ready rows before key) list report done reset) (high_stays rows (ready rows before key) list report done)
