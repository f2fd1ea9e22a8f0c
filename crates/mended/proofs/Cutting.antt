-- A pass that is cut: what a cut leaves are the rows of a shorter pass, and after a reset the pass ends as the uncut one.
-- Assumes nothing.
use mathlib.Core.Bool.{Bool, true, false}
use mathlib.Core.List.{List, [], ◌∷◌}
use mathlib.Core.Logic.{◌⊎◌, inl, inr}
use mathlib.Core.Path.{◌≡◌, refl, sym, ap, ◌∙◌, subst}
use Prim.Native.Nat.{ℕ, zero, suc, ◌+◌, ◌≤◌, ◌<◌, zero-le, suc-le-suc}
use native.Mathlib.Nat.{zero-add, add_assoc}
use native.Mathlib.Omega.{arith}
use borrow.Author.Tests.{eq-eqb, le-ltb, lt-leb}
use lib.ListN.{length, get_or, take, set}
use lib.Seq.{set-get_or, get_or-set_other, get_or-take, length-take-le}
use Rattle.permit.specs.Permission.{may_write}
use Rattle.chip.specs.Slices.{row_at}
use Rattle.chip.specs.declared.state.State.{State}
use Rattle.latch.specs.Resetting.{reset_number}
use Rattle.repair.specs.Finding.{found_of, left_by}
use Rattle.repair.specs.Pass.{out_of_order, some_too_large, looks, mended_rows, repair}
use Rattle.repair.specs.declared.finding.Found.{Found}
use Rattle.repair.specs.declared.finding.Found.TheVariants.{Clean, Mended, Worn, Damaged, NotPermitted}
use Rattle.repair.proofs.Passing.{pass_number}
use Rattle.repair.proofs.Rising.{first_row_lem}
use Rattle.laws.specs.Votes.{EachIn}
use Rattle.laws.specs.Writes.{In, newly_set}
use Rattle.laws.proofs.Between.{in_both, new_through}
use Rattle.laws.proofs.Burning.{mended_in}
use Rattle.cuts.specs.Cuts.{Keyed, ready}
use Rattle.cuts.proofs.Agreement.{AgreeToWrite}
use Rattle.cuts.proofs.Ready.{ready_agree}
use Rattle.mended.specs.Passes.{Done, rows_left}
use Rattle.mended.specs.Cutting.{PassCut, CutIsShorter, PassCuts, PassCutPower}
use Rattle.mended.proofs.Again.{Between, stays_unlisted, done_again, same_rows, high_stays, reset_again}
use Rattle.mended.proofs.Bits.{one_of_two}
use Rattle.mended.proofs.Listed.{AtPlace, Unlisted, listed_or_not, left_at, small_at, none_large}
use Rattle.mended.proofs.Passes.{let_through, left_rows, left_at_lem, only_mended_alter}
use Rattle.mended.proofs.Rows.{mended_reads}
use Rattle.mended.proofs.Second.{pass_pulses}

-- ---- a row that is cut is as it was, or as it is left

row_cut : (may : Bool) (held row : ℕ) → In held row → In row (left_by (found_of may held) held) → (row ≡ held) ⊎ (row ≡ left_by (found_of may held) held)
row_cut may held row over = go (found_of may held) refl
  where
    go : (found : Found) → found_of may held ≡ found → In row (left_by found held) → (row ≡ held) ⊎ (row ≡ left_by found held)
    go Clean is under = inl (in_both row held under over)
    go (Mended bit) is under = one_of_two held row bit (mended_reads may held bit is).1.0 over under
    go Worn is under = inl (in_both row held under over)
    go Damaged is under = inl (in_both row held under over)
    go NotPermitted is under = inl (in_both row held under over)

-- ---- what a cut leaves

module _ (rows₀ : List ℕ) (state : State) where
  abbrev Shorter : List ℕ → List ℕ → List ℕ → Type 0
  Shorter rows list left = (n : ℕ) × (n ≤ length list) × (left ≡ mended_rows rows (looks rows₀ state (take n list)))

  shorter : (list rows left : List ℕ) (least : ℕ) → out_of_order least list ≡ false → ((k : ℕ) → least ≤ k → row_at rows k ≡ row_at rows₀ k)
      → PassCut rows (looks rows₀ state list) left → Shorter rows list left
  unfolding looks mended_rows
  shorter [] rows left least order unmoved PassCut.at_end = (0, zero-le, refl)
  shorter (row ∷ others) rows left least order unmoved (PassCut.within cut over under) =
      go (row_cut (may_write state 0 row) (row_at rows₀ row) cut over under)
    where
      go : (cut ≡ row_at rows₀ row) ⊎ (cut ≡ left_at rows₀ state row) → Shorter rows (row ∷ others) (set rows row cut)
      go (inl held) =
          let still : row_at rows row ≡ row_at rows₀ row = unmoved row (first_row_lem least row others order).1 in
          (0, zero-le, ap (set rows row) (held ∙ sym still) ∙ set-get_or rows row 0)
      go (inr finished) = (1, suc-le-suc zero-le, ap (set rows row) finished)
  shorter (row ∷ others) rows left least order unmoved (PassCut.past cut) =
      let first = first_row_lem least row others order in
      let rest = shorter others (set rows row (left_at rows₀ state row)) left (row + 1) first.2
      (λ k above. get_or-set_other rows row k _ 0 (λ same. omega (arith, same, above)) ∙ unmoved k (omega (arith, first.1, above))) cut in
      (suc rest.0, suc-le-suc rest.1, rest.2)

-- the first rows of a list in order are in order
order_take : (least : ℕ) (list : List ℕ) (n : ℕ) → out_of_order least list ≡ false → out_of_order least (take n list) ≡ false
unfolding out_of_order
order_take least list zero order = refl
order_take least [] (suc n) order = refl
order_take least (row ∷ others) (suc n) order =
    let first = first_row_lem least row others order in
    rw (lt-leb 0xf40 row first.0, le-ltb row least first.1) (order_take (row + 1) others n first.2)

pub cut_is_shorter : CutIsShorter
cut_is_shorter rows left state list report done cut = (n, few, done_short, found.2 ∙ sym (left_rows rows state (take n list) report done_short))
  where
    by : (length rows ≡ 4096) × (out_of_order 0 list ≡ false) × (length list ≤ length report) × (some_too_large rows state list ≡ false)
    by = let_through rows state list report done

    found : Shorter rows state rows list left
    found = shorter rows state list rows left 0 by.1 (λ k above. refl) cut

    n : ℕ
    n = found.0

    few : n ≤ length list
    few = found.1

    long : length (take n list) ≡ n
    long = length-take-le n list few

    small : (i : ℕ) → i < length (take n list) → may_write state 0 (get_or (take n list) i 0) ≡ true → row_at rows (get_or (take n list) i 0) ≤ 16777215
    small i below =
        rw (get_or-take n list i 0 (omega (arith, below, long))) (small_at rows state list by.3 i (omega (arith, below, long, few)))

    done_short : Done rows state (take n list) report
    done_short =
        pass_number rows state (take n list) report
        ∙ rw (
          eq-eqb (length rows) 4096 by.0,
          order_take 0 list n by.1,
          le-ltb (length report) (length (take n list)) (omega (arith, by.2, long, few)),
          none_large rows state (take n list) small,
        )

-- each of its rows is as it was, or as the whole pass leaves it
shorter_between : (rows : List ℕ) (state : State) (list report : List ℕ) (done : Done rows state list report) (n : ℕ) → n ≤ length list
    → Done rows state (take n list) report → Between rows state list report done (rows_left rows state (take n list) report)
shorter_between rows state list report done n few done_short = ((only_mended_alter rows state (take n list) report done_short).0, λ k. at k (listed_or_not (take n list) k))
  where
    left : List ℕ
    left = rows_left rows state (take n list) report

    at : (k : ℕ) → ((i : ℕ) × AtPlace (take n list) k i) ⊎ Unlisted (take n list) k → (row_at left k ≡ row_at rows k) ⊎ (row_at left k ≡ row_at (rows_left rows state list report) k)
    at k (inr apart) = inl (stays_unlisted rows state (take n list) report done_short k apart)
    at k (inl (i, (below, is))) =
        let low : i < n = omega (arith, below, length-take-le n list few) in
        let same : get_or list i 0 ≡ k = sym (get_or-take n list i 0 low) ∙ is in
        inr (ap (row_at left) (sym is) ∙ left_at_lem rows state (take n list) report done_short i below
        ∙ ap (left_at rows state) (is ∙ sym same)
        ∙ sym (left_at_lem rows state list report done i (omega (arith, low, few))) ∙ ap (row_at (rows_left rows state list report)) same)

-- ---- after cuts

each_left : (rows : List ℕ) (state : State) (list report : List ℕ) → Done rows state list report → EachIn rows (rows_left rows state list report)
each_left rows state list report done =
    rw (left_rows rows state list report done) (mended_in rows state list (let_through rows state list report done).1)

-- the same pass by another state of the chip just reset, and the same key
module _ (rows : List ℕ) (before later : State) (key : Keyed) (list report : List ℕ) (reset : reset_number rows ≡ 0)
    (done : Done rows (ready rows before key) list report) where
  as_it_was : Between rows (ready rows before key) list report done rows
  as_it_was = ((let_through rows (ready rows before key) list report done).0, λ k. inl refl)

  agrees : AgreeToWrite 0 (ready rows later key) (ready rows before key)
  agrees = ready_agree rows rows before later key reset reset (λ k high. refl)

  pub other_done : (next : List ℕ) → length list ≤ length next → Done rows (ready rows later key) list next
  other_done = done_again rows (ready rows before key) list report done rows (ready rows later key) as_it_was agrees

  pub other_rows : (next : List ℕ) → length list ≤ length next
      → rows_left rows (ready rows later key) list next ≡ rows_left rows (ready rows before key) list report
  other_rows = same_rows rows (ready rows before key) list report done rows (ready rows later key) as_it_was agrees

-- what is promised once cuts have left some rows
abbrev Ends : List ℕ → List ℕ → State → State → Keyed → List ℕ → List ℕ → List ℕ → ℕ → Type 0
Ends rows left before later key list report next spent =
    (reset_number left ≡ 0)
    × Done left (ready left later key) list next
    × (rows_left left (ready left later key) list next ≡ rows_left rows (ready rows before key) list report)
    × (spent + (repair left (ready left later key) list next).left.outcome.answer.pulses
    ≡ (repair rows (ready rows before key) list report).left.outcome.answer.pulses)

module _ (key : Keyed) (list report next : List ℕ) (later : State) (room : length list ≤ length next) where
  uncut : (rows : List ℕ) (before : State) → reset_number rows ≡ 0 → Done rows (ready rows before key) list report
      → Ends rows rows before later key list report next 0
  uncut rows before reset done =
      let second = other_done rows before later key list report reset done next room in
      let same = other_rows rows before later key list report reset done next room in (
        reset,
        second,
        same,
        zero-add _ ∙ pass_pulses rows (ready rows later key) list next second ∙ ap (newly_set rows) same
            ∙ sym (pass_pulses rows (ready rows before key) list report done),
      )

  -- one cut, and what is promised from there on
  one_cut : (rows between left : List ℕ) (spent : ℕ) (before then : State) (reset : reset_number rows ≡ 0) (done : Done rows (ready rows before key) list report)
      → PassCut rows (looks rows (ready rows then key) list) between
      → ((resets : reset_number between ≡ 0) → Done between (ready between before key) list report → Ends between left before later key list report next spent)
      → Ends rows left before later key list report next (newly_set rows between + spent)
  one_cut rows between left spent before then reset done cut rest = (
    ended.0,
    ended.1,
    ended.2 ∙ onward ∙ same,
    add_assoc (newly_set rows between) spent _ ∙ ap (λ (n : ℕ). newly_set rows between + n) (ended.3 ∙ pass_pulses between now list report again)
        ∙ new_through (rw is (each_left rows state (take n list) report short.2)) (each_left between now list report again)
        ∙ ap (newly_set rows) (onward ∙ same) ∙ sym (pass_pulses rows (ready rows before key) list report done),
  )
    where
      state : State
      state = ready rows then key

      now : State
      now = ready between before key

      own_room : length list ≤ length report
      own_room = (let_through rows (ready rows before key) list report done).2

      first : Done rows state list report
      first = other_done rows before then key list report reset done report own_room

      same : rows_left rows state list report ≡ rows_left rows (ready rows before key) list report
      same = other_rows rows before then key list report reset done report own_room

      short : (n : ℕ) × (n ≤ length list) × Done rows state (take n list) report × (between ≡ rows_left rows state (take n list) report)
      short = cut_is_shorter rows between state list report first cut

      n : ℕ
      n = short.0

      is : between ≡ rows_left rows state (take n list) report
      is = short.3

      resets : reset_number between ≡ 0
      resets = rw is (reset_again rows state (take n list) report short.2 reset)

      lies : Between rows state list report first between
      lies = subst (Between rows state list report first) (sym is) (shorter_between rows state list report first n short.1 short.2)

      agree : AgreeToWrite 0 now state
      agree =
          ready_agree rows between then before key reset resets
          (λ k high. ap (λ (slice : List ℕ). row_at slice k) is ∙ high_stays rows state (take n list) report short.2 k high)

      again : Done between now list report
      again = done_again rows state list report first between now lies agree report own_room

      onward : rows_left between now list report ≡ rows_left rows state list report
      onward = same_rows rows state list report first between now lies agree report own_room

      ended : Ends between left before later key list report next spent
      ended = rest resets again

  pub ends : {rows left : List ℕ} {spent : ℕ} → PassCuts key list rows left spent → (before : State) → reset_number rows ≡ 0
      → Done rows (ready rows before key) list report → Ends rows left before later key list report next spent
  ends (PassCuts.none {rows}) before reset done = uncut rows before reset done
  ends (PassCuts.once {rows} {between} {left} {spent} then cut cuts) before reset done =
      one_cut rows between left spent before then reset done cut (λ resets again. ends cuts before resets again)

pub pass_cut_power : PassCutPower
pass_cut_power rows left before later key list report next spent reset done room cuts = ends key list report next later room cuts before reset done
