-- A second pass mends nothing, right after the first or after a reset.
-- Assumes nothing.
use mathlib.Core.List.{List}
use mathlib.Core.Logic.{inr}
use mathlib.Core.Path.{◌≡◌, refl, sym, ap, ap₂, ◌∙◌, subst}
use Prim.Native.Nat.{ℕ, ◌<◌}
use lib.ListN.{length}
use Rattle.chip.specs.Slices.{row_at}
use Rattle.chip.specs.declared.state.State.{State}
use Rattle.permit.specs.Permission.{may_write}
use Rattle.repair.specs.Finding.{found_of, report_entry}
use Rattle.repair.specs.Pass.{repair}
use Rattle.laws.specs.Calls.{a_repair, perform}
use Rattle.laws.specs.Promises.{Burns}
use Rattle.laws.specs.Writes.{newly_set}
use Rattle.laws.proofs.Between.{new_none}
use Rattle.laws.proofs.Burning.{burning_latches_nothing}
use Rattle.cuts.specs.Cuts.{ready}
use Rattle.cuts.proofs.Agreement.{AgreeToWrite, tallies_agree}
use Rattle.cuts.proofs.Pulses.{pulses_are_new_bits}
use Rattle.mended.specs.Passes.{listed_row, finding_at, Done, rows_left}
use Rattle.mended.specs.Second.{found_next, MendsNothing, SecondRightAfter, SecondAfterReset}
use Rattle.mended.proofs.Again.{Between, done_again, same_rows, reset_again, agree_again}
use Rattle.mended.proofs.Passes.{left_at_lem, report_says, only_mended_alter}
use Rattle.mended.proofs.Rows.{found_next_lem}

-- the pulses of a done pass are the bits newly set
pub pass_pulses : (rows : List ℕ) (state : State) (list report : List ℕ) → Done rows state list report
    → (repair rows state list report).left.outcome.answer.pulses ≡ newly_set rows (rows_left rows state list report)
unfolding perform
pass_pulses rows state list report done =
    pulses_are_new_bits (record { rows = rows; state = state }) (a_repair list report) Burns.repaired done

-- by any later state under which Secure may write the same
mends_nothing : (rows : List ℕ) (state later : State) (list report : List ℕ) → Done rows state list report → AgreeToWrite 0 later state
    → MendsNothing rows state later list report
mends_nothing rows state later list report done agree next room = (
  second,
  pass_pulses after later list next second ∙ ap (newly_set after) same ∙ new_none after,
  same,
  λ i below. (report_says after later list next second).1 i below ∙ ap report_entry (found i below),
)
  where
    after : List ℕ
    after = rows_left rows state list report

    between : Between rows state list report done after
    between = ((only_mended_alter rows state list report done).0, λ k. inr refl)

    second : Done after later list next
    second = done_again rows state list report done after later between agree next room

    same : rows_left after later list next ≡ after
    same = same_rows rows state list report done after later between agree next room

    found : (i : ℕ) → i < length list → finding_at after later list i ≡ found_next (finding_at rows state list i)
    found i below =
        ap₂ found_of (agree (listed_row list i)) (left_at_lem rows state list report done i below)
        ∙ found_next_lem (may_write state 0 (listed_row list i)) (row_at rows (listed_row list i))

pub second_right_after : SecondRightAfter
unfolding perform
second_right_after rows state list report done =
    mends_nothing rows state _ list report done
    (subst (λ (s : State). AgreeToWrite 0 s state) (sym (burning_latches_nothing (record { rows = rows; state = state }) (a_repair list report) Burns.repaired))
    (tallies_agree state _ 0))

pub second_after_reset : SecondAfterReset
second_after_reset rows before later key list report reset done = (
  reset_again rows (ready rows before key) list report done reset,
  mends_nothing rows (ready rows before key) _ list report done (agree_again rows before later key list report done reset),
)
