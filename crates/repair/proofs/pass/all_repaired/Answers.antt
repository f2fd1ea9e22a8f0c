-- `repair::pass::all_repaired`: one row more is mended, counted and reported.
use Rattle.std.proofs.Common.{ℕ, length, get_or, ap, ◌∙◌, arith, length-set}
use Rattle.repair.proofs.Ahead.{step_ahead, all_ahead}
use Rattle.repair.proofs.Bits.{found_low, one_pulse}
use Rattle.repair.proofs.Rising.{each_row}
use Rattle.repair.proofs.SecurePages.{looked_up}
use Rattle.repair.proofs.pass.all_repaired.Goals as goal

pub report_entry-requires : goal.report_entry-requires
report_entry-requires c = rw c.repair_row-found.ensures.0 (found_low _ _)

pub overflow_add-pulses : goal.overflow_add-pulses
overflow_add-pulses c =
    let l = c.loop-i in
    omega (arith, one_pulse c.repair_row-found.result, each_row 0 c.args.list.now c.requires.list_value l.i (omega arith))

pub loop-i-preserved : goal.loop-i-preserved
loop-i-preserved c =
    let s = c.args in
    let l = c.loop-i in
    let row : ℕ = get_or s.list.now l.i 0 in
    let order = c.requires.list_value in
    let low = (each_row 0 s.list.now order l.i (omega arith)).0 in
    let repaired = c.repair_row-found.ensures in (
      omega (arith, one_pulse c.repair_row-found.result),
      ap length repaired.1 ∙ length-set l.rows _ _ ∙ l.invariant.1,
      ap length repaired.2 ∙ length-set l.tallies _ _ ∙ l.invariant.2,
      length-set l.report _ _ ∙ l.invariant.3,
      λ state is.
          step_ahead s.rows.now s.tallies.now state s.list.now s.report.now order l.i (omega arith)
          l.rows l.tallies l.report _ _ l.pulses _ _ _ _ (l.invariant.4 state is)
          (looked_up s.pages.now state row c.writable.result is low c.writable.ensures)
          repaired c.report_entry.ensures c.pulses-pulses.ensures,
    )

pub returns : goal.returns
returns c = λ state is.
    let s = c.args in
    let l = c.loop-i in
    all_ahead s.rows.now s.tallies.now state s.list.now s.report.now l.rows l.tallies l.report l.pulses l.i (omega arith) (l.invariant.4 state is)
