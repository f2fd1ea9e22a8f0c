-- `form::faults::order_faults` meets its contract. The invariant: the entries that are left have the first fault of the whole.
-- Assumes nothing.
use Rattle.std.proofs.Common.{◌≡◌, ap, ◌∙◌, arith, rules}
use Rattle.form.specs.Entries.{count_of, entries_of}
use Rattle.form.specs.Faults.{row_fault, order_faults}
use Rattle.form.specs.Said.{found}
use Rattle.form.proofs.Judged.{order_stops}
use Rattle.form.proofs.faults.order_faults.Goals as goal

pub returns-in_err-row_fault : goal.returns-in_err-row_fault
returns-in_err-row_fault c =
    let s = c.args in
    let l = c.loop-i in
    let fault = c.in_err-row_fault.field-0.0 in
    let whole : order_faults s.version 0 0 (entries_of s.job.now) ≡ found fault =
    l.invariant
    ∙ order_stops s.job.now (count_of s.job.now) l.i (omega arith) s.version l.least fault
    (c.in_err-row_fault.ensures ∙ ap (row_fault s.version l.i l.least) c.entry_at-entry.ensures) in
    search rules
