-- `form::faults::form_faults` meets its contract. The invariant: the entries that are left have the first fault of the whole.
-- Assumes nothing.
use Rattle.std.proofs.Common.{◌≡◌, ap, ◌∙◌, arith, rules}
use Rattle.form.specs.Entries.{count_of, entries_of}
use Rattle.form.specs.Faults.{form_fault, form_faults}
use Rattle.form.specs.Said.{found}
use Rattle.form.proofs.Judged.{form_stops}
use Rattle.form.proofs.faults.form_faults.Goals as goal

pub returns-in_err-form_fault : goal.returns-in_err-form_fault
returns-in_err-form_fault c =
    let s = c.args in
    let l = c.loop-i in
    let fault = c.in_err-form_fault.field-0.0 in
    let whole : form_faults 0 (entries_of s.job.now) ≡ found fault =
    l.invariant ∙ form_stops s.job.now (count_of s.job.now) l.i (omega arith) fault (c.in_err-form_fault.ensures ∙ ap (form_fault l.i) c.entry_at.ensures) in
    search rules
