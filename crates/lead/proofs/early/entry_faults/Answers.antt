-- `lead::early::entry_faults` meets its contract. The invariant: the entries that are left have the first fault of the whole.
-- Assumes nothing.
use Rattle.std.proofs.Common.{◌≡◌, ℕ, ◌+◌, ◌-◌, sym, ap, ◌∙◌, rules}
use Rattle.form.specs.Entries.{entries_from}
use Rattle.form.specs.Faults.{Fault, ◌otherwise◌, form_fault, row_fault}
use Rattle.form.specs.Said.{found}
use Rattle.form.specs.declared.entries.Entry.{Entry}
use Rattle.lead.specs.Early.{entry_faults}
use Rattle.lead.specs.Notes.{so_far}
use Rattle.lead.proofs.InTurn.{entry_stops, entry_goes_on, none_left}
use Rattle.lead.proofs.early.entry_faults.Goals as goal

-- the fault of the entry at hand
abbrev own : ℕ → ℕ → ℕ → Entry → Fault
own version i least e = form_fault i e otherwise row_fault version i least e

pub returns-in_err-entry_fault : goal.returns-in_err-entry_fault
returns-in_err-entry_fault c =
    let l = c.loop-i in
    let file = c.args.file.now in
    let job = so_far file.area.now file.note in
    let fault = c.in_err-entry_fault.field-0.0 in
    let whole : entry_faults c.args.version file.begun.index file.note.least (entries_from job file.begun.index (c.args.last - file.begun.index)) ≡ found fault =
    l.invariant
    ∙ entry_stops job c.args.last l.i c.loop-i-test.true c.args.version l.least fault (c.in_err-entry_fault.ensures ∙ ap (own c.args.version l.i l.least) c.entry-entry.ensures) in
    search rules

pub loop-i-preserved : goal.loop-i-preserved
loop-i-preserved c =
    let l = c.loop-i in
    let job = so_far c.args.file.now.area.now c.args.file.now.note in
    let read = c.entry-entry.ensures in
    l.invariant
    ∙ entry_goes_on job c.args.last l.i c.loop-i-test.true c.args.version l.least (c.in_ok-entry_fault.ensures ∙ ap (own c.args.version l.i l.least) read)
    ∙ ap (λ (e : Entry). entry_faults c.args.version (l.i + 1) (e.row + 1) (entries_from job (l.i + 1) (c.args.last - (l.i + 1)))) (sym read)

pub returns : goal.returns
returns c =
    let l = c.loop-i in
    sym (l.invariant ∙ none_left (so_far c.args.file.now.area.now c.args.file.now.note) c.args.last l.i c.args.version l.least c.loop-i-test.false)
