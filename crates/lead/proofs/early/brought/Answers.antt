-- `lead::early::brought` meets its contract: the head, then the entries, then a byte past them.
use Rattle.std.proofs.Common.{◌≡◌, sym, ◌∙◌, rules}
use Rattle.form.specs.Said.{found}
use Rattle.lead.specs.Early.{brought}
use Rattle.lead.specs.Notes.{start_of, so_far}
use Rattle.lead.proofs.Heads.{head_stops, entries_stop, past_answers}
use Rattle.lead.proofs.early.brought.Goals as goal

pub returns-in_err-head_fault : goal.returns-in_err-head_fault
returns-in_err-head_fault c =
    let file = c.args.file.now in
    let fault = c.in_err-head_fault.field-0.0 in
    let head = rw c.start-start.ensures at c.in_err-head_fault.ensures in
    let whole : brought file.note.least (so_far file.area.now file.note) (start_of file.note) c.args.stop ≡ found fault =
    head_stops file.area.now file.note file.room file.note.least (start_of file.note) c.args.stop fault head in
    search rules

pub returns-in_err-entry_faults : goal.returns-in_err-entry_faults
returns-in_err-entry_faults c =
    let file = c.args.file.now in
    let fault = c.in_err-entry_faults.field-0.0 in
    let head = rw c.start-start.ensures at c.in_ok-head_fault.ensures in
    let entries = rw (c.rule_of.ensures, c.ended_in.ensures, c.count_of-count.ensures.value, file.before) at c.in_err-entry_faults.ensures in
    let whole : brought file.note.least (so_far file.area.now file.note) (start_of file.note) c.args.stop ≡ found fault =
    entries_stop file.area.now file.note file.room file.note.least (start_of file.note) c.args.stop head fault entries in
    search rules

pub returns : goal.returns
returns c =
    let file = c.args.file.now in
    let head = rw c.start-start.ensures at c.in_ok-head_fault.ensures in
    let entries = rw (c.rule_of.ensures, c.ended_in.ensures, c.count_of-count.ensures.value, file.before) at c.in_ok-entry_faults.ensures in
    (rw c.count_of-count.ensures.value at c.past_brought.ensures)
    ∙ sym (past_answers file.area.now file.note file.room file.note.least (start_of file.note) c.args.stop head entries)
