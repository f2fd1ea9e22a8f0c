-- `lead::early::entry_faults` meets its contract. The invariant: the entries that are left have the first fault of the whole.
use Rattle.std.proofs.Common.{◌≡◌, ◌-◌}
use Rattle.form.specs.Entries.{entries_from}
use Rattle.lead.specs.Early.{entry_faults}
use Rattle.lead.specs.Notes.{so_far}
use Rattle.lead.proofs.early.entry_faults.Given as goal

abbrev pub invariant-loop-i : goal.invariant-loop-i
invariant-loop-i l =
    entry_faults l.version l.file.begun.index l.file.note.least (entries_from (so_far l.file.area.now l.file.note) l.file.begun.index (l.last - l.file.begun.index))
    ≡ entry_faults l.version l.i l.least (entries_from (so_far l.file.area.now l.file.note) l.i (l.last - l.i))
