-- `lead::so_far::FileSoFar::entry` meets its contract.
use Rattle.std.proofs.Common.{ℕ, List, sym, ap, ◌∙◌}
use Rattle.form.specs.Entries.{entry_from}
use Rattle.lead.specs.Notes.{so_far}
use Rattle.lead.proofs.SoFar.{entry_of_area, entry_taken}
use Rattle.lead.proofs.so_far.FileSoFar.entry.Goals as goal

pub returns-then-i-self : goal.returns-then-i-self
returns-then-i-self c =
    let file = c.args.self.now in
    c.entry_at.ensures ∙ sym (entry_of_area file.area.now file.note file.room file.begun file.before c.args.i c.if-i-self.true)

pub returns : goal.returns
returns c =
    let file = c.args.self.now in
    c.first_entry.ensures
    ∙ ap (λ (part : List ℕ). entry_from part 0) c.part_from.ensures
    ∙ entry_taken (so_far file.area.now file.note) c.args.i
