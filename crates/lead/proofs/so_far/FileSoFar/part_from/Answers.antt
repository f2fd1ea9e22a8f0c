-- `lead::so_far::FileSoFar::part_from` meets its contract: at each place stands what the rule gives there.
use Rattle.std.proofs.Common.{rules}
use Rattle.chip.proofs.Made.{made_by}
use Rattle.lead.specs.Notes.{so_far, part_byte}
use Rattle.lead.proofs.so_far.FileSoFar.part_from.Goals as goal

pub returns : goal.returns
returns c =
    let file = c.args.self.now in
    made_by _ _ (part_byte (so_far file.area.now file.note) c.args.at c.args.bytes) 8 c.from_fn.result 0 (λ i x f' h k. (search rules, search rules)) c.from_fn.ensures.items
