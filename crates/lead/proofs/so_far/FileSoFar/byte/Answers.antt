-- A file so far is read byte by byte: the bytes of the entry begun are those of the note, and all others the area's.
use Rattle.std.proofs.Common.{◌+◌, ◌-◌, ◌*◌, sym, ◌∙◌, inl, inr, arith}
use Rattle.lead.proofs.SoFar.{byte_of_note, byte_of_area}
use Rattle.lead.proofs.so_far.FileSoFar.byte.Goals as goal
use Rattle.lead.proofs.so_far.FileSoFar.byte.Goals.{then-at-first-via-then-at-first, then-at-first-via-else-at-first+then-first-self}

pub returns-then-at-first-clause-value : goal.returns-then-at-first-clause-value
returns-then-at-first-clause-value c =
    let file = c.args.self.now in
    let from_area = byte_of_area file.area.now file.note file.room file.begun file.before c.args.at in
    c.byte_at.ensures.value
    ∙ sym
    (from_area
    (elim c.then-at-first.branch [
      | then-at-first-via-then-at-first w ↦ inl w.if-at-first.true
      | then-at-first-via-else-at-first+then-first-self w ↦ inr w.if-first-self.true
    ]))

pub returns-clause-value : goal.returns-clause-value
returns-clause-value c =
    let file = c.args.self.now in
    let i = c.args.at - (7 + 6 * file.begun.index) in
    c.part_at.ensures.value
    ∙ sym (byte_of_note file.area.now file.note file.room file.begun file.before c.args.at i c.part_at.ensures.upper_bound.1 (omega arith) (omega arith))
