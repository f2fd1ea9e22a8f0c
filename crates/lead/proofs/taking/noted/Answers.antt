-- `lead::taking::noted` meets its contract: no entry ended, or some did.
use Rattle.lead.proofs.Noting.{within_left, ended_left}
use Rattle.lead.proofs.taking.noted.Goals as goal

pub returns-then-file-ended : goal.returns-then-file-ended
returns-then-file-ended c =
    let file = c.args.file.now in
    within_left file.area.now file.note c.args.chunk.now file.room file.begun file.before _ _ _ _ _
    c.start-start.ensures c.stop-stop.ensures c.count_of-count.ensures.value c.ended_in-ended.ensures c.begun_in.ensures c.if-start-stop.false
    c.if-file-ended.true _ c.part_from-part.ensures

pub returns : goal.returns
returns c =
    let file = c.args.file.now in
    ended_left file.area.now file.note c.args.chunk.now file.room file.begun file.before _ _ _ _ _
    c.start-start.ensures c.stop-stop.ensures c.count_of-count.ensures.value c.ended_in-ended.ensures c.begun_in.ensures c.if-start-stop.false
    c.if-file-ended.false _ c.part_from-part.ensures _ c.above-least.ensures
