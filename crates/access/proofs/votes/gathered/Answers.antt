-- `access::votes::gathered`: one row more is gathered.
use Rattle.std.proofs.Common.{arith, length-set}
use Rattle.access.proofs.Upward.{gather_next}
use Rattle.access.proofs.votes.gathered.Goals as goal

pub loop-i-preserved : goal.loop-i-preserved
loop-i-preserved c =
    let l = c.loop-i in
    (simp length-set l.invariant.0, gather_next c.args.rows.now l.group c.args.row l.i (omega arith) (omega arith) l.invariant.1)
