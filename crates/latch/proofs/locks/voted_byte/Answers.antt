-- `latch::locks::voted_byte` meets its contract.
-- Assumes nothing.
use Rattle.latch.proofs.Majority.{voted_byte_lem}
use Rattle.latch.proofs.locks.voted_byte.Goals as goal

pub returns : goal.returns
returns c = voted_byte_lem c.args.row
