-- Each entry that the reader hands over brings it nearer to the end of the bytes.
use Rattle.std.proofs.Common.{◌-◌, length}
use Rattle.looking.proofs.list.lines.Given as goal

abbrev pub decreases-loop-entry : goal.decreases-loop-entry
decreases-loop-entry l = length l.job - l.at
