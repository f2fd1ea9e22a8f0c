-- The lines that are left lead to the end that all of them lead to, and keep what all of them keep.
use Rattle.std.proofs.Common.{◌≡◌, ◌-◌, ◌≤◌}
use Rattle.text.specs.Jobs.{begun, most_lines}
use Rattle.text.specs.Readings.{going, walk, walk_puts}
use Rattle.text.proofs.reading.read.Given as goal

abbrev pub invariant-loop : goal.invariant-loop
invariant-loop g l = record {
  lines : l.reading.line ≤ l.counter;
  counted : l.reading.count ≤ l.counter;
  ends : walk g.K.Kept.by most_lines l.text l.most begun ≡ walk g.K.Kept.by (most_lines - l.counter) l.text l.most (going l.reading);
  puts : walk_puts g.K.Kept.by g.K.Kept.puts most_lines l.text l.most begun l.fn.kept
      ≡ walk_puts g.K.Kept.by g.K.Kept.puts (most_lines - l.counter) l.text l.most (going l.reading) l.kept;
}
