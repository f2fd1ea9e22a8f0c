-- `job::burning::rehearsed` meets its contract. The invariant: what was burnt and counted already, ahead of what is left, is the whole.
use mathlib.Core.Path.{◌≡◌}
use Prim.Native.Nat.{◌-◌, ◌≤◌}
use lib.ListN.{length}
use Rattle.form.specs.Entries.{entries_from}
use Rattle.job.specs.Burning.{rehearsed}
use Rattle.job.proofs.Ahead.{Ahead}
use Rattle.job.proofs.burning.rehearsed.Given as goal

abbrev pub invariant-loop-i : goal.invariant-loop-i
invariant-loop-i l =
    (l.unspent ≤ l.limit) × (length l.rows ≡ length l.initial.rows) × (length l.tallies ≡ length l.initial.tallies)
    × Ahead l.initial.tallies (rehearsed l.initial.rows l.limit (entries_from l.job 0 l.count)) l.tallies (l.limit - l.unspent) l.i (rehearsed l.rows l.unspent (entries_from l.job l.i (l.count - l.i)))
