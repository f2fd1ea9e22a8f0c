-- `job::burning::name_rest` meets its contract. The invariant: what is counted so far, ahead of what is left, is all.
use mathlib.Core.Path.{◌≡◌}
use Prim.Native.Nat.{◌-◌}
use lib.ListN.{length}
use Rattle.chip.specs.Tallies.{with_gains}
use Rattle.form.specs.Entries.{entries_from}
use Rattle.job.specs.Burning.{cut_gained}
use Rattle.job.proofs.burning.name_rest.Given as goal

abbrev pub invariant-loop-i : goal.invariant-loop-i
invariant-loop-i l =
    (length l.tallies ≡ length l.initial.tallies)
    × (with_gains l.initial.tallies (cut_gained 0 (entries_from l.job l.first (l.count - l.first))) ≡ with_gains l.tallies (cut_gained 0 (entries_from l.job l.i (l.count - l.i))))
