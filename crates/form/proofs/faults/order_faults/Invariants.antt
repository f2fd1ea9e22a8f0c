-- `form::faults::order_faults` meets its contract. The invariant: the entries that are left have the first fault of the whole.
use mathlib.Core.Path.{◌≡◌}
use Prim.Native.Nat.{◌-◌}
use Rattle.form.specs.Entries.{count_of, entries_from, entries_of}
use Rattle.form.specs.Faults.{order_faults}
use Rattle.form.proofs.faults.order_faults.Given as goal

abbrev pub invariant-loop-i : goal.invariant-loop-i
invariant-loop-i l =
    order_faults l.version 0 0 (entries_of l.job) ≡ order_faults l.version l.i l.least (entries_from l.job l.i (count_of l.job - l.i))
