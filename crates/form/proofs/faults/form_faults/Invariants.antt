-- `form::faults::form_faults` meets its contract. The invariant: the entries that are left have the first fault of the whole.
use mathlib.Core.Path.{◌≡◌}
use Prim.Native.Nat.{◌-◌}
use Rattle.form.specs.Entries.{count_of, entries_from, entries_of}
use Rattle.form.specs.Faults.{form_faults}
use Rattle.form.proofs.faults.form_faults.Given as goal

abbrev pub invariant-loop-i : goal.invariant-loop-i
invariant-loop-i l =
    form_faults 0 (entries_of l.job) ≡ form_faults l.i (entries_from l.job l.i (count_of l.job - l.i))
