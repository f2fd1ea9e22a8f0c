-- `judge::verdicts::judged`: the entries that are left answer for the whole, and what is kept of the row before is so.
-- Assumes nothing.
use mathlib.Core.Path.{◌≡◌}
use Prim.Native.Nat.{◌-◌}
use Rattle.permit.specs.Permission.{may_write}
use Rattle.form.specs.Entries.{count_of, entries_from, entries_of}
use Rattle.judge.specs.Verdicts.{all_rungs, verdict}
use Rattle.judge.proofs.verdicts.judged.Given as goal

abbrev pub invariant-loop-i : goal.invariant-loop-i
invariant-loop-i l =
    (l.permit.may ≡ may_write l.state 0 l.permit.row)
    × (verdict (all_rungs l.rows l.state 0 (entries_of l.job)) ≡ verdict (all_rungs l.rows l.state l.i (entries_from l.job l.i (count_of l.job - l.i))))
