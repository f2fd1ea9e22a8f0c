-- `repair::pass::all_repaired`: what was mended, counted and reported already, ahead of what is left, is the whole.
use Rattle.std.proofs.Common.{◌≡◌, ◌≤◌, length}
use Rattle.chip.specs.declared.state.State.{State}
use Rattle.repair.specs.Permits.{writable_pages}
use Rattle.repair.proofs.Ahead.{Ahead}
use Rattle.repair.proofs.pass.all_repaired.Given as goal

abbrev pub invariant-loop-i : goal.invariant-loop-i
invariant-loop-i l =
    (l.pulses ≤ l.i)
    × (length l.rows ≡ length l.initial.rows) × (length l.tallies ≡ length l.initial.tallies) × (length l.report ≡ length l.initial.report)
    × ((state : State) → l.pages ≡ writable_pages state
    → Ahead l.initial.rows l.initial.tallies state l.list l.initial.report l.rows l.tallies l.report l.pulses l.i)
