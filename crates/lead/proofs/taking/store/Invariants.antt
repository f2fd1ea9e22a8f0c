-- `lead::taking::store`: the bytes so far are in the area, which is as long as it was.
use Rattle.std.proofs.Common.{◌≡◌, length, take}
use Rattle.form.specs.Writing.{with_bytes}
use Rattle.lead.proofs.taking.store.Given as goal

abbrev pub invariant-loop-i : goal.invariant-loop-i
invariant-loop-i l = (length l.area ≡ length l.initial.area) × (l.area ≡ with_bytes l.initial.area l.start (take l.i l.chunk))
