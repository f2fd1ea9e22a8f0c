-- Pulses are the bits newly set (document 01, "Jobs"), whatever burns them.
use Rattle.std.specs.Prelude.{◌≡◌}
use Rattle.laws.specs.Calls.{Chip, Call, perform}
use Rattle.laws.specs.Promises.{Burns}
use Rattle.laws.specs.Writes.{newly_set}

-- pulses are the bits newly set, of every done call that burns
abbrev pub PulsesAreNewBits : Type 0
PulsesAreNewBits =
    (chip : Chip) (call : Call) → Burns call → (perform chip call).answer.number ≡ 0
    → (perform chip call).answer.pulses ≡ newly_set chip.rows (perform chip call).chip.rows
