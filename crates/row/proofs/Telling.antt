-- What the code answers of a write can be told from the record that the definitions have of it.
-- Assumes nothing.
use mathlib.Core.Path.{◌≡◌, refl, ap}
use Rattle.std.specs.Prelude.{ℕ, Result, Ok, Err, eqb}
use Rattle.std.specs.Prelude.{if◌then◌else◌}
use Rattle.answer.specs.declared.refusals.Refusal.{Refusal}
use Rattle.answer.proofs.Numbered.{not_done, refusal_with, numbered}
use Rattle.answer.proofs.Telling.{told_apart}
use Rattle.row.specs.Writing.{Written, written_by}
use Rattle.row.specs.declared.writing.Burnt.{Burnt}

abbrev taken_back : Written → Result Burnt Refusal
taken_back written =
    if eqb written.number 0 then Ok (record { row = written.row; pulses = written.pulses }) else Err (refusal_with written.number)

back : (old : ℕ) (answer : Result Burnt Refusal) → taken_back (written_by old answer) ≡ answer
back old (Ok burnt) = refl
back old (Err refusal) = rw (not_done refusal) (ap Err (numbered refusal))

pub written_by_tells : (old : ℕ) (a b : Result Burnt Refusal) → written_by old a ≡ written_by old b → a ≡ b
written_by_tells old = told_apart (written_by old) taken_back (back old)
