-- What a call that burns leaves (document 01, "The numbers we answer with"; request 2026-07). It is made nowhere else.
use Rattle.std.specs.Prelude.{ℕ, List, [], ◌∷◌, Result, Ok, Err, eqb, set}
use Rattle.answer.specs.Answers.{refused_at, spent}
use Rattle.std.specs.Prelude.{if◌then◌else◌}
use Rattle.answer.specs.Refusals.{refusal_number}
use Rattle.answer.specs.declared.refusals.Refusal.{Refusal}
use Rattle.row.specs.declared.writing.Burnt.{Burnt}
use Rattle.answer.specs.declared.answers.Answer.{Answer}
use Rattle.row.specs.Writing.{Written}
use Rattle.chip.specs.States.{with_tallies}
use Rattle.chip.specs.Tallies.{Gain, ◌gains◌, with_gains}
use Rattle.chip.specs.declared.state.State.{State}
use Rattle.chip.specs.declared.state.Outcome.{Outcome}

-- its outcome, and all rows
pub record Left : Type 0 where
  pub outcome : Outcome
  pub rows : List ℕ

-- the state beside an answer: nothing latched changes but the tallies
abbrev pub beside : Answer → State → List ℕ → Outcome
beside answer state tallies = record { answer = answer; state = with_tallies state tallies }

-- done: these rows, with a place and pulses, and the tallies with the bits that each row gained
abbrev pub burnt : State → List Gain → List ℕ → ℕ → ℕ → Left
burnt state gained rows place pulses = record {
  outcome = beside (spent place pulses) state (with_gains state.tallies gained);
  rows = rows;
}

-- refused: each row and the state as they were
abbrev pub kept : State → List ℕ → ℕ → ℕ → Left
kept state rows number place = record { outcome = record { answer = refused_at number place; state = state }; rows = rows }

-- a write of one row: number 0 burns it, any other is a refusal
abbrev pub one_row : ℕ → List ℕ → State → ℕ → Written → Left
one_row number rows state row written =
    if eqb number 0 then burnt state (row gains written.pulses ∷ []) (set rows row written.row) 0 written.pulses
    else kept state rows number 0

-- a write of one row as the code has it: a row burnt, or the refusal
abbrev pub burnt_or_kept : List ℕ → State → ℕ → Result Burnt Refusal → Left
burnt_or_kept rows state row (Ok done) = burnt state (row gains done.pulses ∷ []) (set rows row done.row) 0 done.pulses
burnt_or_kept rows state row (Err refusal) = kept state rows (refusal_number refusal) 0
