-- What a write of one row leaves: what the code has of it, and what the definition says.
-- Assumes nothing.
use mathlib.Core.Path.{◌≡◌, ap, ap₂, ◌∙◌}
use mathlib.Core.List.{List}
use Prim.Native.Nat.{ℕ}
use lib.ListN.{set}
use Rattle.std.specs.Prelude.{Result, Ok, Err, IfOk, MatchResult}
use Rattle.answer.specs.Answers.{refused, spent}
use Rattle.answer.specs.Refusals.{refusal_number, number_of}
use Rattle.answer.specs.declared.answers.Answer.{Answer}
use Rattle.answer.specs.declared.refusals.Refusal.{Refusal}
use Rattle.answer.proofs.Numbered.{not_done}
use Rattle.row.specs.Writing.{Written, done_with}
use Rattle.row.specs.declared.writing.Burnt.{Burnt}
use Rattle.chip.specs.Tallies.{◌gains◌, with_gain}
use Rattle.chip.specs.declared.state.State.{State}
use Rattle.chip.specs.declared.state.Outcome.{Outcome}
use Rattle.burn.specs.Burning.{Left, beside, one_row, burnt_or_kept}

-- the same number, and where that is 0 the same row and pulses
pub leaves : (rows : List ℕ) (state : State) (row meant : ℕ) (means : Written) (written : Result Burnt Refusal)
    → number_of written ≡ meant → IfOk written (λ burnt. done_with burnt ≡ means)
    → burnt_or_kept rows state row written ≡ one_row meant rows state row means
leaves rows state row meant means (Ok burnt) number same = ap₂ (λ (n : ℕ) (w : Written). one_row n rows state row w) number same
leaves rows state row meant means (Err refusal) number same = rw (← number, not_done refusal)

-- what is put beside the answer of a write
module _ (rows left tallies : List ℕ) (outcome : Outcome) (state : State) (row : ℕ) (answer : Answer) where
  put_beside : (written : Result Burnt Refusal)
      → MatchResult written
      (λ burnt. (answer ≡ spent 0 burnt.pulses) × (left ≡ set rows row burnt.row) × (tallies ≡ with_gain state.tallies (row gains burnt.pulses)))
      (λ refusal. (answer ≡ refused (refusal_number refusal)) × (left ≡ rows) × (tallies ≡ state.tallies))
      → outcome ≡ beside answer state tallies
      → (outcome ≡ (burnt_or_kept rows state row written).outcome) × (left ≡ (burnt_or_kept rows state row written).rows)
  put_beside (Ok burnt) said is = (is ∙ ap₂ (λ (a : Answer) (t : List ℕ). beside a state t) said.0 said.2, said.1)
  put_beside (Err refusal) said is = (is ∙ ap₂ (λ (a : Answer) (t : List ℕ). beside a state t) said.0 said.2, said.1)

  pub left_by : (meant : ℕ) (means : Written) (written : Result Burnt Refusal)
      → MatchResult written
      (λ burnt. (answer ≡ spent 0 burnt.pulses) × (left ≡ set rows row burnt.row) × (tallies ≡ with_gain state.tallies (row gains burnt.pulses)))
      (λ refusal. (answer ≡ refused (refusal_number refusal)) × (left ≡ rows) × (tallies ≡ state.tallies))
      → outcome ≡ beside answer state tallies
      → number_of written ≡ meant → IfOk written (λ burnt. done_with burnt ≡ means)
      → (outcome ≡ (one_row meant rows state row means).outcome) × (left ≡ (one_row meant rows state row means).rows)
  left_by meant means written said is number same =
      let whole = leaves rows state row meant means written number same in
      let own = put_beside written said is in
      (own.0 ∙ ap (λ (l : Left). l.outcome) whole, own.1 ∙ ap (λ (l : Left). l.rows) whole)
