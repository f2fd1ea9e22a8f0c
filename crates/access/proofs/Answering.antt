-- A row that was read as it is, read on by ECC: a refusal stays one, and the row's own 8 is the last rung.
-- Assumes nothing.
use mathlib.Core.Bool.{Bool, true, false}
use mathlib.Core.List.{List, [], ◌∷◌, ◌++◌}
use mathlib.Core.Logic.{◌⊎◌, inl, inr}
use mathlib.Core.Path.{◌≡◌, refl, sym, ap, ◌∙◌}
use Prim.Native.Nat.{ℕ}
use borrow.Author.Tests.{eq-eqb, eqb-false}
use lib.Dec.{T, eqb}
use Rattle.answer.specs.Answers.{refused, answered}
use Rattle.answer.specs.Refusals.{refusal_number}
use Rattle.decode.specs.Reading.{read_row, undecodable}
use Rattle.answer.specs.Rungs.{Rung, ◌when◌, first_of, or_else}
use Rattle.answer.specs.declared.refusals.Refusal.{Refusal}
use Rattle.answer.proofs.Ladders.{refusing, then_rungs}
use Rattle.answer.proofs.Numbered.{not_done}
use Rattle.decode.proofs.Undecoded.{read_or_8, eight}
use Rattle.permit.specs.Permission.{may_read}
use Rattle.chip.specs.Slices.{row_at}
use Rattle.chip.specs.declared.state.State.{State}
use Rattle.access.specs.Judging.{ecc, no_value, row_rungs, call_rungs}
use Rattle.access.specs.Reads.{read_ecc}

module _ (rungs : List Rung) (some : T (refusing rungs)) (held : ℕ) where
  abbrev number : ℕ
  number = first_of rungs

  abbrev with_eight : ℕ
  with_eight = first_of (rungs ++ (8 when undecodable held ∷ []))

  two_steps : with_eight ≡ or_else number (read_row held).number
  two_steps = then_rungs rungs (8 when undecodable held ∷ []) some ∙ ap (or_else number) (sym (eight held))

  -- where the last rung has let a row by, it is read
  pub read_done : with_eight ≡ 0 → (read_row held).number ≡ 0
  read_done e = go (eqb number 0) refl
    where
      go : (t : Bool) → eqb number 0 ≡ t → (read_row held).number ≡ 0
      go true none = sym (two_steps ∙ rw none) ∙ e
      go false some = absurd (eqb-false number 0 some (sym (two_steps ∙ rw some) ∙ e))

  -- a refusal is one whatever was to be done
  refusal_stays : (refusal : Refusal) → refusal_number refusal ≡ number
      → refused (refusal_number refusal) ≡ answered with_eight (read_row held)
  refusal_stays refusal e =
      let other : eqb number 0 ≡ false = rw (← e) (not_done refusal) in
      let same : with_eight ≡ number = two_steps ∙ rw other in
      rw (same, other) (ap refused e)

  -- what was read is read on by ECC
  read_on : 0 ≡ number → read_row held ≡ answered with_eight (read_row held)
  read_on e =
      let none : eqb number 0 ≡ true = eq-eqb number 0 (sym e) in
      let same : with_eight ≡ (read_row held).number = two_steps ∙ rw none in
      sym (ap (λ (n : ℕ). answered n (read_row held)) same ∙ own (read_or_8 held))
    where
      own : ((read_row held).number ≡ 0) ⊎ (read_row held ≡ refused 8) → answered (read_row held).number (read_row held) ≡ read_row held
      own (inl done) = rw done
      own (inr eight) = rw eight

-- ---- of the call

module _ (rows : List ℕ) (state : State) (caller row : ℕ) where
  abbrev rungs_of : List Rung
  rungs_of = call_rungs rows state caller row ecc no_value (may_read state caller row)

  pub ecc_refused : (refusal : Refusal) → refusal_number refusal ≡ first_of rungs_of → read_ecc rows state caller row ≡ refused (refusal_number refusal)
  unfolding read_ecc call_rungs row_rungs refusing
  ecc_refused refusal e = sym (refusal_stays rungs_of tt (row_at rows row) refusal e)

  pub ecc_read : 0 ≡ first_of rungs_of → read_ecc rows state caller row ≡ read_row (row_at rows row)
  unfolding read_ecc call_rungs row_rungs refusing
  ecc_read e = sym (read_on rungs_of tt (row_at rows row) e)
