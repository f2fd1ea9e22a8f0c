-- The number of an ECC write: that of its call, and where that is 0 the row's own 9.
-- Assumes nothing.
use mathlib.Core.Path.{◌≡◌, refl, sym, ap, ◌∙◌}
use mathlib.Core.List.{List, [], ◌∷◌}
use Prim.Native.Nat.{ℕ, ◌≤◌}
use borrow.Author.Tests.{eq-eqb, ltb-false}
use lib.Dec.{ltb}
use Rattle.std.specs.Prelude.{Result, Ok, Err}
use Rattle.answer.specs.Refusals.{refusal_number, number_of}
use Rattle.answer.specs.Rungs.{Rung, ◌when◌, first_of, or_else}
use Rattle.answer.specs.declared.refusals.Refusal.{Refusal}
use Rattle.answer.proofs.Ladders.{refusing, then_rungs}
use Rattle.answer.proofs.Numbered.{not_done}
use Rattle.row.specs.Writing.{Written, ecc_written, written_by, neither_fits}
use Rattle.row.specs.declared.writing.Burnt.{Burnt}
use Rattle.row.proofs.Unfit.{nine}
use Rattle.permit.specs.Permission.{may_write}
use Rattle.chip.specs.Slices.{row_at}
use Rattle.chip.specs.declared.state.State.{State}
use Rattle.access.specs.Judging.{ecc, row_rungs, call_rungs}
use Rattle.access.proofs.Passing.{call_passed}
use Rattle.burn.specs.Writes.{write_ecc_number}

-- a write has the number of what it leaves
own_number : (old : ℕ) (written : Result Burnt Refusal) → (written_by old written).number ≡ number_of written
own_number old (Ok burnt) = refl
own_number old (Err refusal) = refl

module _ (rows : List ℕ) (state : State) (caller row value : ℕ) where
  abbrev rungs : List Rung
  rungs = call_rungs rows state caller row ecc (ltb 65535 value) (may_write state caller row)

  two_steps : write_ecc_number rows state caller row value ≡ or_else (first_of rungs) (ecc_written (row_at rows row) value).number
  unfolding call_rungs row_rungs refusing
  two_steps =
      then_rungs rungs (9 when neither_fits (row_at rows row) value ∷ []) tt ∙ ap (or_else (first_of rungs)) (sym (nine (row_at rows row) value))

  -- a call that is refused stays so
  pub call_refused : (refusal : Refusal) → refusal_number refusal ≡ first_of rungs → refusal_number refusal ≡ write_ecc_number rows state caller row value
  call_refused refusal e = sym (two_steps ∙ rw (← e, not_done refusal))

  -- one that is let by has a value of 16 bits
  pub value_of_16_bits : 0 ≡ first_of rungs → value ≤ 65535
  value_of_16_bits e =
      ltb-false 65535 value (call_passed rows state caller row ecc (ltb 65535 value) (may_write state caller row) (sym e)).1

  -- and is refused as its row refuses it
  pub row_refused : 0 ≡ first_of rungs → (written : Result Burnt Refusal)
      → written_by (row_at rows row) written ≡ ecc_written (row_at rows row) value
      → number_of written ≡ write_ecc_number rows state caller row value
  row_refused e written is =
      sym (two_steps ∙ rw (eq-eqb (first_of rungs) 0 (sym e)) (ap (λ (w : Written). w.number) (sym is) ∙ own_number (row_at rows row) written))
