-- The end: refused for the rows, the area or the count, or the job is run.
-- Assumes nothing.
use mathlib.Core.Path.{◌≡◌, refl, sym, ap, subst, ◌∙◌}
use mathlib.Core.Bool.{Bool, true, false, not}
use mathlib.Core.List.{List, [], ◌∷◌}
use Prim.Native.Nat.{ℕ, suc, ◌≤◌}
use borrow.Author.Tests.{le-ltb, eqb-false}
use lib.Dec.{eqb, ltb}
use lib.ListN.{length}
use Rattle.answer.proofs.Ladders.{never_zero}
use Rattle.answer.proofs.Numbered.{not_done}
use Rattle.answer.specs.Refusals.{refusal_number}
use Rattle.answer.specs.Rungs.{◌when◌, first_of}
use Rattle.answer.specs.declared.refusals.Refusal.{Refusal}
use Rattle.chip.specs.declared.state.State.{State}
use Rattle.burn.specs.Burning.{Left, kept}
use Rattle.judge.specs.Verdicts.{verdict_of}
use Rattle.job.specs.Jobs.{run_job}
use Rattle.lead.specs.Ending.{job_in, end_verdict, end_job}
use Rattle.lead.specs.Notes.{no_room}
use Rattle.lead.specs.declared.notes.Note.{Note}

module _ (rows : List ℕ) (state : State) (area : List ℕ) (note : Note) where
  abbrev whole : Bool
  whole = eqb (length rows) 4096

  abbrev past : Bool
  past = ltb 3079 note.counted

  pub not_whole_lem : whole ≡ false → end_job rows state area note ≡ kept state rows 1 0
  unfolding end_job end_verdict
  not_whole_lem part = rw part

  pub no_room_lem : whole ≡ true → no_room area ≡ true → end_job rows state area note ≡ kept state rows 12 0
  unfolding end_job end_verdict
  no_room_lem all short = rw (all, short)

  pub too_long : whole ≡ true → no_room area ≡ false → past ≡ true → end_job rows state area note ≡ kept state rows 10 0
  unfolding end_job end_verdict
  too_long all room long = rw (all, room, long)

  -- refused by the first of these that holds
  pub refused_end : (refusal : Refusal) → refusal_number refusal ≡ first_of (1 when not whole ∷ 12 when no_room area ∷ 10 when past ∷ [])
      → end_job rows state area note ≡ kept state rows (refusal_number refusal) 0
  refused_end refusal e = go whole (no_room area) past refl refl refl
    where
      with : (number : ℕ) → refusal_number refusal ≡ number → kept state rows number 0 ≡ kept state rows (refusal_number refusal) 0
      with number is = ap (λ (n : ℕ). kept state rows n 0) (sym is)

      go : (w r p : Bool) → whole ≡ w → no_room area ≡ r → past ≡ p → end_job rows state area note ≡ kept state rows (refusal_number refusal) 0
      go false r p part short long = not_whole_lem part ∙ with 1 (e ∙ rw part)
      go true true p all short long = no_room_lem all short ∙ with 12 (e ∙ rw (all, short))
      go true false true all room long = too_long all room long ∙ with 10 (e ∙ rw (all, room, long))
      go true false false all room within = absurd (eqb-false (refusal_number refusal) 0 (not_done refusal) (e ∙ rw (all, room, within)))

  -- with room for it, and not too long, it is the job, whatever the rows
  pub runs : no_room area ≡ false → past ≡ false → end_job rows state area note ≡ run_job rows state (job_in area note)
  unfolding end_job end_verdict run_job verdict_of
  runs room within = go whole refl
    where
      go : (t : Bool) → whole ≡ t → end_job rows state area note ≡ run_job rows state (job_in area note)
      go true all = rw (all, room, within)
      go false part = rw part

  -- so it keeps all, with a number that is not 0, or is the job
  pub kept_or_run : (P : Left → Type 0) → ((n : ℕ) → P (kept state rows (suc n) 0)) → P (run_job rows state (job_in area note))
      → P (end_job rows state area note)
  kept_or_run P keeps run = go whole (no_room area) past refl refl refl
    where
      go : (w r p : Bool) → whole ≡ w → no_room area ≡ r → past ≡ p → P (end_job rows state area note)
      go false r p part short long = subst P (sym (not_whole_lem part)) (keeps 0)
      go true true p all short long = subst P (sym (no_room_lem all short)) (keeps 11)
      go true false true all room long = subst P (sym (too_long all room long)) (keeps 9)
      go true false false all room within = subst P (sym (runs room within)) run

  -- the same, by the numbers
  pub runs_on : note.counted ≤ 3079 → 3079 ≤ length area → end_job rows state area note ≡ run_job rows state (job_in area note)
  runs_on few room = runs (le-ltb (length area) 3079 room) (le-ltb 3079 note.counted few)

  -- one that is done had room and was not too long
  pub end_passed : (end_job rows state area note).outcome.answer.number ≡ 0 → (no_room area ≡ false) × (past ≡ false)
  end_passed done = go whole (no_room area) past refl refl refl
    where
      number : Left → ℕ
      number left = left.outcome.answer.number

      go : (w r p : Bool) → whole ≡ w → no_room area ≡ r → past ≡ p → (no_room area ≡ false) × (past ≡ false)
      go false r p part short long = absurd (never_zero 0 (subst (λ (l : Left). number l ≡ 0) (not_whole_lem part) done))
      go true true p all short long = absurd (never_zero 11 (subst (λ (l : Left). number l ≡ 0) (no_room_lem all short) done))
      go true false true all room long = absurd (never_zero 9 (subst (λ (l : Left). number l ≡ 0) (too_long all room long) done))
      go true false false all room within = (room, within)
