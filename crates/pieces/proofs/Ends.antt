-- The end of a job that came in pieces is that job run, over cuts too.
-- Assumes nothing.
use mathlib.Core.Path.{◌≡◌, refl, sym, ap, subst, ◌∙◌}
use mathlib.Core.Bool.{Bool, true, false, true≢false}
use mathlib.Core.List.{List}
use mathlib.Core.Logic.{◌⊎◌, inl, inr, ⊎_elim}
use Prim.Native.Nat.{ℕ, ◌+◌, ◌≤◌, ◌<◌}
use native.Mathlib.Omega.{arith}
use borrow.Author.Tests.{le-ltb, ltb-true, ltb-false}
use lib.Dec.{eqb, ltb}
use lib.ListN.{length, length-take, get_or, take, get_or-eq_default}
use lib.Seq.{get_or-take}
use Rattle.chip.specs.declared.state.State.{State}
use Rattle.burn.specs.Burning.{Left}
use Rattle.job.specs.Jobs.{run_job}
use Rattle.lead.specs.Ending.{job_in, end_job}
use Rattle.lead.specs.Notes.{no_room}
use Rattle.lead.specs.declared.notes.Note.{Note}
use Rattle.lead.proofs.Ends.{not_whole_lem, no_room_lem, too_long, runs, end_passed}
use Rattle.cuts.specs.Cuts.{Keyed, ready, Bytes, accepted_on, Completes}
use Rattle.cuts.proofs.CutPower.{cut_power}
use Rattle.cuts.proofs.Locked.{cut_after_locks}
use Rattle.pieces.specs.Ends.{EndRunsJob, EndRefused, end_accepted_on, EndCompletes, EndCutPower, EndCutAfterLocks}

pub end_runs_job : EndRunsJob
end_runs_job rows state area note room within = runs rows state area note room (le-ltb 3079 note.counted within)

pub end_refused : EndRefused
end_refused rows state area note why = go (eqb (length rows) 4096) (no_room area) (ltb 3079 note.counted) refl refl refl
  where
    OneOf : Left → Type 0
    OneOf l =
        ((l.outcome.answer.number ≡ 1) ⊎ ((l.outcome.answer.number ≡ 12) ⊎ (l.outcome.answer.number ≡ 10)))
        × (l.outcome.answer.place ≡ 0)

    go : (w r p : Bool) → eqb (length rows) 4096 ≡ w → no_room area ≡ r → ltb 3079 note.counted ≡ p → OneOf (end_job rows state area note)
    go false r p part short long = subst OneOf (sym (not_whole_lem rows state area note part)) (inl refl, refl)
    go true true p whole short long = subst OneOf (sym (no_room_lem rows state area note whole short)) (inr (inl refl), refl)
    go true false true whole room long = subst OneOf (sym (too_long rows state area note whole room long)) (inr (inr refl), refl)
    go true false false whole room within =
        absurd (⊎_elim (λ short. true≢false (sym short ∙ room)) (λ past. omega (arith, past, ltb-false 3079 note.counted within)) why)

-- ---- cut power

-- the bytes of an area's front are bytes
pub front_bytes : (area : List ℕ) (n : ℕ) → Bytes area → Bytes (take n area)
front_bytes area n bytes at = go (ltb at n) refl
  where
    go : (t : Bool) → ltb at n ≡ t → get_or (take n area) at 0 < 256
    go true below = rw (get_or-take n area at 0 (ltb-true at n below)) (bytes at)
    go false past =
        let over : length (take n area) ≤ at = omega (arith, length-take n area, ltb-false at n past) in
        rw (get_or-eq_default (take n area) 0 over) (omega arith)

module _ (rows : List ℕ) (before : State) (key : Keyed) (area : List ℕ) (note : Note) (accept : end_accepted_on rows before key area note) where
  -- an end that is accepted is the job, on these rows and on all others
  is_job : (other : List ℕ) (state : State) → end_job other state area note ≡ run_job other state (job_in area note)
  is_job other state =
      let passed = end_passed rows (ready rows before key) area note accept.1 in
      runs other state area note passed.0 passed.1

  accepted : accepted_on rows before key (job_in area note)
  accepted = (accept.0, sym (ap (λ (l : Left). l.outcome.answer.number) (is_job rows (ready rows before key))) ∙ accept.1)

  completes : (left : List ℕ) (later : State) (spent : ℕ) → Completes rows left before later key (job_in area note) spent
      → EndCompletes rows left before later key area note spent
  completes left later spent done =
      let first = is_job rows (ready rows before key) in
      let again = is_job left (ready left later key) in (
        (done.0.0, ap (λ (l : Left). l.outcome.answer.number) again ∙ done.0.1),
        ap (λ (l : Left). l.rows) again ∙ done.1,
        ap (λ (l : Left). l.rows) first ∙ done.2,
        ap (λ (l : Left). spent + l.outcome.answer.pulses) again ∙ done.3 ∙ sym (ap (λ (l : Left). l.outcome.answer.pulses) first),
      )

pub end_cut_power : EndCutPower
end_cut_power rows left before later key area note spent bytes accept cuts no-lock =
    completes rows before key area note accept left later spent
    (cut_power rows left before later key (job_in area note) spent (front_bytes area note.counted bytes) (accepted rows before key area note accept) cuts no-lock)

pub end_cut_after_locks : EndCutAfterLocks
end_cut_after_locks rows left before later key area note spent bytes accept cuts locked =
    let law = cut_after_locks rows left before later key (job_in area note) spent (front_bytes area note.counted bytes) (accepted rows before key area note accept) cuts locked in
    let first = is_job rows before key area note accept rows (ready rows before key) in
    let again = is_job rows before key area note accept left (ready left later key) in (
      λ row low. law.0 row low ∙ sym (ap (λ (l : Left). get_or l.rows row 0) first),
      law.1,
      λ row low. ap (λ (l : Left). get_or l.rows row 0) again ∙ law.2 row low,
      ⊎_elim (λ seven. inl (ap (λ (l : Left). l.outcome.answer.number) again ∙ seven)) (λ done. inr (completes rows before key area note accept left later spent done)) law.3,
    )
