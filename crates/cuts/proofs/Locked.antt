-- A cut after the first lock pulse: every data row is finished, and the job is refused with 7 from then on, or completes.
-- Assumes nothing.
use mathlib.Core.Bool.{Bool, true, false}
use mathlib.Core.List.{List, [], ◌∷◌}
use mathlib.Core.Logic.{◌⊎◌, inl, inr, ⊎_elim}
use mathlib.Core.Path.{◌≡◌, refl, sym, ap, ◌∙◌}
use Prim.Native.Nat.{ℕ, ◌+◌, ◌<◌}
use native.Mathlib.Omega.{arith}
use borrow.Author.Tests.{eq-eqb, eqb-true, eqb-false}
use lib.Dec.{eqb}
use lib.ListN.{length, set}
use lib.Seq.{get_or-set_other}
use Rattle.answer.specs.Rungs.{Rung, first_of}
use Rattle.chip.specs.Slices.{row_at}
use Rattle.chip.specs.declared.state.State.{State}
use Rattle.permit.specs.Permission.{may_write}
use Rattle.form.specs.Entries.{entries_of}
use Rattle.form.specs.declared.entries.Entry.{Entry}
use Rattle.burn.specs.Burning.{Left}
use Rattle.job.specs.Burning.{written_over, with_entry, all_written}
use Rattle.job.specs.Jobs.{run_job}
use Rattle.judge.specs.Verdicts.{entry_rungs, all_rungs, verdict_of}
use Rattle.judge.specs.Verdicts.{Verdict}
use Rattle.judge.proofs.Upward.{entry_next}
use Rattle.laws.proofs.Between.{each_length, each_held}
use Rattle.cuts.specs.Cuts.{ready, CutOf, Cuts, Completes}
use Rattle.cuts.specs.Versions.{SameData, CutAfterLocks}
use Rattle.cuts.proofs.Rising.{Rising}
use Rattle.cuts.proofs.Rewriting.{Admitted, judged_done, done_judged, admitted_rising, outside, below_apart, again}
use Rattle.cuts.proofs.Acceptance.{ran, Accepted, accepted_verdict, accepted_on_lem}
use Rattle.cuts.proofs.CutPower.{cut_between, cuts_between, still, reset_again, completes}

-- ---- a row that was burnt: those below it are finished

-- a cut leaves the rows below the least
cut_below : {rows left : List ℕ} {least : ℕ} (es : List Entry) (k : ℕ) → Rising least es → CutOf rows es left → k < least
    → row_at left k ≡ row_at rows k
cut_below [] k Rising.none CutOf.at_end below = refl
cut_below {rows} (e ∷ others) k (Rising.more low high rest) (CutOf.within row over under) below =
    get_or-set_other rows e.row k row 0 (λ same. omega arith)
cut_below {rows} {left} {least} (e ∷ others) k (Rising.more low high rest) (CutOf.past cut) below =
    cut_below {rows = with_entry rows e} {least = e.row + 1} others k rest cut (omega arith) ∙ get_or-set_other rows e.row k (written_over rows e).row 0 (λ same. omega arith)

-- a row that differs where one was put in is that one
put_there : (rows : List ℕ) (at k new : ℕ) → (row_at (set rows at new) k ≡ row_at rows k → ⊥) → k ≡ at
put_there rows at k new changed = go (eqb k at) refl
  where
    go : (t : Bool) → eqb k at ≡ t → k ≡ at
    go true here = eqb-true k at here
    go false other = absurd (changed (get_or-set_other rows at k new 0 (eqb-false k at other)))

cut_finished : {rows left : List ℕ} {least : ℕ} (es : List Entry) (burnt k : ℕ) → Rising least es → CutOf rows es left
    → (row_at left burnt ≡ row_at rows burnt → ⊥) → k < burnt → row_at left k ≡ row_at (all_written rows es) k
unfolding all_written
cut_finished [] burnt k Rising.none CutOf.at_end changed below = absurd (changed refl)
cut_finished {rows} (e ∷ others) burnt k (Rising.more low high rest) (CutOf.within row over under) changed below =
    let here = put_there rows e.row burnt row changed in
    get_or-set_other rows e.row k row 0 (λ same. omega arith)
    ∙ sym (outside rows (e ∷ others) k (below_apart (e ∷ others) k (Rising.more {least = e.row} (omega arith) high rest) (omega arith)))
cut_finished {rows} {left} {least} (e ∷ others) burnt k (Rising.more low high rest) (CutOf.past cut) changed below =
    go (eqb (row_at left burnt) (row_at (with_entry rows e) burnt)) refl (λ later. cut_finished {rows = with_entry rows e} {least = e.row + 1} others burnt k rest cut later below)
  where
    go : (t : Bool) → eqb (row_at left burnt) (row_at (with_entry rows e) burnt) ≡ t
        → ((row_at left burnt ≡ row_at (with_entry rows e) burnt → ⊥) → row_at left k ≡ row_at (all_written (with_entry rows e) others) k)
        → row_at left k ≡ row_at (all_written (with_entry rows e) others) k
    go false other later = later (eqb-false _ _ other)
    go true same later =
        let here = put_there rows e.row burnt (written_over rows e).row (λ held. changed (eqb-true _ _ same ∙ held)) in
        cut_below others k rest cut (omega arith) ∙ sym (outside (with_entry rows e) others k (below_apart others k rest (omega arith)))

cuts_finished : {rows left : List ℕ} {state : State} {spent : ℕ} (es : List Entry) (burnt k : ℕ) → length rows ≡ 4096 → Admitted rows state 0 es
    → Cuts es rows left spent → (row_at left burnt ≡ row_at rows burnt → ⊥) → k < burnt → row_at left k ≡ row_at (all_written rows es) k
cuts_finished es burnt k whole admitted Cuts.none changed below = absurd (changed refl)
cuts_finished {rows} {left} es burnt k whole admitted (Cuts.once {between} cut cuts) changed below =
    let first = cut_between cut in
    let next = again es whole admitted first.0 first.1 in
    let long : length between ≡ 4096 = sym (each_length first.0) ∙ whole in
    let final : row_at (all_written between es) k ≡ row_at (all_written rows es) k = ap (λ (slice : List ℕ). row_at slice k) next.1 in
    let rest = cuts_between long next.0 cuts in
    go (eqb (row_at between burnt) (row_at rows burnt)) refl final (each_held k rest.0 rest.1)
    (λ later. cuts_finished es burnt k long next.0 cuts later below)
  where
    go : (t : Bool) → eqb (row_at between burnt) (row_at rows burnt) ≡ t → row_at (all_written between es) k ≡ row_at (all_written rows es) k
        → (row_at (all_written between es) k ≡ row_at between k → row_at left k ≡ row_at between k)
        → ((row_at left burnt ≡ row_at between burnt → ⊥) → row_at left k ≡ row_at (all_written between es) k)
        → row_at left k ≡ row_at (all_written rows es) k
    go true same final held later = later (λ still-there. changed (still-there ∙ eqb-true _ _ same)) ∙ final
    go false other final held later =
        let finished = cut_finished es burnt k (admitted_rising admitted) cut (eqb-false _ _ other) below in
        held (final ∙ sym finished) ∙ finished

-- ---- judged again under other locks

-- entries that one state admits, another refuses with 7 alone
zero_or_seven : {rows : List ℕ} {state : State} {least : ℕ} {es : List Entry} (other : State) (at : ℕ) → Admitted rows state least es
    → (first_of (all_rungs rows other at es) ≡ 0) ⊎ (first_of (all_rungs rows other at es) ≡ 7)
unfolding all_rungs entry_rungs
zero_or_seven other at Admitted.none = inl refl
zero_or_seven {rows} {state} other at (Admitted.more {e} {others} low place small done rest) =
    go (may_write other 0 e.row) refl (zero_or_seven other (at + 1) rest)
  where
    later : List Rung
    later = all_rungs rows other (at + 1) others

    go : (may : Bool) → may_write other 0 e.row ≡ may → (first_of later ≡ 0) ⊎ (first_of later ≡ 7)
        → (first_of (all_rungs rows other at (e ∷ others)) ≡ 0) ⊎ (first_of (all_rungs rows other at (e ∷ others)) ≡ 7)
    go false not-now either = inr (rw not-now refl)
    go true may either =
        let judged = judged_done rows state e done in
        let own = done_judged rows other e (rw may refl) judged.1 judged.2 in
        let handed = ap (λ (v : Verdict). v.number) (entry_next rows (may_write other 0 e.row) at e later own) in
        ⊎_elim (λ zero. inl (handed ∙ zero)) (λ seven. inr (handed ∙ seven)) either

verdict_either : {rows : List ℕ} {state : State} {job : List ℕ} → Accepted rows state job → (other : State)
    → ((verdict_of rows other job).number ≡ 0) ⊎ ((verdict_of rows other job).number ≡ 7)
unfolding verdict_of
verdict_either {rows} a other = rw (eq-eqb (length rows) 4096 a.whole, a.sound) (zero_or_seven other 0 a.admitted)

-- a job refused with 7 leaves the rows
seven_keeps : (rows : List ℕ) (state : State) (job : List ℕ) → (verdict_of rows state job).number ≡ 7
    → ((run_job rows state job).outcome.answer.number ≡ 7) × ((run_job rows state job).rows ≡ rows)
unfolding run_job
seven_keeps rows state job seven = rw seven (refl, refl)

pub cut_after_locks : CutAfterLocks
cut_after_locks rows left before later key job spent bytes accept cuts (lock, high, changed) =
    let rerun = go (verdict_either (still rows left before later key job spent bytes accept cuts) (ready left later key)) in (
      λ row low. finished row low ∙ ap (λ (slice : List ℕ). row_at slice row) (sym uncut),
      reset_again rows left before later key job spent bytes accept cuts,
      rerun.0,
      rerun.1,
    )
  where
    first : Accepted rows (ready rows before key) job
    first = accepted_on_lem rows before key job bytes accept

    uncut : (run_job rows (ready rows before key) job).rows ≡ all_written rows (entries_of job)
    uncut = ap (λ (l : Left). l.rows) (ran rows (ready rows before key) job (accepted_verdict first))

    finished : (row : ℕ) → row < 0xf40 → row_at left row ≡ row_at (all_written rows (entries_of job)) row
    finished row low = cuts_finished (entries_of job) lock row first.whole first.admitted cuts changed (omega arith)

    go : ((verdict_of left (ready left later key) job).number ≡ 0) ⊎ ((verdict_of left (ready left later key) job).number ≡ 7)
        → SameData (run_job left (ready left later key) job).rows left
        × (((run_job left (ready left later key) job).outcome.answer.number ≡ 7) ⊎ Completes rows left before later key job spent)
    go (inl zero) =
        let whole = completes rows left before later key job spent bytes accept cuts zero in
        (λ row low. ap (λ (slice : List ℕ). row_at slice row) whole.1 ∙ sym (finished row low), inr whole)
    go (inr seven) =
        let kept = seven_keeps left (ready left later key) job seven in
        (λ row low. ap (λ (slice : List ℕ). row_at slice row) kept.1, inl kept.0)
