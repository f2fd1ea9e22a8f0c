-- `judge::verdicts::judged` meets its contract: an entry that is refused answers for the whole, and any other hands on to those left.
-- Assumes nothing.
use Rattle.std.proofs.Common.{◌≡◌, ℕ, sym, ap, ◌∙◌, arith, Bool, List}
use borrow.Author.Tests.{eqb-false}
use Rattle.answer.specs.Rungs.{first_of}
use Rattle.answer.proofs.Numbered.{not_done}
use Rattle.permit.specs.Permission.{may_write}
use Rattle.chip.specs.declared.state.State.{State}
use Rattle.form.specs.Entries.{count_of}
use Rattle.form.specs.declared.entries.Entry.{Entry}
use Rattle.judge.specs.Verdicts.{Verdict, entry_rungs, all_rungs, verdict}
use Rattle.form.proofs.Upward.{none_left}
use Rattle.judge.proofs.Upward.{judged_stops, judged_next}
use Rattle.judge.proofs.verdicts.judged.Goals as goal

abbrev at_place : ℕ → ℕ → Verdict
at_place number place = record { number = number; place = place }

-- what was learnt of the entry is what its definition says, whichever it is
of_entry : (rows : List ℕ) (state : State) (i : ℕ) (e entry : Entry) (may : Bool) (number : ℕ)
    → e ≡ entry → may ≡ may_write state 0 e.row → number ≡ first_of (entry_rungs rows may 0 e)
    → number ≡ first_of (entry_rungs rows (may_write state 0 entry.row) i entry)
unfolding entry_rungs
of_entry rows state i e entry may number same permit answered =
    answered ∙ ap (λ (m : Bool). first_of (entry_rungs rows m i e)) permit
    ∙ ap (λ (x : Entry). first_of (entry_rungs rows (may_write state 0 x.row) i x)) same

pub returns-in-Err : goal.returns-in-Err
returns-in-Err c =
    let s = c.args in
    let l = c.loop-i in
    let number = of_entry s.rows.now s.state l.i _ _ _ _ c.entry_at-entry.ensures c.permit_for-permit.ensures.1 c.in-Err.ensures in
    sym (l.invariant.1 ∙ judged_stops s.job.now (count_of s.job.now) l.i (omega arith) s.rows.now s.state (λ none. eqb-false _ 0 (not_done c.in-Err.refusal) (number ∙ none))
    ∙ ap (λ (n : ℕ). at_place n l.i) (sym number))

pub loop-i-preserved : goal.loop-i-preserved
loop-i-preserved c =
    let s = c.args in
    let l = c.loop-i in
    let permit = c.permit_for-permit in
    let number = of_entry s.rows.now s.state l.i _ _ _ _ c.entry_at-entry.ensures permit.ensures.1 c.in_default.ensures in (
      permit.ensures.1 ∙ ap (may_write s.state 0) (sym permit.ensures.0),
      l.invariant.1 ∙ judged_next s.job.now (count_of s.job.now) l.i (omega arith) s.rows.now s.state (sym number),
    )

pub returns : goal.returns
unfolding all_rungs
returns c =
    let s = c.args in
    let l = c.loop-i in
    sym (l.invariant.1 ∙ ap (λ (es : List Entry). verdict (all_rungs s.rows.now s.state l.i es)) (none_left s.job.now (count_of s.job.now) l.i (omega arith)))
