-- `repair::pass::repair`: a pass that is refused leaves all as it was, and another leaves what was found and mended.
use Rattle.std.proofs.Common.{◌≡◌, ℕ, List, sym, ap, ◌∙◌}
use mathlib.Core.Path.{ap₂}
use borrow.Author.Tests.{eqb-false}
use Rattle.answer.specs.Answers.{spent}
use Rattle.answer.specs.declared.answers.Answer.{Answer}
use Rattle.answer.proofs.Numbered.{not_done}
use Rattle.burn.specs.Burning.{Left, beside}
use Rattle.repair.specs.Pass.{Passed}
use Rattle.repair.proofs.Passing.{pass_refused, pass_done}
use Rattle.repair.proofs.pass.repair.Goals as goal

-- an equation of what is left gives each of its parts
parts : (passed : Passed) (left : Left) (report : List ℕ) → passed ≡ record { left = left; report = report }
    → (left.outcome ≡ passed.left.outcome) × (left.rows ≡ passed.left.rows) × (report ≡ passed.report)
parts passed left report e = (ap (λ (p : Passed). p.left.outcome) (sym e), ap (λ (p : Passed). p.left.rows) (sym e), ap (λ (p : Passed). p.report) (sym e))

pub returns-in-Err : goal.returns-in-Err
returns-in-Err c =
    let s = c.args in
    let number = c.in-Err.ensures s.state c.writable_pages-pages.ensures in
    let left = parts _ _ _ (pass_refused s.rows.now s.state s.list.now s.report.now _ number (eqb-false _ 0 (not_done c.in-Err.refusal))) in
    (ap (λ (a : Answer). record { answer = a; state = s.state }) c.into.ensures ∙ left.0, left.1, left.2)

pub returns : goal.returns
returns c =
    let s = c.args in
    let pages = c.writable_pages-pages.ensures in
    let left = parts _ _ _ (pass_done s.rows.now s.state s.list.now s.report.now (sym (c.in_default.ensures s.state pages))) in
    let repaired = c.all_repaired-pulses.ensures s.state pages in (
      c.beside.ensures ∙ ap₂ (λ (a : Answer) (t : List ℕ). beside a s.state t) (c.spent.ensures ∙ ap (spent 0) repaired.0) repaired.2 ∙ left.0,
      repaired.1 ∙ left.1,
      repaired.3 ∙ left.2,
    )
