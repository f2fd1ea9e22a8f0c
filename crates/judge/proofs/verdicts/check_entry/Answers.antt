-- `judge::verdicts::check_entry` meets its contract: a write that is refused is one of which neither polarity fits.
-- Assumes nothing.
use Rattle.std.proofs.Common.{◌≡◌, [], ◌∷◌, ap, ◌∙◌, rules}
use Rattle.answer.specs.Refusals.{refusal_number}
use Rattle.answer.specs.Rungs.{◌when◌, first_of}
use Rattle.row.specs.Writing.{Written}
use Rattle.judge.specs.Verdicts.{unfit, entry_rungs}
use Rattle.judge.proofs.Fitting.{entry_nine}
use Rattle.judge.proofs.verdicts.check_entry.Goals as goal

pub returns-in_err-entry_written : goal.returns-in_err-entry_written
unfolding entry_rungs
returns-in_err-entry_written c =
    let e = c.args.entry in
    let refusal = c.in_err-entry_written.field-0.0 in
    let nine : refusal_number refusal ≡ first_of (9 when unfit c.row_at-old.result e ∷ []) =
    ap (λ (w : Written). w.number) c.in_err-entry_written.ensures ∙ entry_nine c.row_at-old.result e in
    search rules
