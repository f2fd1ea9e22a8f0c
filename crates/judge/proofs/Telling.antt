-- The code's verdict can be told from the one that the definitions have.
-- Assumes nothing.
use mathlib.Core.Path.{◌≡◌, refl, ap}
use Rattle.std.specs.Prelude.{Result, Ok, Err, eqb}
use Rattle.std.specs.Prelude.{if◌then◌else◌}
use Rattle.answer.specs.declared.refusals.Refusal.{Refusal}
use Rattle.answer.proofs.Numbered.{not_done, refusal_with, numbered}
use Rattle.answer.proofs.Telling.{told_apart}
use Rattle.judge.specs.Verdicts.{Verdict, given}
use Rattle.judge.specs.declared.verdicts.Refused.{Refused}

abbrev taken_back : Verdict → Result (Unit {0}) Refused
taken_back verdict = if eqb verdict.number 0 then Ok tt else Err (record { refusal = refusal_with verdict.number; place = verdict.place })

back : (judged : Result (Unit {0}) Refused) → taken_back (given judged) ≡ judged
back (Ok tt) = refl
back (Err refused) =
    rw (not_done refused.refusal) (ap (λ (refusal : Refusal). Err (record { refusal = refusal; place = refused.place })) (numbered refused.refusal))

pub given_tells : (a b : Result (Unit {0}) Refused) → given a ≡ given b → a ≡ b
given_tells = told_apart given taken_back back
