-- Where the version is not 2, a job is judged by the rule of version 1, and so run and rehearsed.
-- Assumes nothing.
use mathlib.Core.List.{List}
use mathlib.Core.Path.{◌≡◌, ap}
use Prim.Native.Nat.{ℕ}
use borrow.Author.Tests.{ne_eqb}
use Rattle.chip.specs.declared.state.State.{State}
use Rattle.form.specs.Entries.{version_of, entries_of}
use Rattle.judge.specs.Verdicts.{verdict_of}
use Rattle.judge.specs.Verdicts.{Verdict}
use Rattle.job.specs.Burning.{rehearsed}
use Rattle.job.specs.Jobs.{carried_out, ran_as, run_job, rehearse}
use Rattle.cuts.specs.Versions.{verdict_as_one, VersionOneStays}

judged_as_one : (rows : List ℕ) (state : State) (job : List ℕ) → (version_of job ≡ 2 → ⊥) → verdict_of rows state job ≡ verdict_as_one rows state job
unfolding verdict_of
judged_as_one rows state job other = rw (ne_eqb (version_of job) 2 other)

pub version_one_stays : VersionOneStays
unfolding run_job rehearse
version_one_stays rows state job limit other =
    let judged = judged_as_one rows state job other in (
      ap (λ (v : Verdict). ran_as v rows state job) judged,
      ap (λ (v : Verdict). carried_out v rows state (rehearsed rows limit (entries_of job))) judged,
    )
