-- The calls on jobs: run and rehearse (document 01, "Jobs").
use Rattle.std.specs.Prelude.{ℕ, List, eqb}
use Rattle.std.specs.Prelude.{if◌then◌else◌}
use Rattle.chip.specs.declared.state.State.{State}
use Rattle.burn.specs.Burning.{Left, burnt, kept}
use Rattle.form.specs.Entries.{count_of, entries_of}
use Rattle.job.specs.Burning.{Progress, all_written, all_pulses, all_gained, rehearsed}
use Rattle.judge.specs.Verdicts.{verdict_of}
use Rattle.judge.specs.Verdicts.{Verdict}

-- number 0: its rows are burnt; any other is a refusal, with its place
abbrev pub carried_out : Verdict → List ℕ → State → Progress → Left
carried_out judged rows state done =
    if eqb judged.number 0 then burnt state done.gained done.rows done.place done.pulses
    else kept state rows judged.number judged.place

-- a job run as it is judged: each entry is written in turn, and in the end all of them stand
abbrev pub ran_as : Verdict → List ℕ → State → List ℕ → Left
ran_as judged rows state job =
    carried_out judged rows state (record {
      rows = all_written rows (entries_of job);
      gained = all_gained rows (entries_of job);
      pulses = all_pulses rows (entries_of job);
      place = count_of job;
    })

-- run a job
unfoldable pub run_job : List ℕ → State → List ℕ → Left
run_job rows state job = ran_as (verdict_of rows state job) rows state job

-- rehearse a job: judged as a job, it stops after so many pulses
unfoldable pub rehearse : List ℕ → State → List ℕ → ℕ → Left
rehearse rows state job limit = carried_out (verdict_of rows state job) rows state (rehearsed rows limit (entries_of job))
