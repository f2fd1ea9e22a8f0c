-- The call that announces the end of a job (request 2026-01).
use Rattle.std.specs.Prelude.{ℕ, List, ◌∷◌, ltb, take}
use Rattle.answer.specs.Rungs.{Rung, ◌when◌}
use Rattle.chip.specs.Slices.{not_whole}
use Rattle.chip.specs.declared.state.State.{State}
use Rattle.burn.specs.Burning.{Left}
use Rattle.judge.specs.Verdicts.{job_rungs, verdict}
use Rattle.judge.specs.Verdicts.{Verdict}
use Rattle.job.specs.Jobs.{ran_as}
use Rattle.lead.specs.Notes.{no_room}
use Rattle.lead.specs.declared.notes.Note.{Note}

-- the job: as many area bytes as the note counts
abbrev pub job_in : List ℕ → Note → List ℕ
job_in area note = take note.counted area

-- 1, then 12, then 10 for a count past 3,079, and then the numbers of the job
abbrev pub end_rungs : List ℕ → State → List ℕ → Note → List Rung
end_rungs rows state area note =
    1 when not_whole rows ∷ 12 when no_room area ∷ 10 when ltb 3079 note.counted ∷ job_rungs rows state (job_in area note)

unfoldable pub end_verdict : List ℕ → State → List ℕ → Note → Verdict
end_verdict rows state area note = verdict (end_rungs rows state area note)

-- announce the end: the job is run as it is judged
unfoldable pub end_job : List ℕ → State → List ℕ → Note → Left
end_job rows state area note = ran_as (end_verdict rows state area note) rows state (job_in area note)
