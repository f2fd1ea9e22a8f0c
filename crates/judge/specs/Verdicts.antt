-- How a job is judged, whole, before the first pulse (document 01, "Jobs").
use Rattle.std.specs.Prelude.{ℕ, ◌+◌, Bool, not, ◌&&◌, List, [], ◌∷◌, ◌++◌, Result, Ok, Err, eqb}
use Rattle.std.specs.Prelude.{if◌then◌else◌}
use Rattle.decode.specs.Reading.{data_of}
use Rattle.answer.specs.Refusals.{refusal_number}
use Rattle.answer.specs.Rungs.{Rung, ◌when◌, ◌of_entry◌, first_of, place_of}
use Rattle.row.specs.Writing.{Written, ecc_written, raw_written, neither_fits}
use Rattle.permit.specs.Permission.{may_write}
use Rattle.chip.specs.Slices.{row_at, not_whole, too_large}
use Rattle.chip.specs.declared.state.State.{State}
use Rattle.form.specs.Entries.{entries_of}
use Rattle.form.specs.Faults.{malformed, out_of_order}
use Rattle.form.specs.declared.entries.Entry.{Entry}
use Rattle.judge.specs.declared.verdicts.Refused.{Refused}

-- the number of a job, and the place that goes with it
pub record Verdict : Type 0 where
  pub number : ℕ
  pub place : ℕ

-- what writing an entry over a row gives; an ECC entry writes the 16 bits of its value
unfoldable pub entry_written : ℕ → Entry → Written
entry_written old e = if eqb e.kind 0 then ecc_written old (data_of e.value) else raw_written old e.value

-- an ECC entry of which neither polarity fits
abbrev pub unfit : ℕ → Entry → Bool
unfit old e = eqb e.kind 0 && neither_fits old (data_of e.value)

-- the i-th entry, whose row may or may not be written: 7, 3, 9
unfoldable pub entry_rungs : List ℕ → Bool → ℕ → Entry → List Rung
entry_rungs rows may i e =
    7 when not may of_entry i ∷ 3 when too_large rows e.row of_entry i ∷ 9 when unfit (row_at rows e.row) e of_entry i ∷ []

-- entries in order, the first of them the i-th; jobs run as Secure
unfoldable pub all_rungs : List ℕ → State → ℕ → List Entry → List Rung
all_rungs rows state i [] = []
all_rungs rows state i (e ∷ others) = entry_rungs rows (may_write state 0 e.row) i e ++ all_rungs rows state (i + 1) others

-- a job judged whole
abbrev pub job_rungs : List ℕ → State → List ℕ → List Rung
job_rungs rows state job =
    1 when not_whole rows ∷ 10 when malformed job ∷ 11 when out_of_order job ∷ all_rungs rows state 0 (entries_of job)

-- the number, and the place that goes with it
abbrev pub verdict : List Rung → Verdict
verdict rungs = record { number = first_of rungs; place = place_of rungs }

unfoldable pub verdict_of : List ℕ → State → List ℕ → Verdict
verdict_of rows state job = verdict (job_rungs rows state job)

-- a verdict as the code gives it: nothing where a job is accepted, or why it is refused and where
abbrev pub given : Result (Unit {0}) Refused → Verdict
given (Ok accepted) = record { number = 0; place = 0 }
given (Err refused) = record { number = refusal_number refused.refusal; place = refused.place }
