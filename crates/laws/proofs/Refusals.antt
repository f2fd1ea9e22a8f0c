-- A refusal changes nothing.
-- Assumes nothing.
use mathlib.Core.Logic.{◌⊎◌, inl, inr}
use mathlib.Core.List.{List}
use mathlib.Core.Path.{◌≡◌, refl}
use Prim.Native.Nat.{ℕ}
use lib.Dec.{eqb}
use Rattle.answer.specs.Answers.{refused}
use Rattle.std.specs.Prelude.{if◌then◌else◌}
use Rattle.decode.specs.Reading.{read_row}
use Rattle.answer.specs.declared.answers.Condition.TheVariants.{Clean}
use Rattle.answer.specs.declared.answers.Polarity.TheVariants.{Plain}
use Rattle.chip.specs.Slices.{row_at}
use Rattle.chip.specs.declared.state.State.{State}
use Rattle.lock.specs.Calls.{advance_number, show_number, enter_number, advance, show_lock, enter_key}
use Rattle.latch.specs.Resetting.{reset_number, reset}
use Rattle.access.specs.Reads.{read_raw_number, read_ecc_number, read_raw, read_ecc}
use Rattle.access.specs.Votes.{read_vote_number, read_vote}
use Rattle.burn.specs.Writes.{write_raw_number, write_ecc_number, write_raw, write_ecc}
use Rattle.repair.specs.Pass.{Passed, repair_number, repair}
use Rattle.job.specs.Jobs.{run_job, rehearse}
use Rattle.judge.specs.Verdicts.{verdict_of}
use Rattle.lead.specs.Ending.{end_verdict, end_job}
use Rattle.laws.specs.Calls.{Chip, Call, Result, only, stated, leaving, a_reset, a_raw_read, an_ecc_read, a_vote, a_raw_write, an_ecc_write, an_advance, a_show, a_key, a_job, a_rehearsal, an_end, a_repair, perform}
use Rattle.laws.specs.Promises.{RefusalKeeps}
use Rattle.answer.proofs.Choices.{both_ways}
use Rattle.decode.proofs.Undecoded.{read_or_8}

-- a result that is done, of an ECC read or of another call, which says clean and plain, or is a refusal that changes nothing
pub data Kept (chip : Chip) (call : Call) (r : Result) : Type 0 where
  read : (caller row : ℕ) → call ≡ an_ecc_read caller row → r.answer.number ≡ 0 → Kept chip call r
  finished : r.answer.number ≡ 0 → r.answer.condition ≡ Clean → r.answer.polarity ≡ Plain → Kept chip call r
  refusal : r.answer.value ≡ 0 → r.answer.condition ≡ Clean → r.answer.polarity ≡ Plain → r.answer.pulses ≡ 0 → r.chip ≡ chip
      → Kept chip call r

module _ (rows : List ℕ) (state : State) where
  abbrev chip : Chip
  chip = record { rows = rows; state = state }

  -- whatever a call's number is, it is done or refused
  refused_or_done : {call : Call} {A : Type 0} (made : A → Result) (number : ℕ) (a b : A) → Kept chip call (made a) → Kept chip call (made b)
      → Kept chip call (made (if eqb number 0 then a else b))
  refused_or_done {call} {A} made number a b = both_ways (λ (x : A). Kept chip call (made x)) (eqb number 0) a b

  -- a row that may be read can still refuse, by itself
  ecc_read_lem : (caller row held : ℕ) → Kept chip (an_ecc_read caller row) (only chip (read_row held))
  ecc_read_lem caller row held = go (read_or_8 held)
    where
      go : ((read_row held).number ≡ 0) ⊎ (read_row held ≡ refused 8) → Kept chip (an_ecc_read caller row) (only chip (read_row held))
      go (inl done) = read caller row refl done
      go (inr eight) = rw eight (refusal refl refl refl refl refl)

  pub each_call : (call : Call) → Kept chip call (perform chip call)
  unfolding perform reset read_raw read_ecc read_vote write_raw write_ecc advance show_lock enter_key run_job rehearse end_job repair
  each_call a_reset =
      refused_or_done (stated chip) (reset_number rows) _ _ (finished refl refl refl) (refusal refl refl refl refl refl)
  each_call (a_raw_read caller row) =
      refused_or_done (only chip) (read_raw_number rows state caller row) _ _ (finished refl refl refl) (refusal refl refl refl refl refl)
  each_call (an_ecc_read caller row) =
      refused_or_done (only chip) (read_ecc_number rows state caller row) _ _ (ecc_read_lem caller row (row_at rows row)) (refusal refl refl refl refl refl)
  each_call (a_vote caller row count) =
      refused_or_done (only chip) (read_vote_number rows state caller row count) _ _ (finished refl refl refl) (refusal refl refl refl refl refl)
  each_call (a_raw_write caller row value) =
      refused_or_done leaving (write_raw_number rows state caller row value) _ _ (finished refl refl refl) (refusal refl refl refl refl refl)
  each_call (an_ecc_write caller row value) =
      refused_or_done leaving (write_ecc_number rows state caller row value) _ _ (finished refl refl refl) (refusal refl refl refl refl refl)
  each_call (an_advance caller domain page level) =
      refused_or_done (stated chip) (advance_number caller domain page level) _ _ (finished refl refl refl) (refusal refl refl refl refl refl)
  each_call (a_show caller domain page) =
      refused_or_done (only chip) (show_number caller domain page) _ _ (finished refl refl refl) (refusal refl refl refl refl refl)
  each_call (a_key caller key) =
      refused_or_done (stated chip) (enter_number caller key) _ _ (finished refl refl refl) (refusal refl refl refl refl refl)
  each_call (a_job job) =
      refused_or_done leaving (verdict_of rows state job).number _ _ (finished refl refl refl) (refusal refl refl refl refl refl)
  each_call (a_rehearsal job limit) =
      refused_or_done leaving (verdict_of rows state job).number _ _ (finished refl refl refl) (refusal refl refl refl refl refl)
  each_call (an_end area note) =
      refused_or_done leaving (end_verdict rows state area note).number _ _ (finished refl refl refl) (refusal refl refl refl refl refl)
  each_call (a_repair list report) =
      refused_or_done (λ (p : Passed). leaving p.left) (repair_number rows state list report) _ _ (finished refl refl refl) (refusal refl refl refl refl refl)

pub refusal_keeps : RefusalKeeps
refusal_keeps chip call = go (each_call chip.rows chip.state call)
  where
    go : {r : Result} → Kept chip call r → (r.answer.number ≡ 0 → ⊥)
        → (r.answer.value ≡ 0) × (r.answer.condition ≡ Clean) × (r.answer.polarity ≡ Plain) × (r.answer.pulses ≡ 0) × (r.chip ≡ chip)
    go (read caller row is none) some = absurd (some none)
    go (finished none condition polarity) some = absurd (some none)
    go (refusal value condition polarity pulses same) some = (value, condition, polarity, pulses, same)
