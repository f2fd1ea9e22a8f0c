-- The job that was made, run on the present image: it gives the wanted one, after any cuts too, and no shorter job does.
-- Assumes nothing.
use mathlib.Core.Bool.{Bool, true, false, true≢false}
use mathlib.Core.List.{List}
use mathlib.Core.Logic.{◌⊎◌, inl, inr, ◌↔◌}
use mathlib.Core.Path.{◌≡◌, refl, sym, ap, subst, ◌∙◌}
use Prim.Native.Nat.{ℕ, ◌≤◌, ◌<◌}
use native.Mathlib.Nat.{zero-add}
use native.Mathlib.Omega.{arith}
use borrow.Author.Tests.{eq-eqb, ltb-true, ltb-false}
use lib.Dec.{ltb}
use lib.ListN.{length, get_or, take}
use Rattle.answer.specs.Rungs.{first_of}
use Rattle.answer.proofs.Choices.{own_number}
use Rattle.chip.specs.declared.state.State.{State}
use Rattle.permit.specs.Permission.{may_write}
use Rattle.burn.specs.Burning.{Left, burnt, kept}
use Rattle.form.specs.Entries.{version_of, count_of, entry_at, entries_of}
use Rattle.form.specs.Faults.{fault_of, Sound}
use Rattle.form.specs.declared.entries.Entry.{Entry}
use Rattle.judge.specs.Verdicts.{all_rungs, verdict_of}
use Rattle.job.specs.Burning.{all_written, all_pulses, all_gained}
use Rattle.job.specs.Jobs.{run_job}
use Rattle.job.proofs.Whole.{length_entries}
use Rattle.maker.specs.Images.{changes}
use Rattle.maker.specs.Making.{job_bytes}
use Rattle.laws.specs.Calls.{a_job, perform}
use Rattle.laws.specs.Promises.{Burns}
use Rattle.laws.specs.Writes.{newly_set}
use Rattle.cuts.specs.Cuts.{ready, Bytes}
use Rattle.cuts.proofs.Acceptance.{ran_number, ran}
use Rattle.cuts.proofs.CutPower.{cut_power}
use Rattle.cuts.proofs.Pulses.{pulses_are_new_bits}
use Rattle.pieces.proofs.Ends.{front_bytes}
use Rattle.made.specs.Refusing.{Differs, differing}
use Rattle.made.specs.Jobs.{Makes, Change, EachEntryDiffers, EachRowHasEntry, NoneIsShorter, bits_differing, RunsToWanted, CutsReachWanted}
use Rattle.made.proofs.Burnt.{judged, reached, bits_newly_set}
use Rattle.made.proofs.Bytes.{job_bytes_lem}
use Rattle.made.proofs.Changes.{Changes, changed}
use Rattle.made.proofs.Listed.{nothing, at_index, each, rising, has}
use Rattle.made.proofs.Passing.{Passed, done_passed}
use Rattle.made.proofs.Rows.{counted}
use Rattle.made.proofs.Shorter.{at_least}
use Rattle.made.proofs.Sound.{head, entries, sound, is_put}

-- ---- what is read of it

module _ (present wanted out job : List ℕ) (m : Makes present wanted out job) where
  abbrev p : Passed present wanted out
  p = done_passed present wanted out m.done

  version_one : version_of job ≡ 1
  version_one = rw (is_put present wanted out job m) (head present wanted out p).0

  entry_count : count_of job ≡ length (changes present wanted)
  entry_count = rw (is_put present wanted out job m) (head present wanted out p).1

  its_entries : entries_of job ≡ changes present wanted
  its_entries = subst (λ (j : List ℕ). entries_of j ≡ changes present wanted) (sym (is_put present wanted out job m)) (entries present wanted out p)

  no_fault : fault_of job ≡ Sound
  no_fault = subst (λ (j : List ℕ). fault_of j ≡ Sound) (sym (is_put present wanted out job m)) (sound present wanted out p)

  abbrev all : Changes present wanted 0 4096 (changes present wanted)
  all = changed present wanted 4096

  -- the entry at an index is that of the list
  indexed : (i : ℕ) → i < count_of job → get_or (changes present wanted) i nothing ≡ entry_at job i
  indexed i h =
      ap (λ (es : List Entry). get_or es i nothing) (sym its_entries) ∙ at_index job (count_of job) 0 i h ∙ ap (entry_at job) (zero-add i)

  its_rows : (k i : ℕ) → k < i → i < count_of job → (entry_at job k).row < (entry_at job i).row
  its_rows k i less h =
      omega (
        arith,
        rising present wanted all k i less (omega (arith, entry_count)),
        ap (λ (e : Entry). e.row) (indexed k (omega arith)),
        ap (λ (e : Entry). e.row) (indexed i h),
      )

  -- a row that differs is below 0xf40
  low_row : (row : ℕ) → Differs present wanted row → row < 0xf40
  low_row row differs = go (ltb row 0xf40) refl
    where
      go : (t : Bool) → ltb row 0xf40 ≡ t → row < 0xf40
      go true data-row = ltb-true row 0xf40 data-row
      go false high = absurd (differs (p.rows_kept row (ltb-false row 0xf40 high)))

pub each_entry_differs : EachEntryDiffers
each_entry_differs present wanted out job m = (
  version_one present wanted out job m,
  λ i h. subst (Change present wanted) (indexed present wanted out job m i h) (each present wanted (changed present wanted 4096) i (omega (arith, entry_count present wanted out job m))).0,
  its_rows present wanted out job m,
)

pub each_row_has_entry : EachRowHasEntry
each_row_has_entry present wanted out job row m differs =
    let low = low_row present wanted out job m row differs in
    let found = has present wanted (changed present wanted 4096) row (omega arith) (omega arith) low differs in
    let within = found.1 in
    let there : found.0 < count_of job = omega (arith, within, entry_count present wanted out job m) in
    (found.0, there, sym (ap (λ (e : Entry). e.row) (indexed present wanted out job m found.0 there)) ∙ found.2)

-- ---- no shorter job

pub none_is_shorter : NoneIsShorter
none_is_shorter present wanted out job other state m accepted leaves =
    let left : all_written present (entries_of other) ≡ wanted =
    sym (ap (λ (l : Left). l.rows) (ran present state other (ran_number present state other accepted))) ∙ leaves in
    let few = subst (λ (rows : List ℕ). differing present rows 4096 ≤ length (entries_of other)) left (at_least present (entries_of other) 4096) in
    omega (
      arith,
      few,
      entry_count present wanted out job m,
      counted present wanted (done_passed present wanted out m.done).rows_kept 4096,
      length_entries other 0 (count_of other),
    )

-- ---- run

-- a run answers its verdict
run_number : (rows : List ℕ) (state : State) (job : List ℕ) → (run_job rows state job).outcome.answer.number ≡ (verdict_of rows state job).number
unfolding run_job
run_number rows state job =
    own_number (λ (l : Left). l.outcome.answer.number) (verdict_of rows state job).number
    (burnt state (all_gained rows (entries_of job)) (all_written rows (entries_of job)) (count_of job) (all_pulses rows (entries_of job)))
    (kept state rows (verdict_of rows state job).number (verdict_of rows state job).place) refl refl

-- that of a whole image and a job without a fault is that of its entries
entries_verdict : (rows : List ℕ) (state : State) (job : List ℕ) → length rows ≡ 4096 → fault_of job ≡ Sound
    → (verdict_of rows state job).number ≡ first_of (all_rungs rows state 0 (entries_of job))
unfolding verdict_of
entries_verdict rows state job whole sound-job = rw (eq-eqb (length rows) 4096 whole, sound-job)

-- the pulses of a done run are the bits newly set
run_pulses : (rows : List ℕ) (state : State) (job : List ℕ) → (run_job rows state job).outcome.answer.number ≡ 0
    → (run_job rows state job).outcome.answer.pulses ≡ newly_set rows (run_job rows state job).rows
unfolding perform
run_pulses rows state job done = pulses_are_new_bits (record { rows = rows; state = state }) (a_job job) Burns.job done

module _ (present wanted out job : List ℕ) (state : State) (m : Makes present wanted out job) where
  abbrev ran_job : Left
  ran_job = run_job present state job

  answer : ran_job.outcome.answer.number ≡ first_of (all_rungs present state 0 (changes present wanted))
  answer =
      run_number present state job
      ∙ entries_verdict present state job (done_passed present wanted out m.done).of_present.0 (no_fault present wanted out job m)
      ∙ ap (λ (es : List Entry). first_of (all_rungs present state 0 es)) (its_entries present wanted out job m)

  wanted_rows : ran_job.outcome.answer.number ≡ 0 → (ran_job.rows ≡ wanted) × (ran_job.outcome.answer.pulses ≡ bits_differing present wanted)
  wanted_rows zero =
      let q = done_passed present wanted out m.done in
      let left : ran_job.rows ≡ wanted =
      ap (λ (l : Left). l.rows) (ran present state job (ran_number present state job zero))
      ∙ ap (all_written present) (its_entries present wanted out job m)
      ∙ reached present wanted q.bits_kept q.of_present.0 q.of_wanted.0 q.rows_kept (changes present wanted) (changed present wanted 4096) in
      (left, run_pulses present state job zero ∙ ap (newly_set present) left ∙ bits_newly_set present wanted q.bits_kept)

pub runs_to_wanted : RunsToWanted
runs_to_wanted present wanted out job state m =
    go (judged present wanted state (done_passed present wanted out m.done).of_present.1 0 (changed present wanted 4096))
  where
    number : ℕ
    number = first_of (all_rungs present state 0 (changes present wanted))

    is : (run_job present state job).outcome.answer.number ≡ number
    is = answer present wanted out job state m

    Shut : Type 0
    Shut = (row : ℕ) × Differs present wanted row × (may_write state 0 row ≡ false)

    go : ((number ≡ 0) × ((row : ℕ) → 0 ≤ row → row < 4096 → row < 0xf40 → Differs present wanted row → may_write state 0 row ≡ true)) ⊎ ((number ≡ 7) × Shut)
        → (((run_job present state job).outcome.answer.number ≡ 0) ⊎ ((run_job present state job).outcome.answer.number ≡ 7))
        × (((run_job present state job).outcome.answer.number ≡ 7) ↔ Shut)
        × ((run_job present state job).outcome.answer.number ≡ 0
        → ((run_job present state job).rows ≡ wanted) × ((run_job present state job).outcome.answer.pulses ≡ bits_differing present wanted))
    go (inl (zero, may)) = (
      inl (is ∙ zero),
      (
        λ seven. absurd (omega (arith, is, zero, seven)),
        λ shut.
            let low = low_row present wanted out job m shut.0 shut.1 in
            absurd (true≢false (sym (may shut.0 (omega arith) (omega arith) low shut.1) ∙ shut.2)),
      ),
      wanted_rows present wanted out job state m,
    )
    go (inr (seven, shut)) = (inr (is ∙ seven), (λ s. shut, λ b. is ∙ seven), λ zero. absurd (omega (arith, is, zero, seven)))

-- ---- cut power

pub cuts_reach_wanted : CutsReachWanted
cuts_reach_wanted present wanted out job left before later key spent bytes m accept cuts =
    let put_bytes : Bytes job =
    subst Bytes (sym (is_put present wanted out job m))
    (job_bytes_lem (changes present wanted) (take (job_bytes (changes present wanted)) out) 1 (front_bytes out (job_bytes (changes present wanted)) bytes)) in
    let law =
    cut_power present left before later key job spent put_bytes accept cuts (λ two. absurd (omega (arith, two, version_one present wanted out job m))) in
    let uncut = wanted_rows present wanted out job (ready present before key) m accept.1 in
    (law.0, law.1 ∙ sym law.2 ∙ uncut.0, law.3 ∙ uncut.1)
