-- The place of a refusal: the first entry that is refused, with its number; and that over at most one bit no entry is refused with 9.
-- Assumes nothing.
use mathlib.Core.Bool.{Bool, true, false, not, and-eq-true_iff}
use mathlib.Core.List.{List}
use mathlib.Core.Logic.{◌⊎◌, inl, inr}
use mathlib.Core.Path.{◌≡◌, refl, sym, ap, ◌∙◌, subst}
use Prim.Native.Nat.{ℕ, zero, suc, ◌+◌, ◌≤◌, ◌<◌}
use native.Mathlib.Nat.{mod-lt}
use native.Mathlib.Numerals.{add-one}
use native.Mathlib.Omega.{arith}
use borrow.Author.Tests.{eqb-true, eqb-false, ltb-false}
use lib.Dec.{eqb}
use lib.Pow.{pow_pos}
use Rattle.std.specs.Prelude.{if◌then◌else◌}
use Rattle.row.specs.Code.{set_bits}
use Rattle.decode.specs.Reading.{data_of}
use Rattle.answer.specs.Rungs.{first_of}
use Rattle.row.specs.Writing.{ecc_written, neither_fits}
use Rattle.row.proofs.Unfit.{nine}
use Rattle.permit.specs.Permission.{may_write}
use Rattle.chip.specs.Slices.{row_at, not_whole, too_large}
use Rattle.chip.specs.declared.state.State.{State}
use Rattle.form.specs.Entries.{count_of, entry_at, entries_from, entries_of}
use Rattle.form.specs.Faults.{malformed, out_of_order}
use Rattle.form.specs.declared.entries.Entry.{Entry}
use Rattle.job.specs.Burning.{Progress, rehearsed}
use Rattle.job.specs.Jobs.{carried_out, run_job, rehearse}
use Rattle.judge.specs.Verdicts.{unfit, entry_rungs, all_rungs, verdict, verdict_of}
use Rattle.judge.specs.Verdicts.{Verdict}
use Rattle.judge.proofs.Upward.{entry_stops, entry_next}
use Rattle.job.proofs.Whole.{finished}
use Rattle.laws.specs.Calls.{Chip, Result, a_job, perform}
use Rattle.lead.specs.Ending.{job_in}
use Rattle.cuts.specs.Jobs.{RunsJob, NamesEntry, PlaceRefused, OneBitNeverNineInJobs}
use Rattle.cuts.proofs.Ends.{as_job}
use Rattle.laws.proofs.Writes.{one_bit_fits}

module _ (rows : List ℕ) (state : State) where
  abbrev number : Entry → ℕ
  number e = first_of (entry_rungs rows (may_write state 0 e.row) 0 e)

  -- of n entries from the i-th on, the first that is refused
  abbrev First : List ℕ → ℕ → ℕ → Verdict → Type 0
  First job n i v =
      (i ≤ v.place) × (v.place < i + n) × (number (entry_at job v.place) ≡ v.number)
      × ((j : ℕ) → i ≤ j → j < v.place → number (entry_at job j) ≡ 0)

  -- whatever its index, an entry has its number
  same_number : (i : ℕ) (e : Entry) → first_of (entry_rungs rows (may_write state 0 e.row) i e) ≡ number e
  unfolding entry_rungs
  same_number i e = refl

  abbrev judged_from : List ℕ → ℕ → ℕ → Verdict
  judged_from job i n = verdict (all_rungs rows state i (entries_from job i n))

  module _ (job : List ℕ) (n i : ℕ) where
    abbrev e : Entry
    e = entry_at job i

    -- an entry that is not refused hands on to those after it
    handed : number e ≡ 0 → judged_from job i (suc n) ≡ judged_from job (suc i) n
    unfolding entries_from all_rungs
    handed none =
        entry_next rows (may_write state 0 e.row) i e (all_rungs rows state (i + 1) (entries_from job (suc i) n)) (same_number i e ∙ none)
        ∙ ap (λ (at : ℕ). verdict (all_rungs rows state at (entries_from job (suc i) n))) (add-one i)

    stopped : (number e ≡ 0 → ⊥) → judged_from job i (suc n) ≡ record { number = number e; place = i }
    unfolding entries_from all_rungs
    stopped some =
        entry_stops rows (may_write state 0 e.row) i e (all_rungs rows state (i + 1) (entries_from job (suc i) n)) (λ z. some (sym (same_number i e) ∙ z))
        ∙ ap (λ (m : ℕ). at_place m) (same_number i e)
      where
        at_place : ℕ → Verdict
        at_place m = record { number = m; place = i }

  first_refused : (job : List ℕ) (n i : ℕ) → ((judged_from job i n).number ≡ 0 → ⊥) → First job n i (judged_from job i n)
  unfolding entries_from all_rungs
  first_refused job zero i some = absurd (some refl)
  first_refused job (suc n) i some = go (eqb (number (entry_at job i)) 0) refl (first_refused job n (suc i))
    where
      go : (t : Bool) → eqb (number (entry_at job i)) 0 ≡ t
          → (((judged_from job (suc i) n).number ≡ 0 → ⊥) → First job n (suc i) (judged_from job (suc i) n))
          → First job (suc n) i (judged_from job i (suc n))
      go true none later =
          let own : number (entry_at job i) ≡ 0 = eqb-true (number (entry_at job i)) 0 none in
          let rest = handed job n i own in
          let found = later (λ z. some (ap (λ (v : Verdict). v.number) rest ∙ z)) in
          subst (First job (suc n) i) (sym rest)
          (omega arith, omega arith, found.2, λ j from to. earlier own found.3 j from to (eqb j i) refl)
        where
          earlier : number (entry_at job i) ≡ 0
              → ((j : ℕ) → suc i ≤ j → j < (judged_from job (suc i) n).place → number (entry_at job j) ≡ 0)
              → (j : ℕ) → i ≤ j → j < (judged_from job (suc i) n).place → (t : Bool) → eqb j i ≡ t → number (entry_at job j) ≡ 0
          earlier own rest j from to true same = ap (λ (at : ℕ). number (entry_at job at)) (eqb-true j i same) ∙ own
          earlier own rest j from to false other = rest j (omega (arith, eqb-false j i other)) to
      go false other later =
          subst (First job (suc n) i) (sym (stopped job n i (eqb-false (number (entry_at job i)) 0 other)))
          (omega arith, omega arith, refl, λ j from to. absurd (omega arith))

  -- of a whole job: by its bytes, or by an entry
  abbrev Named : List ℕ → ℕ → ℕ → Type 0
  Named job n place =
      ((place ≡ 0) × ((n ≡ 1) ⊎ ((n ≡ 10) ⊎ (n ≡ 11))))
      ⊎ ((place < count_of job) × (number (entry_at job place) ≡ n) × ((i : ℕ) → i < place → number (entry_at job i) ≡ 0))

  verdict_named : (job : List ℕ) → ((verdict_of rows state job).number ≡ 0 → ⊥)
      → Named job (verdict_of rows state job).number (verdict_of rows state job).place
  unfolding verdict_of
  verdict_named job = go (not_whole rows) (malformed job) (out_of_order job)
    where
      entries : ((judged_from job 0 (count_of job)).number ≡ 0 → ⊥)
          → Named job (judged_from job 0 (count_of job)).number (judged_from job 0 (count_of job)).place
      entries some =
          let found = first_refused job (count_of job) 0 some in
          inr (omega arith, found.2, λ i to. found.3 i (omega arith) to)

      go : (one ten eleven : Bool)
          → ((if one then 1 else if ten then 10 else if eleven then 11 else (judged_from job 0 (count_of job)).number) ≡ 0 → ⊥)
          → Named job (if one then 1 else if ten then 10 else if eleven then 11 else (judged_from job 0 (count_of job)).number)
          (if one then 0 else if ten then 0 else if eleven then 0 else (judged_from job 0 (count_of job)).place)
      go true ten eleven some = inl (refl, inl refl)
      go false true eleven some = inl (refl, inr (inl refl))
      go false false true some = inl (refl, inr (inr refl))
      go false false false some = entries some

-- a refused one answers its verdict
refused_answer : (judged : Verdict) (rows : List ℕ) (state : State) (done : Progress)
    → ((carried_out judged rows state done).outcome.answer.number ≡ 0 → ⊥)
    → ((carried_out judged rows state done).outcome.answer.number ≡ judged.number)
    × ((carried_out judged rows state done).outcome.answer.place ≡ judged.place) × (judged.number ≡ 0 → ⊥)
refused_answer judged rows state done some = go (eqb judged.number 0) refl
  where
    go : (t : Bool) → eqb judged.number 0 ≡ t
        → ((carried_out judged rows state done).outcome.answer.number ≡ judged.number)
        × ((carried_out judged rows state done).outcome.answer.place ≡ judged.place) × (judged.number ≡ 0 → ⊥)
    go true none = absurd (some (rw none refl))
    go false other = rw other (refl, refl, eqb-false judged.number 0 other)

job_refused : (chip : Chip) (job : List ℕ) → ((perform chip (a_job job)).answer.number ≡ 0 → ⊥) → NamesEntry chip job (perform chip (a_job job)).answer
unfolding perform run_job
job_refused chip job some =
    let answer =
    refused_answer (verdict_of chip.rows chip.state job) chip.rows chip.state (finished chip.rows (entries_of job) (count_of job)) some in
    rw (answer.0, answer.1) (verdict_named chip.rows chip.state job answer.2)

pub place_refused : PlaceRefused
unfolding perform rehearse
place_refused chip job _ RunsJob.run some = job_refused chip job some
place_refused chip job _ (RunsJob.rehearsal {limit = limit}) some =
    let answer =
    refused_answer (verdict_of chip.rows chip.state job) chip.rows chip.state (rehearsed chip.rows limit (entries_of job)) some in
    rw (answer.0, answer.1) (verdict_named chip.rows chip.state job answer.2)
place_refused chip _ _ (RunsJob.ended {area} {note} room within) some =
    subst (λ (r : Result). (r.answer.number ≡ 0 → ⊥) → NamesEntry chip (job_in area note) r.answer) (as_job chip area note room within)
    (job_refused chip (job_in area note)) some

-- ---- 9 of an entry

-- an entry over a row of at most one bit
never_nine : (rows : List ℕ) (may : Bool) (e : Entry) → set_bits (row_at rows e.row) ≤ 1 → first_of (entry_rungs rows may 0 e) ≡ 9 → ⊥
unfolding entry_rungs
never_nine rows may e few = go (not may) (too_large rows e.row) refl (unfit (row_at rows e.row) e) refl
  where
    old : ℕ
    old = row_at rows e.row

    go : (seven three : Bool) → too_large rows e.row ≡ three → (unfits : Bool) → unfit old e ≡ unfits
        → ◌≡◌ {A = ℕ} (if seven then 7 else if three then 3 else if unfits then 9 else 0) 9 → ⊥
    go true three small unfits fit is = omega arith
    go false true small unfits fit is = omega arith
    go false false small false fit is = omega arith
    go false false small true fit is =
        let value : ℕ = data_of e.value in
        let neither = ((and-eq-true_iff (eqb e.kind 0) (neither_fits old value)).0 fit).1 in
        let low : old ≤ 16777215 = ltb-false 16777215 old small in
        let done : (ecc_written old value).number ≡ 0 = one_bit_fits old value (omega arith) (mod-lt e.value (pow_pos 16)) few in
        let nine-given : (ecc_written old value).number ≡ 9 = nine old value ∙ rw neither in
        omega arith

pub one_bit_never_nine_in_jobs : OneBitNeverNineInJobs
one_bit_never_nine_in_jobs chip job call runs few is-nine =
    go (place_refused chip job call runs (λ none. omega arith))
  where
    go : NamesEntry chip job (perform chip call).answer → ⊥
    go (inl (at, inl one)) = omega arith
    go (inl (at, inr (inl ten))) = omega arith
    go (inl (at, inr (inr eleven))) = omega arith
    go (inr (below, own, before)) =
        never_nine chip.rows (may_write chip.state 0 (entry_at job (perform chip call).answer.place).row) (entry_at job (perform chip call).answer.place) few (own ∙ is-nine)
