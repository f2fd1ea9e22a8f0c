-- The place of what is done: the leading entries that stand.
-- Assumes nothing.
use mathlib.Core.Bool.{Bool, true, false}
use mathlib.Core.List.{List, ◌∷◌}
use mathlib.Core.Path.{◌≡◌, refl, sym, ap, ◌∙◌, subst}
use Prim.Native.Nat.{ℕ, zero, suc, ◌+◌, ◌-◌, ◌≤◌, ◌<◌}
use native.Mathlib.Nat.{add-zero, zero-add, le_of_lt}
use native.Mathlib.Omega.{arith}
use borrow.Author.Tests.{eqb-true, eqb-false, leb-false}
use lib.Dec.{eqb, leb}
use lib.ListN.{length, set, length-set}
use lib.Seq.{get_or-set_same, get_or-set_other}
use Rattle.row.specs.Upward.{burnt_upward}
use Rattle.row.specs.Writing.{pulses}
use Rattle.row.specs.Writing.{Written}
use Rattle.answer.proofs.Choices.{both_ways}
use Rattle.chip.specs.Slices.{row_at}
use Rattle.chip.specs.declared.state.State.{State}
use Rattle.burn.specs.Burning.{Left}
use Rattle.access.proofs.Passing.{whole}
use Rattle.form.specs.Entries.{count_of, entry_at, entries_from, entries_of}
use Rattle.form.specs.Faults.{rule_of}
use Rattle.form.specs.declared.entries.Entry.{Entry}
use Rattle.job.specs.Burning.{Progress, written_over, with_entry, rehearsed}
use Rattle.job.specs.Jobs.{run_job, rehearse}
use Rattle.judge.specs.Verdicts.{entry_written, verdict_of}
use Rattle.form.proofs.Faulty.{order_sound}
use Rattle.job.proofs.Whole.{accepted, whole_job}
use Rattle.laws.specs.Calls.{Result, perform}
use Rattle.lead.specs.Ending.{job_in}
use Rattle.cuts.specs.Jobs.{RunsJob, Stands, PlaceStands}
use Rattle.cuts.proofs.Ends.{as_job}
use Rattle.laws.specs.Writes.{In}
use Rattle.cuts.proofs.Acceptance.{carried, carried_number}
use Rattle.laws.proofs.Between.{in_both}
use Rattle.laws.proofs.Entries.{entry_keeps, entry_pulses}
use Rattle.cuts.proofs.RehearsalCut.{burnt_under, burnt_pulses}
use Rattle.cuts.proofs.Rising.{Rising, sound_rising, rising_at, rehearsed_below}
use Rattle.laws.proofs.Writes.{in_itself}

place_few : (job : List ℕ) (n i : ℕ) (rows : List ℕ) (limit : ℕ) → (rehearsed rows limit (entries_from job i n)).place ≤ n
unfolding rehearsed entries_from
place_few job zero i rows limit = omega arith
place_few job (suc n) i rows limit =
    let e = entry_at job i in
    let u : ℕ = (written_over rows e).pulses in
    let rest = place_few job n (suc i) (with_entry rows e) (limit - u) in
    both_ways (λ (p : Progress). p.place ≤ suc n) (leb u limit) _ _ (omega arith) (omega arith)

-- a row of another entry is written the same whether this one was burnt before it or not
same_written : (rows : List ℕ) (at new : ℕ) (e : Entry) → at < e.row → written_over (set rows at new) e ≡ written_over rows e
same_written rows at new e apart = ap (λ (old : ℕ). entry_written old e) (get_or-set_other rows at e.row new 0 (λ same. omega arith))

-- a row cut short lacks a bit
cut_lacks : (n old new : ℕ) → n < pulses old new → In old new → In new (burnt_upward n old new) → ⊥
cut_lacks n old new short over all =
    let under = burnt_under n old new (le_of_lt short) over in
    let same : burnt_upward n old new ≡ new = in_both (burnt_upward n old new) new under all in
    let counted : pulses old new ≡ n = ap (pulses old) (sym same) ∙ burnt_pulses n old new (le_of_lt short) in
    omega arith

abbrev StandsTo : List ℕ → ℕ → ℕ → List ℕ → Progress → Type 0
StandsTo job n i rows p =
    ((k : ℕ) → i ≤ k → k < i + p.place → Stands rows p.rows (entry_at job k))
    × (p.place < n → Stands rows p.rows (entry_at job (i + p.place)) → ⊥)

stands_to : {least : ℕ} (job : List ℕ) (n i : ℕ) (rows : List ℕ) (limit : ℕ) → length rows ≡ 4096 → Rising least (entries_from job i n)
    → StandsTo job n i rows (rehearsed rows limit (entries_from job i n))
unfolding rehearsed entries_from
stands_to job zero i rows limit long Rising.none = (λ k from to. absurd (omega arith), λ below stands. absurd (omega arith))
stands_to {least} job (suc n) i rows limit long (Rising.more low high rest) =
    go (leb (written_over rows (entry_at job i)).pulses limit) refl
    (stands_to {least = (entry_at job i).row + 1} job n (suc i) (with_entry rows (entry_at job i)) (limit - (written_over rows (entry_at job i)).pulses)
    (length-set rows (entry_at job i).row (written_over rows (entry_at job i)).row ∙ long) rest)
  where
    e : Entry
    e = entry_at job i

    old : ℕ
    old = row_at rows e.row

    new : ℕ
    new = (written_over rows e).row

    u : ℕ
    u = (written_over rows e).pulses

    q : Progress
    q = rehearsed (with_entry rows e) (limit - u) (entries_from job (suc i) n)

    few : q.place ≤ n
    few = place_few job n (suc i) (with_entry rows e) (limit - u)

    -- this entry stands once it is burnt whole
    own : Stands rows q.rows e
    own =
        let final : row_at q.rows e.row ≡ new =
        rehearsed_below (entries_from job (suc i) n) (with_entry rows e) (limit - u) e.row rest (omega arith)
        ∙ get_or-set_same rows e.row new 0 (omega arith) in
        rw final (in_itself new)

    -- a later one stands or not as it does over the rows that this one left
    later : (k : ℕ) → suc i ≤ k → k < suc i + n → Stands (with_entry rows e) q.rows (entry_at job k) ≡ Stands rows q.rows (entry_at job k)
    later k from to =
        ap (λ (w : Written). In w.row (row_at q.rows (entry_at job k).row))
        (same_written rows e.row new (entry_at job k) (omega (arith, rising_at job n (suc i) k (e.row + 1) rest from to)))

    go : (t : Bool) → leb u limit ≡ t → StandsTo job n (suc i) (with_entry rows e) q → StandsTo job (suc n) i rows (rehearsed rows limit (e ∷ entries_from job (suc i) n))
    go true all next = rw all (all_stand, one_lacks)
      where
        all_stand : (k : ℕ) → i ≤ k → k < i + (1 + q.place) → Stands rows q.rows (entry_at job k)
        all_stand k from to = by (eqb k i) refl
          where
            by : (t : Bool) → eqb k i ≡ t → Stands rows q.rows (entry_at job k)
            by true same = subst (λ (at : ℕ). Stands rows q.rows (entry_at job at)) (sym (eqb-true k i same)) own
            by false other =
                let from' : suc i ≤ k = omega (arith, eqb-false k i other) in
                subst (λ (T : Type 0). T) (later k from' (omega (arith, few))) (next.0 k from' (omega arith))

        one_lacks : 1 + q.place < suc n → Stands rows q.rows (entry_at job (i + (1 + q.place))) → ⊥
        one_lacks below stands =
            let same : i + (1 + q.place) ≡ suc i + q.place = omega arith in
            next.1 (omega arith)
            (subst (λ (T : Type 0). T) (sym (later (suc i + q.place) (omega arith) (omega arith)))
            (subst (λ (at : ℕ). Stands rows q.rows (entry_at job at)) same stands))
    go false short next =
        let enough : limit < pulses old new = omega (arith, entry_pulses old e, leb-false u limit short) in
        rw short (
          λ k from to. absurd (omega arith),
          λ below stands.
              cut_lacks limit old new enough (entry_keeps old e)
              (subst (λ (row : ℕ). In new row) (get_or-set_same rows e.row (burnt_upward limit old new) 0 (omega arith))
              (subst (λ (at : ℕ). Stands rows (set rows e.row (burnt_upward limit old new)) (entry_at job at)) (add-zero i) stands)),
        )

module _ (rows : List ℕ) (state : State) (job : List ℕ) where
  abbrev Placed : Left → Type 0
  Placed left =
      (left.outcome.answer.place ≤ count_of job)
      × ((i : ℕ) → i < left.outcome.answer.place → Stands rows left.rows (entry_at job i))
      × (left.outcome.answer.place < count_of job → Stands rows left.rows (entry_at job left.outcome.answer.place) → ⊥)

  rehearsal_placed : (limit : ℕ) → (rehearse rows state job limit).outcome.answer.number ≡ 0 → Placed (rehearse rows state job limit)
  unfolding rehearse
  rehearsal_placed limit done =
      let p : Progress = rehearsed rows limit (entries_of job) in
      let none = carried_number (verdict_of rows state job) rows state p done in
      let parts = accepted rows state job none in
      let stands = stands_to job (count_of job) 0 rows limit (whole rows parts.0) (sound_rising (rule_of job) (entries_of job) 0 0 (order_sound job parts.1)) in
      rw (carried (verdict_of rows state job) rows state p none) (
        place_few job (count_of job) 0 rows limit,
        λ i to. stands.0 i (omega arith) (omega arith),
        λ below at_place. stands.1 below (rw (zero-add p.place) at_place),
      )

  job_placed : (run_job rows state job).outcome.answer.number ≡ 0 → Placed (run_job rows state job)
  job_placed = subst (λ (l : Left). l.outcome.answer.number ≡ 0 → Placed l) (whole_job rows state job) (rehearsal_placed 12288)

pub place_stands : PlaceStands
unfolding perform
place_stands chip job _ RunsJob.run done = job_placed chip.rows chip.state job done
place_stands chip job _ (RunsJob.rehearsal {limit = limit}) done = rehearsal_placed chip.rows chip.state job limit done
place_stands chip _ _ (RunsJob.ended {area} {note} room within) done =
    subst
    (λ (r : Result).
    r.answer.number ≡ 0
    → (r.answer.place ≤ count_of (job_in area note))
    × ((i : ℕ) → i < r.answer.place → Stands chip.rows r.chip.rows (entry_at (job_in area note) i))
    × (r.answer.place < count_of (job_in area note) → Stands chip.rows r.chip.rows (entry_at (job_in area note) r.answer.place) → ⊥))
    (as_job chip area note room within) (job_placed chip.rows chip.state (job_in area note)) done
