-- What each call that burns counts: which rows gained how many bits, and that these are of the pages that it names.
-- Assumes nothing.
use mathlib.Core.Bool.{Bool, true, false}
use mathlib.Core.List.{List, [], ◌∷◌}
use mathlib.Core.Logic.{◌⊎◌, inl, inr}
use mathlib.Core.Path.{◌≡◌, refl, sym, ap, ◌∙◌, subst}
use Prim.Native.Nat.{ℕ, zero, suc, ◌+◌, ◌-◌, ◌≤◌, ◌<◌, zero-le, suc-le-suc}
use native.Mathlib.Nat.{le_of_suc-le-suc, not-suc-le-zero}
use native.Mathlib.Omega.{arith}
use borrow.Author.Tests.{eq-eqb, eqb-true, eqb-false, leb-false}
use lib.Dec.{eqb, ltb, leb}
use lib.ListN.{length, get_or, set}
use lib.Seq.{set-get_or}
use Rattle.answer.proofs.Ladders.{never_zero}
use Rattle.row.specs.Upward.{burnt_upward}
use Rattle.row.specs.Writing.{pulses, ecc_written, raw_written}
use Rattle.row.specs.Writing.{Written}
use Rattle.answer.proofs.Choices.{both_ways}
use Rattle.answer.proofs.Ladders.{passed}
use Rattle.chip.specs.Pages.{page_of}
use Rattle.permit.specs.Permission.{may_write}
use Rattle.chip.specs.Slices.{row_at, not_whole}
use Rattle.chip.specs.Tallies.{Gain, ◌gains◌, with_gains}
use Rattle.chip.specs.declared.state.State.{State}
use Rattle.burn.specs.Burning.{Left, one_row}
use Rattle.access.specs.Judging.{raw, call_rungs}
use Rattle.burn.specs.Writes.{write_raw_number, write_ecc_number, write_raw, write_ecc}
use Rattle.access.proofs.Passing.{whole, call_passed}
use Rattle.repair.specs.Pass.{look_at, looks, mended_rows, mending_gains, repair}
use Rattle.repair.proofs.Passing.{let_by, pass_number, pass_done}
use Rattle.repair.proofs.Turns.{in_turn_lem}
use Rattle.form.specs.Entries.{entry_at, entries_from, entries_of}
use Rattle.form.specs.Faults.{rule_of}
use Rattle.form.specs.declared.entries.Entry.{Entry}
use Rattle.job.specs.Burning.{Progress, written_over, with_entry, cut_gained, rehearsed}
use Rattle.job.specs.Jobs.{run_job, rehearse}
use Rattle.judge.specs.Verdicts.{verdict_of}
use Rattle.form.proofs.Faulty.{order_sound}
use Rattle.job.proofs.Whole.{accepted, whole_job}
use Rattle.lead.specs.Ending.{job_in, end_job}
use Rattle.lead.specs.declared.notes.Note.{Note}
use Rattle.lead.proofs.Ends.{kept_or_run}
use Rattle.laws.specs.Writes.{In}
use Rattle.cuts.proofs.Acceptance.{carried, carried_number}
use Rattle.laws.proofs.CallWrites.{allowed_by, left_rows}
use Rattle.laws.proofs.Entries.{ecc_pulses, entry_keeps, entry_pulses, burnt_over_lem}
use Rattle.cuts.proofs.Gains.{Gained, rows_of, Among}
use Rattle.cuts.proofs.RehearsalCut.{burnt_pulses}
use Rattle.cuts.proofs.Rising.{Rising, sound_rising}
use Rattle.laws.proofs.Mending.{left_keeps, found_pulses}
use Rattle.laws.proofs.Writes.{in_itself, keeps_bits, stands_already}

-- ---- entries in order

none_gain : {least : ℕ} (es : List Entry) (rows : List ℕ) → Rising least es → Gained rows (cut_gained 0 es) rows
unfolding cut_gained
none_gain [] rows Rising.none = Gained.none
none_gain {least} (e ∷ others) rows (Rising.more low high rest) =
    Gained.more e.row (row_at rows e.row) 0 (omega arith) (in_itself (row_at rows e.row)) (sym (stands_already (row_at rows e.row)))
    (subst (λ (same : List ℕ). Gained same (cut_gained 0 others) rows) (sym (set-get_or rows e.row 0)) (none_gain {least = e.row + 1} others rows rest))

entries_gain : {least : ℕ} (es : List Entry) (rows : List ℕ) (limit : ℕ) → Rising least es
    → Gained rows (rehearsed rows limit es).gained (rehearsed rows limit es).rows
unfolding rehearsed cut_gained
entries_gain [] rows limit Rising.none = Gained.none
entries_gain {least} (e ∷ others) rows limit (Rising.more low high rest) =
    go (leb u limit) refl (entries_gain {least = e.row + 1} others (with_entry rows e) (limit - u) rest)
  where
    old : ℕ
    old = row_at rows e.row

    new : ℕ
    new = (written_over rows e).row

    u : ℕ
    u = (written_over rows e).pulses

    rest_of : Progress
    rest_of = rehearsed (with_entry rows e) (limit - u) others

    whole_of : Progress
    whole_of = rehearsed rows limit (e ∷ others)

    go : (t : Bool) → leb u limit ≡ t → Gained (with_entry rows e) rest_of.gained rest_of.rows → Gained rows whole_of.gained whole_of.rows
    go true all next = rw all (Gained.more e.row new u (omega arith) (entry_keeps old e) (entry_pulses old e) next)
    go false short next =
        let enough : limit ≤ pulses old new = omega (arith, entry_pulses old e, leb-false u limit short) in
        let cut : ℕ = burnt_upward limit old new in
        rw short
        (Gained.more e.row cut limit (omega arith) (burnt_over_lem limit old new) (sym (burnt_pulses limit old new enough))
        (none_gain others (set rows e.row cut) rest))

-- the rows of the gains are those of the entries, in order
abbrev entry_rows : List Entry → List ℕ
entry_rows [] = []
entry_rows (e ∷ others) = e.row ∷ entry_rows others

cut_rows : (bits : ℕ) (es : List Entry) → rows_of (cut_gained bits es) ≡ entry_rows es
unfolding cut_gained
cut_rows bits [] = refl
cut_rows bits (e ∷ others) = ap (λ (rest : List ℕ). e.row ∷ rest) (cut_rows 0 others)

pub entries_rows : (es : List Entry) (rows : List ℕ) (limit : ℕ) → rows_of (rehearsed rows limit es).gained ≡ entry_rows es
unfolding rehearsed
entries_rows [] rows limit = refl
entries_rows (e ∷ others) rows limit =
    let u : ℕ = (written_over rows e).pulses in
    both_ways (λ (p : Progress). rows_of p.gained ≡ entry_rows (e ∷ others)) (leb u limit) _ _
    (ap (λ (rest : List ℕ). e.row ∷ rest) (entries_rows others (with_entry rows e) (limit - u)))
    (cut_rows limit (e ∷ others))

module _ (page : ℕ) where
  pub among_at : (job : List ℕ) (n i k : ℕ) → i ≤ k → k < i + n → page_of (entry_at job k).row ≡ page → Among page (entry_rows (entries_from job i n))
  unfolding entries_from
  among_at job zero i k from to at = absurd (omega arith)
  among_at job (suc n) i k from to at = go (eqb k i) refl (λ later. among_at job n (suc i) k later (omega arith) at)
    where
      go : (t : Bool) → eqb k i ≡ t → (suc i ≤ k → Among page (entry_rows (entries_from job (suc i) n)))
          → (page_of (entry_at job i).row ≡ page) ⊎ Among page (entry_rows (entries_from job (suc i) n))
      go true same rest = inl (ap (λ (m : ℕ). page_of (entry_at job m).row) (sym (eqb-true k i same)) ∙ at)
      go false other rest = inr (rest (omega (arith, eqb-false k i other)))

  pub at_among : (job : List ℕ) (n i : ℕ) → Among page (entry_rows (entries_from job i n))
      → (k : ℕ) × (k < i + n) × (page_of (entry_at job k).row ≡ page)
  unfolding entries_from
  at_among job zero i none = absurd none
  at_among job (suc n) i (inl here) = (i, omega arith, here)
  at_among job (suc n) i (inr later) =
      let found = at_among job n (suc i) later in
      (found.0, omega (arith, found.1), found.2)

-- the rows of a repair's gains are those of its list
pub listed_rows : (rows : List ℕ) (state : State) (list : List ℕ) → rows_of (mending_gains (looks rows state list)) ≡ list
unfolding looks mending_gains
listed_rows rows state [] = refl
listed_rows rows state (row ∷ others) = ap (λ (rest : List ℕ). row ∷ rest) (listed_rows rows state others)

module _ (page : ℕ) where
  pub among_listed : (list : List ℕ) (i : ℕ) → i < length list → page_of (get_or list i 0) ≡ page → Among page list
  among_listed [] i below at = absurd (not-suc-le-zero below)
  among_listed (row ∷ others) zero below at = inl at
  among_listed (row ∷ others) (suc i) below at = inr (among_listed others i (le_of_suc-le-suc below) at)

  pub listed_among : (list : List ℕ) → Among page list → (i : ℕ) × (i < length list) × (page_of (get_or list i 0) ≡ page)
  listed_among [] none = absurd none
  listed_among (row ∷ others) (inl here) = (0, suc-le-suc zero-le, here)
  listed_among (row ∷ others) (inr later) =
      let found = listed_among others later in
      (suc found.0, suc-le-suc found.1, found.2)

-- ---- calls

-- what a call that burns counts, from the rows and the state to what is left
pub record CountsTo (rows : List ℕ) (state : State) (left : Left) (gained : List Gain) : Type 0 where
  pub long : length rows ≡ 4096
  pub tallies : left.outcome.state.tallies ≡ with_gains state.tallies gained
  pub burnt : Gained rows gained left.rows

module _ (rows : List ℕ) (state : State) where
  pub rehearsal_counts : (job : List ℕ) (limit : ℕ) → (rehearse rows state job limit).outcome.answer.number ≡ 0
      → CountsTo rows state (rehearse rows state job limit) (rehearsed rows limit (entries_of job)).gained
  unfolding rehearse
  rehearsal_counts job limit done =
      let none = carried_number (verdict_of rows state job) rows state (rehearsed rows limit (entries_of job)) done in
      let parts = accepted rows state job none in
      rw (carried (verdict_of rows state job) rows state (rehearsed rows limit (entries_of job)) none) record {
        long = whole rows parts.0;
        tallies = refl;
        burnt = entries_gain (entries_of job) rows limit (sound_rising (rule_of job) (entries_of job) 0 0 (order_sound job parts.1));
      }

  -- a job is a rehearsal with enough pulses
  pub job_counts : (job : List ℕ) → (run_job rows state job).outcome.answer.number ≡ 0
      → CountsTo rows state (run_job rows state job) (rehearsed rows 12288 (entries_of job)).gained
  job_counts job =
      subst (λ (l : Left). l.outcome.answer.number ≡ 0 → CountsTo rows state l (rehearsed rows 12288 (entries_of job)).gained)
      (whole_job rows state job) (rehearsal_counts job 12288)

  -- and the end of one that came in chunks is that job, or a refusal
  pub end_counts : (area : List ℕ) (note : Note) → (end_job rows state area note).outcome.answer.number ≡ 0
      → CountsTo rows state (end_job rows state area note) (rehearsed rows 12288 (entries_of (job_in area note))).gained
  end_counts area note =
      kept_or_run rows state area note
      (λ (l : Left). l.outcome.answer.number ≡ 0 → CountsTo rows state l (rehearsed rows 12288 (entries_of (job_in area note))).gained)
      (λ n none. absurd (never_zero n none)) (job_counts (job_in area note))

  -- of a repair, each listed row in turn
  pub repair_counts : (list report : List ℕ) → (repair rows state list report).left.outcome.answer.number ≡ 0
      → CountsTo rows state (repair rows state list report).left (mending_gains (looks rows state list))
  unfolding looks mended_rows mending_gains
  repair_counts list report done =
      let none = sym (pass_number rows state list report) ∙ done in
      let by = let_by rows state list report none in
      rw (pass_done rows state list report none) record {
        long = by.0;
        tallies = refl;
        burnt = in_turn_lem rows state (λ (held left : List ℕ). Gained held (mending_gains (looks rows state left)) (mended_rows held (looks rows state left)))
            (λ held. Gained.none)
            (λ held row others low still rest.
            Gained.more row _ _ (omega (arith, low)) (rw still (left_keeps (look_at rows state row).found (row_at rows row)))
            (rw still (found_pulses (may_write state 0 row) (row_at rows row))) rest) list by.1;
      }

  row_counts : (row number : ℕ) (written : Written) → number ≡ 0 → length rows ≡ 4096 → row < length rows → In (row_at rows row) written.row
      → written.pulses ≡ pulses (row_at rows row) written.row
      → CountsTo rows state (one_row number rows state row written) (row gains written.pulses ∷ [])
  row_counts row number written none long inside over is =
      rw (eq-eqb number 0 none) record {
        long = long;
        tallies = refl;
        burnt = Gained.more row written.row written.pulses (omega arith) over is Gained.none;
      }

  pub raw_counts : (caller row value : ℕ) → (write_raw rows state caller row value).outcome.answer.number ≡ 0
      → CountsTo rows state (write_raw rows state caller row value) (row gains (raw_written (row_at rows row) value).pulses ∷ [])
  unfolding write_raw call_rungs
  raw_counts caller row value done =
      let written : Written = raw_written (row_at rows row) value in
      let none = (left_rows rows state row (write_raw_number rows state caller row value) written done).0 in
      let inside = (call_passed rows state caller row raw (ltb 16777215 value) (may_write state caller row) none).0 in
      row_counts row _ written none (whole rows (passed (not_whole rows) 0 _ none).0) inside (keeps_bits (row_at rows row) value).1 refl

  pub ecc_counts : (caller row value : ℕ) → (write_ecc rows state caller row value).outcome.answer.number ≡ 0
      → CountsTo rows state (write_ecc rows state caller row value) (row gains (ecc_written (row_at rows row) value).pulses ∷ [])
  unfolding write_ecc call_rungs
  ecc_counts caller row value done =
      let written : Written = ecc_written (row_at rows row) value in
      let none = (left_rows rows state row (write_ecc_number rows state caller row value) written done).0 in
      row_counts row _ written none (whole rows (passed (not_whole rows) 0 _ none).0) (allowed_by rows state caller row value none)
      (keeps_bits (row_at rows row) value).0 (ecc_pulses (row_at rows row) value)
