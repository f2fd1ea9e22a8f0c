-- A rehearsal with enough pulses is the job, and 12,288 pulses are enough for any job that is accepted.
-- Assumes nothing.
use mathlib.Core.Path.{◌≡◌, refl, ap, ◌∙◌}
use mathlib.Core.Bool.{Bool, true, false}
use mathlib.Core.List.{List, [], ◌∷◌}
use Prim.Native.Nat.{ℕ, zero, suc, ◌-◌, ◌*◌, ◌≤◌, zero-le}
use native.Mathlib.Numerals.{one-add}
use native.Mathlib.Omega.{arith}
use borrow.Author.Tests.{le-leb, eqb-true}
use lib.Bits.{bit_and}
use lib.Dec.{eqb}
use lib.ListN.{length}
use Rattle.std.specs.Prelude.{if◌then◌else◌}
use Rattle.row.specs.Code.{set_bits, flipped, plain, inverted}
use Rattle.decode.specs.Reading.{data_of}
use Rattle.row.specs.Writing.{fits, pulses, burnt_over, left_alone, ecc_written, raw_written}
use Rattle.row.proofs.Counts.{ones_le}
use Rattle.answer.specs.Rungs.{first_of}
use Rattle.answer.proofs.Ladders.{passed}
use Rattle.chip.specs.Slices.{not_whole}
use Rattle.chip.specs.declared.state.State.{State}
use Rattle.form.specs.Entries.{count_of, entries_from, entries_of}
use Rattle.form.specs.Faults.{rule_of, fault_of, malformed, out_of_order, Sound}
use Rattle.form.specs.declared.entries.Entry.{Entry}
use Rattle.job.specs.Burning.{Progress, written_over, with_entry, all_written, all_pulses, all_gained, rehearsed}
use Rattle.job.specs.Jobs.{carried_out, run_job, rehearse}
use Rattle.judge.specs.Verdicts.{entry_written, all_rungs, verdict_of}
use Rattle.form.proofs.Faulty.{no_fault, head_kept, head_sound}

-- ---- a row takes at most 24 pulses

pub pulses_few : (old row : ℕ) → pulses old row ≤ 24
unfolding pulses set_bits
pulses_few old row = ones_le 24 (bit_and row (flipped old))

ecc_few : (old value : ℕ) → (ecc_written old value).pulses ≤ 24
ecc_few old value = go (fits old (plain value)) (fits old (inverted value))
  where
    go : (p i : Bool)
        → (if p then burnt_over old (plain value) else if i then burnt_over old (inverted value) else left_alone old 9).pulses ≤ 24
    go true i = pulses_few old (plain value)
    go false true = pulses_few old (inverted value)
    go false false = zero-le

pub entry_few : (old : ℕ) (e : Entry) → (entry_written old e).pulses ≤ 24
unfolding entry_written
entry_few old e = go (eqb e.kind 0)
  where
    go : (ecc : Bool) → (if ecc then ecc_written old (data_of e.value) else raw_written old e.value).pulses ≤ 24
    go true = ecc_few old (data_of e.value)
    go false = pulses_few old _

all_few_lem : (es : List Entry) (rows : List ℕ) → all_pulses rows es ≤ 24 * length es
unfolding all_pulses
all_few_lem [] rows = zero-le
all_few_lem (e ∷ others) rows =
    let here : (written_over rows e).pulses ≤ 24 = entry_few _ e in
    let rest : all_pulses (with_entry rows e) others ≤ 24 * length others = all_few_lem others (with_entry rows e) in
    omega arith

-- ---- enough pulses

-- all entries burnt, and so many standing
abbrev pub finished : List ℕ → List Entry → ℕ → Progress
finished rows es place = record { rows = all_written rows es; gained = all_gained rows es; pulses = all_pulses rows es; place = place }

pub enough : (es : List Entry) (rows : List ℕ) (limit : ℕ) → all_pulses rows es ≤ limit → rehearsed rows limit es ≡ finished rows es (length es)
unfolding rehearsed all_written all_pulses all_gained
enough [] rows limit h = refl
enough (e ∷ others) rows limit h =
    let u : ℕ = (written_over rows e).pulses in
    let here : u ≤ limit = omega arith in
    let rest : all_pulses (with_entry rows e) others ≤ limit - u = omega arith in
    rw (le-leb u limit here, enough others (with_entry rows e) (limit - u) rest, one-add)

pub length_entries : (job : List ℕ) (i n : ℕ) → length (entries_from job i n) ≡ n
unfolding entries_from
length_entries job i zero = refl
length_entries job i (suc n) = ap suc (length_entries job (suc i) n)

-- ---- a job that is accepted

-- its bytes have no fault, and each entry is accepted
pub accepted : (rows : List ℕ) (state : State) (job : List ℕ) → (verdict_of rows state job).number ≡ 0
    → (not_whole rows ≡ false) × (fault_of job ≡ Sound) × (first_of (all_rungs rows state 0 (entries_of job)) ≡ 0)
unfolding verdict_of
accepted rows state job e =
    let one = passed (not_whole rows) 0 _ e in
    let ten = passed (malformed job) 9 _ one.1 in
    let eleven = passed (out_of_order job) 10 _ ten.1 in
    (one.0, no_fault (fault_of job) ten.0 eleven.0, eleven.1)

pub count_few : (job : List ℕ) → fault_of job ≡ Sound → count_of job ≤ 512
count_few job e = (head_kept (rule_of job) job (head_sound job e)).1

-- with 12,288 pulses a rehearsal is the job
pub whole_job : (rows : List ℕ) (state : State) (job : List ℕ) → rehearse rows state job 12288 ≡ run_job rows state job
unfolding rehearse run_job
whole_job rows state job = go (eqb (verdict_of rows state job).number 0) refl
  where
    burnt_whole : (verdict_of rows state job).number ≡ 0 → rehearsed rows 12288 (entries_of job) ≡ finished rows (entries_of job) (count_of job)
    burnt_whole e =
        let few : count_of job ≤ 512 = count_few job (accepted rows state job e).1 in
        let long : length (entries_of job) ≡ count_of job = length_entries job 0 (count_of job) in
        let bound : all_pulses rows (entries_of job) ≤ 24 * length (entries_of job) = all_few_lem (entries_of job) rows in
        enough (entries_of job) rows 12288 (omega arith)
        ∙ ap (finished rows (entries_of job)) long

    go : (t : Bool) → eqb (verdict_of rows state job).number 0 ≡ t
        → carried_out (verdict_of rows state job) rows state (rehearsed rows 12288 (entries_of job))
        ≡ carried_out (verdict_of rows state job) rows state (finished rows (entries_of job) (count_of job))
    go true e = ap (carried_out (verdict_of rows state job) rows state) (burnt_whole (eqb-true _ 0 e))
    go false e = rw e
