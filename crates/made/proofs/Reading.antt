-- The reader, step by step.
-- Assumes nothing.
use mathlib.Core.Bool.{Bool, true, false, not, ◌&&◌}
use mathlib.Core.List.{List, [], ◌∷◌, ◌++◌}
use mathlib.Core.Logic.{◌⊎◌, inl, inr}
use mathlib.Core.Path.{◌≡◌, refl, sym, ap, subst, ◌∙◌}
use Prim.Native.Nat.{ℕ, zero, suc, ◌+◌, ◌-◌, ◌*◌, ◌≤◌, ◌<◌, max}
use native.Mathlib.Nat.{zero-add}
use native.Mathlib.Numerals.{add-one}
use native.Mathlib.Omega.{arith}
use borrow.Author.Tests.{le-leb, lt-leb, le-ltb, eq-eqb, leb-true, leb-false, ltb-false, eqb-true, eqb-false, not-false}
use lib.Dec.{eqb, ltb, leb}
use lib.ListN.{length}
use Rattle.std.specs.Prelude.{if◌then◌else◌}
use Rattle.answer.proofs.Ladders.{never_zero}
use Rattle.form.specs.Entries.{version_of, count_of, entry_from, entry_at, entries_from, entries_of}
use Rattle.form.specs.Faults.{fault_number, ◌otherwise◌, marked, head_fault, form_fault, form_faults, fault_under, rule_of, fault_of, malformed, Fault, Sound, Short, Mark, Version, Count, Length, Kind, Value}
use Rattle.form.specs.declared.entries.Entry.{Entry}
use Rattle.form.proofs.Faulty.{fault_stops, fault_next, one_of, both_sound, head_passed}
use Rattle.pieces.proofs.Parts.{head_not_eleven, forms_not_eleven}
use Rattle.reader.specs.Handing.{well_formed, found_at, place_after, handed_at}
use Rattle.reader.specs.declared.handing.Found.{Found}
use Rattle.reader.specs.declared.handing.Found.TheVariants.{Entry as an_entry, End, Malformed}
use Rattle.made.specs.Reading.{stands_after, handed_in, each_of, HandsOverAll, NeverPasses, EndsInTime, StaysPut, EntryNoRoom}

-- what stands at a place: an entry whose six bytes are there, or the end, or 10
pub data Stands (job : List ℕ) (at : ℕ) : Found → Type 0 where
  an_entry_lem : at + 6 ≤ length job → Stands job at (an_entry (entry_from job at))
  an_end_lem : length job ≤ at → Stands job at End
  ten : at < length job → Stands job at Malformed

stands : (job : List ℕ) (at : ℕ) → Stands job at (found_at job at)
unfolding found_at
stands job at = go (leb (length job) at) (ltb (length job) (at + 6)) (well_formed (entry_from job at)) refl refl
  where
    go : (past part well : Bool) → leb (length job) at ≡ past → ltb (length job) (at + 6) ≡ part
        → Stands job at (if past then End else if part then Malformed else if well then an_entry (entry_from job at) else Malformed)
    go true part well e f = an_end_lem (leb-true (length job) at e)
    go false true well e f = ten (leb-false (length job) at e)
    go false false true e f = an_entry_lem (ltb-false (length job) (at + 6) f)
    go false false false e f = ten (leb-false (length job) at e)

pub stays_put : StaysPut
stays_put job at (inl ended) = ap (λ (found : Found). place_after found at) ended
stays_put job at (inr malformed-there) = ap (λ (found : Found). place_after found at) malformed-there

-- one step stays within the length, or stays put
step : (job : List ℕ) (at : ℕ) → (handed_at job at).at ≤ max at (length job)
step job at = go (stands job at)
  where
    go : {found : Found} → Stands job at found → place_after found at ≤ max at (length job)
    go (an_entry_lem room) = omega arith
    go (an_end_lem past) = omega arith
    go (ten inside) = omega arith

pub never_passes : NeverPasses
unfolding stands_after
never_passes job at zero = omega arith
never_passes job at (suc steps) = omega (arith, never_passes job (handed_at job at).at steps, step job at)

-- the end or 10
abbrev Ended : List ℕ → ℕ → Type 0
Ended job at = (found_at job at ≡ End) ⊎ (found_at job at ≡ Malformed)

-- where it was said, it is said for ever
stuck : (job : List ℕ) (at steps : ℕ) → Ended job at → stands_after job at steps ≡ at
unfolding stands_after
stuck job at zero ended = refl
stuck job at (suc steps) ended = rw (stays_put job at ended) (stuck job at steps ended)

-- an entry takes six bytes, so what is left of the length falls with each
ends : (job : List ℕ) (steps at : ℕ) → length job - at < 6 * (steps + 1) → Ended job (stands_after job at steps)
unfolding stands_after
ends job zero at few = go (found_at job at) refl (stands job at)
  where
    go : (found : Found) → found_at job at ≡ found → Stands job at found → Ended job at
    go (an_entry e) is (an_entry_lem room) = absurd (omega arith)
    go End is (an_end_lem past) = inl is
    go Malformed is (ten inside) = inr is
ends job (suc steps) at few = go (found_at job at) refl (stands job at) (ends job steps (handed_at job at).at)
  where
    stays : Ended job at → Ended job (stands_after job (handed_at job at).at steps)
    stays ended = subst (Ended job) (sym (ap (λ (place : ℕ). stands_after job place steps) (stays_put job at ended) ∙ stuck job at steps ended)) ended

    go : (found : Found) → found_at job at ≡ found → Stands job at found
        → (length job - (handed_at job at).at < 6 * (steps + 1) → Ended job (stands_after job (handed_at job at).at steps))
        → Ended job (stands_after job (handed_at job at).at steps)
    go (an_entry e) is (an_entry_lem room) later = later (rw is (omega arith))
    go End is (an_end_lem past) later = stays (inl is)
    go Malformed is (ten inside) later = stays (inr is)

pub ends_in_time : EndsInTime
ends_in_time job at steps enough = ends job steps at (omega arith)

pub entry_no_room : EntryNoRoom
entry_no_room job at a b one other = one ∙ sym other

-- ---- a job that is not 10

-- a head without a fault: the entries that it counts fill the job
head_filled : (version : ℕ) (job : List ℕ) → head_fault version job ≡ Sound → length job ≡ 7 + 6 * count_of job
unfolding head_fault
head_filled version job e =
    let short = head_passed (ltb (length job) 7) Short _ (never_zero 9) e in
    let mark = head_passed (not (marked job)) Mark _ (never_zero 9) short.1 in
    let own = head_passed (not (eqb (version_of job) version)) Version _ (never_zero 9) mark.1 in
    let many = head_passed (ltb 512 (count_of job)) Count _ (never_zero 9) own.1 in
    let long = head_passed (not (eqb (length job) (7 + 6 * count_of job))) Length _ (never_zero 9) many.1 in
    eqb-true (length job) (7 + 6 * count_of job) (not-false (eqb (length job) (7 + 6 * count_of job)) long.0)

-- the number of an entry's fault does not go by its index
any_index : (i : ℕ) (e : Entry) → fault_number (form_fault i e) ≡ fault_number (form_fault 0 e)
any_index i e = go (ltb 1 e.kind) (eqb e.kind 0 && ltb 65535 e.value)
  where
    go : (a b : Bool) → fault_number (if a then Kind i else if b then Value i else Sound) ≡ fault_number (if a then Kind 0 else if b then Value 0 else Sound)
    go true b = refl
    go false true = refl
    go false false = refl

-- an entry that is there and has no fault is handed over, and the place after it is that of the next
hands : (job : List ℕ) (i : ℕ) → 7 + 6 * (i + 1) ≤ length job → form_fault i (entry_at job i) ≡ Sound → found_at job (7 + 6 * i) ≡ an_entry (entry_at job i)
unfolding found_at entry_at
hands job i room sound =
    let none : fault_number (form_fault 0 (entry_from job (7 + 6 * i))) ≡ 0 = sym (any_index i (entry_from job (7 + 6 * i))) ∙ ap fault_number sound in
    rw (
      lt-leb (length job) (7 + 6 * i) (omega arith),
      le-ltb (length job) (7 + 6 * i + 6) (omega arith),
      eq-eqb (fault_number (form_fault 0 (entry_from job (7 + 6 * i)))) 0 none,
    )

-- at the length it is the end
at_end_lem : (job : List ℕ) (at : ℕ) → length job ≤ at → found_at job at ≡ End
unfolding found_at
at_end_lem job at past = rw (le-leb (length job) at past)

-- so it hands over the entries from one on, and then the end
from_one : (job : List ℕ) (n i : ℕ) → length job ≡ 7 + 6 * (i + n) → form_faults i (entries_from job i n) ≡ Sound
    → handed_in job (7 + 6 * i) (n + 1) ≡ each_of (entries_from job i n) ++ (End ∷ [])
unfolding handed_in each_of entries_from form_faults
from_one job zero i long sound = ap (λ (found : Found). found ∷ []) (at_end_lem job (7 + 6 * i) (omega arith))
from_one job (suc n) i long sound =
    let parts = both_sound (form_fault i (entry_at job i)) (form_faults (i + 1) (entries_from job (suc i) n)) sound in
    let first = hands job i (omega arith) parts.0 in
    let more : suc n + 1 ≡ suc (n + 1) = omega arith in
    let next : 7 + 6 * i + 6 ≡ 7 + 6 * suc i = omega arith in
    let others = from_one job n (suc i) (omega arith) (subst (λ (k : ℕ). form_faults k (entries_from job (suc i) n) ≡ Sound) (add-one i) parts.1) in
    ap (handed_in job (7 + 6 * i)) more ∙ rw (first, next) (ap (λ (rest : List Found). an_entry (entry_at job i) ∷ rest) others)

-- what a job that is not 10 has: entries that fill it, and no fault in their form
module _ (job : List ℕ) (fine : malformed job ≡ false) where
  -- a fault that is not 11 is none
  none_of : (fault next : Fault) → (fault_number fault ≡ 11 → ⊥) → (fault_number (fault otherwise next) ≡ 10 → ⊥) → (fault ≡ Sound) × (fault_number next ≡ 10 → ⊥)
  none_of fault next not-eleven not_ten = go (one_of fault)
    where
      go : (fault ≡ Sound) ⊎ ((fault_number fault ≡ 10) ⊎ (fault_number fault ≡ 11)) → (fault ≡ Sound) × (fault_number next ≡ 10 → ⊥)
      go (inl sound) = (sound, λ ten. not_ten (ap fault_number (fault_next fault next (ap fault_number sound)) ∙ ten))
      go (inr (inl is-ten)) = absurd (not_ten (ap fault_number (fault_stops fault next (λ none. omega (arith, none, is-ten))) ∙ is-ten))
      go (inr (inr eleven)) = absurd (not-eleven eleven)

  parts_sound : (head_fault (rule_of job) job ≡ Sound) × (form_faults 0 (entries_of job) ≡ Sound)
  unfolding fault_under
  parts_sound =
      let head = none_of (head_fault (rule_of job) job) _ (head_not_eleven (rule_of job) job) (eqb-false (fault_number (fault_of job)) 10 fine) in
      let form = none_of (form_faults 0 (entries_of job)) _ (forms_not_eleven job) head.1 in
      (head.0, form.0)

  filled : length job ≡ 7 + 6 * count_of job
  filled = head_filled (rule_of job) job parts_sound.0

pub hands_over_all : HandsOverAll
hands_over_all job fine =
    from_one job (count_of job) 0 (filled job fine ∙ ap (λ (n : ℕ). 7 + 6 * n) (sym (zero-add (count_of job)))) (parts_sound job fine).1
