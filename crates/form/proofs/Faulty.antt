-- Faults: a fault goes before the next, and each fault has its number.
-- Assumes nothing.
use mathlib.Core.Path.{◌≡◌, refl, sym, ap, ◌∙◌}
use mathlib.Core.Bool.{Bool, true, false, not, ◌&&◌}
use mathlib.Core.List.{List}
use mathlib.Core.Logic.{◌⊎◌, inl, inr, ⊎_elim}
use Prim.Native.Nat.{ℕ, suc, ◌≤◌}
use borrow.Author.Tests.{eq-eqb, ne_eqb, eqb-true, eqb-false, ltb-false, not-false}
use lib.Dec.{eqb, ltb}
use lib.ListN.{length}
use Rattle.std.specs.Prelude.{if◌then◌else◌}
use Rattle.answer.proofs.Ladders.{never_zero}
use Rattle.form.specs.Entries.{version_of, count_of, entries_of}
use Rattle.form.specs.Faults.{fault_number, ◌otherwise◌, marked, head_fault, form_fault, form_faults, order_faults, fault_under, rule_of, fault_of, Fault, Sound, Short, Mark, Version, Count, Length, Kind, Value, High, Kept, Past, Coded, Late, Order}
use Rattle.form.specs.declared.entries.Entry.{Entry}

pub fault_stops : (fault next : Fault) → (fault_number fault ≡ 0 → ⊥) → (fault otherwise next) ≡ fault
fault_stops fault next some = rw (ne_eqb (fault_number fault) 0 some)

pub fault_next : (fault next : Fault) → fault_number fault ≡ 0 → (fault otherwise next) ≡ next
fault_next fault next none = rw (eq-eqb (fault_number fault) 0 none)

-- the head, then the forms, then the order
module _ (version : ℕ) (job : List ℕ) where
  pub head_stops : (fault_number (head_fault version job) ≡ 0 → ⊥) → fault_under version job ≡ head_fault version job
  unfolding fault_under
  head_stops some = fault_stops (head_fault version job) _ some

  pub form_stops_all : fault_number (head_fault version job) ≡ 0 → (fault_number (form_faults 0 (entries_of job)) ≡ 0 → ⊥)
      → fault_under version job ≡ form_faults 0 (entries_of job)
  unfolding fault_under
  form_stops_all none some = fault_next (head_fault version job) _ none ∙ fault_stops (form_faults 0 (entries_of job)) _ some

  pub order_last : fault_number (head_fault version job) ≡ 0 → fault_number (form_faults 0 (entries_of job)) ≡ 0
      → fault_under version job ≡ order_faults version 0 0 (entries_of job)
  unfolding fault_under
  order_last none no-form = fault_next (head_fault version job) _ none ∙ fault_next (form_faults 0 (entries_of job)) _ no-form

-- ---- no fault

-- a fault is none, or is 10, or is 11: no other lemma goes by the cases of `Fault`
pub one_of : (fault : Fault) → (fault ≡ Sound) ⊎ ((fault_number fault ≡ 10) ⊎ (fault_number fault ≡ 11))
one_of Sound = inl refl
one_of Short = inr (inl refl)
one_of Mark = inr (inl refl)
one_of Version = inr (inl refl)
one_of Count = inr (inl refl)
one_of Length = inr (inl refl)
one_of (Kind i) = inr (inl refl)
one_of (Value i) = inr (inl refl)
one_of (High i) = inr (inr refl)
one_of (Kept i) = inr (inr refl)
one_of (Past i) = inr (inr refl)
one_of (Coded i) = inr (inr refl)
one_of (Late i) = inr (inr refl)
one_of (Order i) = inr (inr refl)

-- neither number: no fault
pub no_fault : (fault : Fault) → eqb (fault_number fault) 10 ≡ false → eqb (fault_number fault) 11 ≡ false → fault ≡ Sound
no_fault fault not_ten not-eleven =
    ⊎_elim (λ sound. sound) (⊎_elim (λ ten. absurd (eqb-false _ 10 not_ten ten)) (λ eleven. absurd (eqb-false _ 11 not-eleven eleven))) (one_of fault)

-- none in both: none in either
pub both_sound : (fault next : Fault) → (fault otherwise next) ≡ Sound → (fault ≡ Sound) × (next ≡ Sound)
both_sound fault next e =
    ⊎_elim (λ sound. (sound, sym (fault_next fault next (ap fault_number sound)) ∙ e)) (⊎_elim (some 9) (some 10)) (one_of fault)
  where
    some : (n : ℕ) → fault_number fault ≡ suc n → (fault ≡ Sound) × (next ≡ Sound)
    some n is =
        let stops = fault_stops fault next (λ none. never_zero n (sym is ∙ none)) in
        absurd (never_zero n (sym is ∙ ap fault_number (sym stops ∙ e)))

-- no number: no fault
pub zero_sound : (fault : Fault) → fault_number fault ≡ 0 → fault ≡ Sound
zero_sound fault none = (both_sound fault Sound (fault_next fault Sound none)).0

-- what a sound head has passed
pub head_passed : (t : Bool) (fault next : Fault) → (fault_number fault ≡ 0 → ⊥) → (if t then fault else next) ≡ Sound → (t ≡ false) × (next ≡ Sound)
head_passed true fault next some e = absurd (some (ap fault_number e))
head_passed false fault next some e = (refl, e)

-- a sound head has its version and at most 512 entries
pub head_kept : (version : ℕ) (job : List ℕ) → head_fault version job ≡ Sound → (version_of job ≡ version) × (count_of job ≤ 512)
unfolding head_fault
head_kept version job e =
    let long = head_passed (ltb (length job) 7) Short _ (never_zero 9) e in
    let mark = head_passed (not (marked job)) Mark _ (never_zero 9) long.1 in
    let own = head_passed (not (eqb (version_of job) version)) Version _ (never_zero 9) mark.1 in
    let few = head_passed (ltb 512 (count_of job)) Count _ (never_zero 9) own.1 in
    (eqb-true (version_of job) version (not-false (eqb (version_of job) version) own.0), ltb-false 512 (count_of job) few.0)

-- a sound job has a sound head
pub head_sound : (job : List ℕ) → fault_of job ≡ Sound → head_fault (rule_of job) job ≡ Sound
unfolding fault_under
head_sound job e = (both_sound (head_fault (rule_of job) job) _ e).0

-- its rows are in order
pub order_sound : (job : List ℕ) → fault_of job ≡ Sound → order_faults (rule_of job) 0 0 (entries_of job) ≡ Sound
unfolding fault_under
order_sound job e = (both_sound (form_faults 0 (entries_of job)) _ (both_sound (head_fault (rule_of job) job) _ e).1).1

-- and its entries are well formed
pub forms_sound : (job : List ℕ) → fault_of job ≡ Sound → form_faults 0 (entries_of job) ≡ Sound
unfolding fault_under
forms_sound job e = (both_sound (form_faults 0 (entries_of job)) _ (both_sound (head_fault (rule_of job) job) _ e).1).0

-- a well formed ECC entry has 16 bits
pub form_kept : (i : ℕ) (e : Entry) → form_fault i e ≡ Sound → e.kind ≡ 0 → e.value ≤ 65535
form_kept i e sound coded =
    let kind = head_passed (ltb 1 e.kind) (Kind i) _ (never_zero 9) sound in
    let value = (head_passed (eqb e.kind 0 && ltb 65535 e.value) (Value i) _ (never_zero 9) kind.1).0 in
    ltb-false 65535 e.value (rw (eq-eqb e.kind 0 coded) at value)
