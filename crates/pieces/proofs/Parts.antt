-- What the parts of a file can be at fault for: a sound head has all that it must, a head or a form is never 11, and a row is never 10.
-- Assumes nothing.
use mathlib.Core.Path.{◌≡◌, refl, sym, ap, ◌∙◌}
use mathlib.Core.Bool.{Bool, true, false, not, ◌&&◌, true≢false}
use mathlib.Core.List.{List}
use Prim.Native.Nat.{ℕ, ◌+◌, ◌*◌, ◌≤◌}
use native.Mathlib.Omega.{arith}
use borrow.Author.Tests.{eqb-true, ltb-false, not-false}
use lib.Dec.{eqb, ltb, leb}
use lib.ListN.{length}
use Rattle.answer.proofs.Choices.{both_ways}
use Rattle.answer.proofs.Ladders.{never_zero}
use Rattle.chip.specs.Pages.{is_lock_row}
use Rattle.form.specs.Entries.{byte_at, version_of, count_of, entry_at, entries_of}
use Rattle.form.specs.Faults.{fault_number, marked, head_fault, form_fault, form_faults, order_fault, locking_fault, row_fault, rule_of, fault_of, Fault, Sound, Short, Mark, Version, Count, Length, Kind, Value, High, Kept, Past, Coded, Late, Order}
use Rattle.form.specs.declared.entries.Entry.{Entry}
use Rattle.form.proofs.Faulty.{head_passed, head_stops}
use Rattle.pieces.proofs.InTurn.{none_given, form, forms_turn}

all_three : (a b c : Bool) → (a && b && c) ≡ true → (a ≡ true) × (b ≡ true) × (c ≡ true)
all_three true true true e = (refl, refl, refl)
all_three true true false e = absurd (true≢false (sym e))
all_three true false c e = absurd (true≢false (sym e))
all_three false b c e = absurd (true≢false (sym e))

pub head_all : (version : ℕ) (file : List ℕ) → head_fault version file ≡ Sound
    → ((byte_at file 0 ≡ 0x4f) × (byte_at file 1 ≡ 0x54) × (byte_at file 2 ≡ 0x4a))
    × (version_of file ≡ version) × (count_of file ≤ 512) × (length file ≡ 7 + 6 * count_of file)
unfolding head_fault
head_all version file e =
    let long = head_passed (ltb (length file) 7) Short _ (never_zero 9) e in
    let mark = head_passed (not (marked file)) Mark _ (never_zero 9) long.1 in
    let own = head_passed (not (eqb (version_of file) version)) Version _ (never_zero 9) mark.1 in
    let few = head_passed (ltb 512 (count_of file)) Count _ (never_zero 9) own.1 in
    let filled = head_passed (not (eqb (length file) (7 + 6 * count_of file))) Length _ (never_zero 9) few.1 in
    let marks = all_three _ _ _ (not-false (marked file) mark.0) in (
      (eqb-true _ 0x4f marks.0, eqb-true _ 0x54 marks.1, eqb-true _ 0x4a marks.2),
      eqb-true (version_of file) version (not-false _ own.0),
      ltb-false 512 (count_of file) few.0,
      eqb-true (length file) (7 + 6 * count_of file) (not-false _ filled.0),
    )

-- ---- what each part can give

-- a row is never 10
pub row_not_ten : (version i least : ℕ) (e : Entry) → fault_number (row_fault version i least e) ≡ 10 → ⊥
row_not_ten version i least e =
    both_ways NotTen (eqb version 2) (locking_fault i least e) (order_fault i least e)
    (both_ways NotTen (leb 0xf40 e.row && ltb e.row 0xf80) (Kept i) _ never
    (both_ways NotTen (ltb 4095 e.row) (Past i) _ never
    (both_ways NotTen (is_lock_row e.row && eqb e.kind 0) (Coded i) _ never
    (both_ways NotTen (ltb e.row 0xf40 && ltb 0xf80 least) (Late i) _ never
    (both_ways NotTen (ltb e.row least) (Order i) Sound never none)))))
    (both_ways NotTen (leb 0xf40 e.row) (High i) _ never (both_ways NotTen (ltb e.row least) (Order i) Sound never none))
  where
    NotTen : Fault → Type 0
    NotTen f = fault_number f ≡ 10 → ⊥

    never : ◌≡◌ {A = ℕ} 11 10 → ⊥
    never e = omega arith

    none : ◌≡◌ {A = ℕ} 0 10 → ⊥
    none e = omega arith

-- a head is never 11
pub head_not_eleven : (version : ℕ) (file : List ℕ) → fault_number (head_fault version file) ≡ 11 → ⊥
unfolding head_fault
head_not_eleven version file =
    both_ways NotEleven (ltb (length file) 7) Short _ never
    (both_ways NotEleven (not (marked file)) Mark _ never
    (both_ways NotEleven (not (eqb (version_of file) version)) Version _ never
    (both_ways NotEleven (ltb 512 (count_of file)) Count _ never
    (both_ways NotEleven (not (eqb (length file) (7 + 6 * count_of file))) Length Sound never none))))
  where
    NotEleven : Fault → Type 0
    NotEleven f = fault_number f ≡ 11 → ⊥

    never : ◌≡◌ {A = ℕ} 10 11 → ⊥
    never e = omega arith

    none : ◌≡◌ {A = ℕ} 0 11 → ⊥
    none e = omega arith

-- nor is a form
pub forms_not_eleven : (file : List ℕ) → fault_number (form_faults 0 (entries_of file)) ≡ 11 → ⊥
forms_not_eleven file eleven =
    none_given (form file 1) 10 (count_of file) 0 (λ k low high. each k) (sym (ap fault_number (forms_turn file 1 (count_of file) 0)) ∙ eleven)
  where
    NotEleven : Fault → Type 0
    NotEleven f = fault_number f ≡ 11 → ⊥

    each : (k : ℕ) → fault_number (form_fault k (entry_at file k)) ≡ 11 → ⊥
    each k =
        both_ways NotEleven (ltb 1 (entry_at file k).kind) (Kind k) _ (λ e. omega arith)
        (both_ways NotEleven (eqb (entry_at file k).kind 0 && ltb 65535 (entry_at file k).value) (Value k) Sound (λ e. omega arith) (λ e. omega arith))

-- a head that is 10 makes the file 10
pub bad_head : (file : List ℕ) → fault_number (head_fault (rule_of file) file) ≡ 10 → fault_number (fault_of file) ≡ 10
bad_head file ten = ap fault_number (head_stops (rule_of file) file (λ none. never_zero 9 (sym ten ∙ none))) ∙ ten
