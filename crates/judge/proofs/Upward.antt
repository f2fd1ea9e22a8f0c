-- Judging in order: a fault, or an entry that is refused, answers for the whole, and any other hands on to what is left.
-- Assumes nothing.
use mathlib.Core.Path.{◌≡◌, refl}
use mathlib.Core.Bool.{Bool, true, false, not}
use mathlib.Core.List.{List, [], ◌∷◌, ◌++◌}
use Prim.Native.Nat.{ℕ, ◌+◌, ◌-◌, ◌<◌}
use native.Mathlib.Omega.{arith}
use lib.Dec.{eqb}
use Rattle.answer.specs.Refusals.{refusal_number}
use Rattle.answer.specs.Rungs.{Rung, ◌when◌, ◌of_entry◌, first_of}
use Rattle.permit.specs.Permission.{may_write}
use Rattle.chip.specs.Slices.{row_at, too_large}
use Rattle.chip.specs.declared.state.State.{State}
use Rattle.form.specs.Entries.{entry_at, entries_from}
use Rattle.form.specs.Faults.{fault_number, Sound}
use Rattle.form.specs.Faults as faults
use Rattle.form.specs.Said.{found, refusal_of}
use Rattle.form.specs.declared.entries.Entry.{Entry}
use Rattle.form.specs.declared.faults.Fault.{Fault}
use Rattle.form.specs.declared.faults.Fault.TheVariants.{Short, Mark, Version, Count, Length, Kind, Value, High, Kept, Past, Coded, Late, Order}
use Rattle.judge.specs.Verdicts.{unfit, entry_rungs, all_rungs, verdict}
use Rattle.form.proofs.Upward.{next_left}

-- ---- the two rungs of a fault, and then the rest

module _ (rest : List Rung) where
  abbrev by_fault : faults.Fault → List Rung
  by_fault fault = 10 when eqb (fault_number fault) 10 ∷ 11 when eqb (fault_number fault) 11 ∷ rest

  stops_by : (fault : Fault) → verdict (by_fault (found fault)) ≡ record { number = refusal_number (refusal_of fault); place = 0 }
  stops_by Short = refl
  stops_by Mark = refl
  stops_by Version = refl
  stops_by Count = refl
  stops_by Length = refl
  stops_by (Kind i) = refl
  stops_by (Value i) = refl
  stops_by (High i) = refl
  stops_by (Kept i) = refl
  stops_by (Past i) = refl
  stops_by (Coded i) = refl
  stops_by (Late i) = refl
  stops_by (Order i) = refl

  pub rungs_stop : (fault : Fault) (this : faults.Fault) → found fault ≡ this
      → verdict (by_fault this) ≡ record { number = refusal_number (refusal_of fault); place = 0 }
  rungs_stop fault this e = rw (← e) (stops_by fault)

  pub rungs_next : (this : faults.Fault) → Sound ≡ this → verdict (by_fault this) ≡ verdict rest
  rungs_next this e = rw (← e)

-- ---- the three rungs of an entry, and then the rest

module _ (i : ℕ) (rest : List Rung) where
  abbrev own : Bool → Bool → Bool → List Rung → List Rung
  own a b c next = 7 when a of_entry i ∷ 3 when b of_entry i ∷ 9 when c of_entry i ∷ next

  own_stops : (a b c : Bool) → (first_of (own a b c []) ≡ 0 → ⊥)
      → verdict (own a b c rest) ≡ record { number = first_of (own a b c []); place = i }
  own_stops true b c some = refl
  own_stops false true c some = refl
  own_stops false false true some = refl
  own_stops false false false some = absurd (some refl)

  own_next : (a b c : Bool) → first_of (own a b c []) ≡ 0 → verdict (own a b c rest) ≡ verdict rest
  own_next true b c none = absurd (omega arith)
  own_next false true c none = absurd (omega arith)
  own_next false false true none = absurd (omega arith)
  own_next false false false none = refl

  own_none : (a b c : Bool) → first_of (own a b c rest) ≡ 0 → (first_of (own a b c []) ≡ 0) × (first_of rest ≡ 0)
  own_none true b c none = absurd (omega arith)
  own_none false true c none = absurd (omega arith)
  own_none false false true none = absurd (omega arith)
  own_none false false false none = (refl, none)

module _ (rows : List ℕ) (may : Bool) (i : ℕ) (e : Entry) (rest : List Rung) where
  -- an entry that is refused answers for all
  pub entry_stops : (first_of (entry_rungs rows may i e) ≡ 0 → ⊥)
      → verdict (entry_rungs rows may i e ++ rest) ≡ record { number = first_of (entry_rungs rows may i e); place = i }
  unfolding entry_rungs
  entry_stops = own_stops i rest (not may) (too_large rows e.row) (unfit (row_at rows e.row) e)

  -- any other hands on to those after it
  pub entry_next : first_of (entry_rungs rows may i e) ≡ 0 → verdict (entry_rungs rows may i e ++ rest) ≡ verdict rest
  unfolding entry_rungs
  entry_next = own_next i rest (not may) (too_large rows e.row) (unfit (row_at rows e.row) e)

  -- where none is refused, neither this one nor those after it are
  pub entry_none : first_of (entry_rungs rows may i e ++ rest) ≡ 0 → (first_of (entry_rungs rows may i e) ≡ 0) × (first_of rest ≡ 0)
  unfolding entry_rungs
  entry_none = own_none i rest (not may) (too_large rows e.row) (unfit (row_at rows e.row) e)

module _ (job : List ℕ) (count i : ℕ) (h : i < count) (rows : List ℕ) (state : State) where
  abbrev number : ℕ
  number = first_of (entry_rungs rows (may_write state 0 (entry_at job i).row) i (entry_at job i))

  pub judged_stops : (number ≡ 0 → ⊥)
      → verdict (all_rungs rows state i (entries_from job i (count - i))) ≡ record { number = number; place = i }
  unfolding all_rungs
  judged_stops some = rw (next_left job count i h) (entry_stops rows _ i (entry_at job i) _ some)

  pub judged_next : number ≡ 0
      → verdict (all_rungs rows state i (entries_from job i (count - i)))
      ≡ verdict (all_rungs rows state (i + 1) (entries_from job (i + 1) (count - (i + 1))))
  unfolding all_rungs
  judged_next none = rw (next_left job count i h) (entry_next rows _ i (entry_at job i) _ none)
