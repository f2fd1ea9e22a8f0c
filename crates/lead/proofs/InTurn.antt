-- Entries judged in turn, each by its form and then by its row.
-- Assumes nothing.
use mathlib.Core.Path.{◌≡◌, refl, sym, ◌∙◌}
use mathlib.Core.Bool.{Bool, true, false}
use mathlib.Core.List.{List}
use Prim.Native.Nat.{ℕ, ◌+◌, ◌-◌, ◌≤◌, ◌<◌}
use native.Mathlib.Omega.{arith}
use lib.Dec.{eqb}
use Rattle.std.specs.Prelude.{if◌then◌else◌}
use Rattle.form.specs.Entries.{entry_at, entries_from}
use Rattle.form.specs.Faults.{fault_number, ◌otherwise◌, form_fault, row_fault, Fault, Sound}
use Rattle.form.specs.Said.{found}
use Rattle.form.specs.declared.faults.Fault.{Fault as Found}
use Rattle.form.proofs.Judged.{stops, goes_on}
use Rattle.form.proofs.Upward.{next_left}
use Rattle.lead.specs.Early.{entry_faults}

-- two faults before a third
pub grouped : (a b c : Fault) → (a otherwise b otherwise c) ≡ ((a otherwise b) otherwise c)
grouped a b c = go (eqb (fault_number a) 0) refl
  where
    go : (t : Bool) → eqb (fault_number a) 0 ≡ t
        → (if t then b otherwise c else a) ≡ ((if t then b else a) otherwise c)
    go true none = refl
    go false some = sym (rw some)

module _ (job : List ℕ) (last i : ℕ) (h : i < last) (version least : ℕ) where
  abbrev own : Fault
  own = form_fault i (entry_at job i) otherwise row_fault version i least (entry_at job i)

  abbrev others : Fault
  others = entry_faults version (i + 1) ((entry_at job i).row + 1) (entries_from job (i + 1) (last - (i + 1)))

  -- the next entry's fault, or what the others have
  in_turn_lem : entry_faults version i least (entries_from job i (last - i)) ≡ (own otherwise others)
  unfolding entry_faults
  in_turn_lem = rw (next_left job last i h) (grouped (form_fault i (entry_at job i)) (row_fault version i least (entry_at job i)) others)

  pub entry_stops : (fault : Found) → found fault ≡ own → entry_faults version i least (entries_from job i (last - i)) ≡ found fault
  entry_stops fault some = in_turn_lem ∙ stops fault own others some

  pub entry_goes_on : Sound ≡ own → entry_faults version i least (entries_from job i (last - i)) ≡ others
  entry_goes_on none = in_turn_lem ∙ goes_on own others none

-- where none is left
pub none_left : (job : List ℕ) (last i version least : ℕ) → last ≤ i → entry_faults version i least (entries_from job i (last - i)) ≡ Sound
unfolding entry_faults entries_from
none_left job last i version least past =
    let none : last - i ≡ 0 = omega arith in
    rw none
