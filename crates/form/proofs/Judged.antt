-- What the code said of a part, handed on: a fault answers for what comes after it, and where there is none that answers.
-- Assumes nothing.
use mathlib.Core.Path.{◌≡◌, refl}
use mathlib.Core.Bool.{false}
use mathlib.Core.List.{List}
use Prim.Native.Nat.{ℕ, ◌+◌, ◌-◌, ◌<◌}
use lib.Dec.{eqb}
use Rattle.form.specs.Entries.{entry_at, entries_from}
use Rattle.form.specs.Faults.{fault_number, ◌otherwise◌, form_fault, form_faults, row_fault, order_faults, Sound}
use Rattle.form.specs.Faults as faults
use Rattle.form.specs.Said.{found}
use Rattle.form.specs.declared.faults.Fault.{Fault}
use Rattle.form.specs.declared.faults.Fault.TheVariants.{Short, Mark, Version, Count, Length, Kind, Value, High, Kept, Past, Coded, Late, Order}
use Rattle.form.proofs.Upward.{next_left}

-- a fault has a number
numbered : (fault : Fault) → eqb (fault_number (found fault)) 0 ≡ false
numbered Short = refl
numbered Mark = refl
numbered Version = refl
numbered Count = refl
numbered Length = refl
numbered (Kind i) = refl
numbered (Value i) = refl
numbered (High i) = refl
numbered (Kept i) = refl
numbered (Past i) = refl
numbered (Coded i) = refl
numbered (Late i) = refl
numbered (Order i) = refl

pub stops : (fault : Fault) (this next : faults.Fault) → found fault ≡ this → (this otherwise next) ≡ found fault
stops fault this next e = rw (← e, numbered fault)

pub goes_on : (this next : faults.Fault) → Sound ≡ this → (this otherwise next) ≡ next
goes_on this next e = rw (← e)

-- the entries that are left: the next one's fault, or what the others have
module _ (job : List ℕ) (count i : ℕ) (h : i < count) where
  abbrev form : faults.Fault
  form = form_fault i (entry_at job i)

  abbrev forms : faults.Fault
  forms = form_faults (i + 1) (entries_from job (i + 1) (count - (i + 1)))

  pub form_stops : (fault : Fault) → found fault ≡ form → form_faults i (entries_from job i (count - i)) ≡ found fault
  unfolding form_faults
  form_stops fault some = rw (next_left job count i h) (stops fault form forms some)

  pub form_goes_on : Sound ≡ form → form_faults i (entries_from job i (count - i)) ≡ forms
  unfolding form_faults
  form_goes_on none = rw (next_left job count i h) (goes_on form forms none)

  module _ (version least : ℕ) where
    abbrev order : faults.Fault
    order = row_fault version i least (entry_at job i)

    abbrev orders : faults.Fault
    orders = order_faults version (i + 1) ((entry_at job i).row + 1) (entries_from job (i + 1) (count - (i + 1)))

    pub order_stops : (fault : Fault) → found fault ≡ order → order_faults version i least (entries_from job i (count - i)) ≡ found fault
    unfolding order_faults
    order_stops fault some = rw (next_left job count i h) (stops fault order orders some)

    pub order_goes_on : Sound ≡ order → order_faults version i least (entries_from job i (count - i)) ≡ orders
    unfolding order_faults
    order_goes_on none = rw (next_left job count i h) (goes_on order orders none)
