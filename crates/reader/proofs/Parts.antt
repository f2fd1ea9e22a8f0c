-- The bytes from a place on begin with what stands there; and an entry whose form has a fault is not well formed.
-- Assumes nothing.
use mathlib.Core.List.{List}
use mathlib.Core.Path.{◌≡◌, refl, sym, ◌∙◌}
use mathlib.Core.Bool.{Bool, true, false}
use Prim.Native.Nat.{ℕ, ◌+◌, ◌-◌}
use native.Mathlib.Omega.{arith}
use lib.ListN.{length, length-drop, take, drop}
use lib.Seq.{take_all, get_or-drop}
use Rattle.std.specs.Prelude.{if◌then◌else◌}
use Rattle.form.specs.Entries.{entry_from}
use Rattle.form.specs.Faults as faults
use Rattle.form.specs.Faults.{form_fault}
use Rattle.form.specs.Said.{found}
use Rattle.form.specs.declared.entries.Entry.{Entry}
use Rattle.form.specs.declared.faults.Fault.{Fault}
use Rattle.form.proofs.Judged.{stops}
use Rattle.reader.specs.Handing.{well_formed}

pub from_there : (job : List ℕ) (at : ℕ) → entry_from (take (length job - at) (drop at job)) 0 ≡ entry_from job at
from_there job at =
    let all : take (length job - at) (drop at job) ≡ drop at job = take_all (length job - at) (drop at job) (omega (arith, length-drop at job)) in
    let first : at + 0 ≡ at = omega arith in
    let fifth : at + (3 + 1) ≡ at + 3 + 1 = omega arith in
    let last : at + (3 + 2) ≡ at + 3 + 2 = omega arith in
    simp (all, get_or-drop, first, fifth, last)

-- two faults that differ are not one
apart : faults.Short ≡ faults.Mark → ⊥
apart e = cc

-- what a fault was found in is not well formed
pub malformed : (fault : Fault) (e : Entry) → found fault ≡ form_fault 0 e → well_formed e ≡ false
malformed fault e is = go (well_formed e) refl (stops fault (form_fault 0 e) faults.Short is) (stops fault (form_fault 0 e) faults.Mark is)
  where
    go : (t : Bool) → well_formed e ≡ t → (if t then faults.Short else form_fault 0 e) ≡ found fault → (if t then faults.Mark else form_fault 0 e) ≡ found fault
        → well_formed e ≡ false
    go true is short mark = absurd (apart (short ∙ sym mark))
    go false is short mark = is
