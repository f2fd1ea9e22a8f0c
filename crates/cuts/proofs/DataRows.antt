-- Entries of data rows alone: those of every sound job of version 1; no other row is theirs.
-- Assumes nothing.
use mathlib.Core.Bool.{false}
use mathlib.Core.List.{List, [], ◌∷◌}
use mathlib.Core.Path.{◌≡◌}
use Prim.Native.Nat.{ℕ, ◌+◌, ◌≤◌}
use native.Mathlib.Omega.{arith}
use lib.Dec.{eqb}
use Rattle.form.specs.Entries.{version_of, entries_of}
use Rattle.form.specs.Faults.{row_fault, order_faults, fault_of, Sound}
use Rattle.form.specs.declared.entries.Entry.{Entry}
use Rattle.form.proofs.Faulty.{both_sound, order_sound}
use Rattle.form.proofs.Placed.{order_kept}
use Rattle.cuts.specs.Versions.{DataRows}
use Rattle.cuts.proofs.Rewriting.{Apart}

pub data_apart : (es : List Entry) (k : ℕ) → DataRows es → 0xf40 ≤ k → Apart k es
unfolding Apart
data_apart [] k DataRows.none high = tt
data_apart (e ∷ others) k (DataRows.more low rest) high = (λ same. omega arith, data_apart others k rest high)

order_data : (es : List Entry) (at least : ℕ) → order_faults 1 at least es ≡ Sound → DataRows es
unfolding order_faults
order_data [] at least sound = DataRows.none
order_data (e ∷ others) at least sound =
    let parts = both_sound (row_fault 1 at least e) (order_faults 1 (at + 1) (e.row + 1) others) sound in
    DataRows.more (order_kept at least e parts.0).0 (order_data others (at + 1) (e.row + 1) parts.1)

pub sound_data : (job : List ℕ) → fault_of job ≡ Sound → eqb (version_of job) 2 ≡ false → DataRows (entries_of job)
sound_data job sound other = order_data (entries_of job) 0 0 (rw other at (order_sound job sound))
