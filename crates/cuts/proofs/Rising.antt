-- Rows that rise: what the order of a job's rows says of its entries, and that later entries leave earlier rows alone.
-- Assumes nothing.
use mathlib.Core.Bool.{Bool, true, false}
use mathlib.Core.List.{List, [], ◌∷◌}
use mathlib.Core.Path.{◌≡◌, refl, ◌∙◌}
use Prim.Native.Nat.{ℕ, zero, suc, ◌+◌, ◌-◌, ◌≤◌, ◌<◌}
use native.Mathlib.Omega.{arith}
use borrow.Author.Tests.{eqb-true, eqb-false}
use lib.Dec.{eqb, leb}
use lib.ListN.{set}
use lib.Seq.{get_or-set_other}
use Rattle.chip.specs.Slices.{row_at}
use Rattle.form.specs.Entries.{entry_at, entries_from}
use Rattle.form.specs.Faults.{row_fault, order_faults, Sound}
use Rattle.form.specs.declared.entries.Entry.{Entry}
use Rattle.job.specs.Burning.{Progress, written_over, with_entry, rehearsed}
use Rattle.form.proofs.Faulty.{both_sound}
use Rattle.form.proofs.Placed.{placed_low, row_kept}
use Rattle.answer.proofs.Choices.{both_ways}

-- rows of the chip that rise from the least
pub data Rising : ℕ → List Entry → Type 0 where
  none : {least : ℕ} → Rising least []
  more : {least : ℕ} {e : Entry} {others : List Entry} → least ≤ e.row → e.row ≤ 4095 → Rising (e.row + 1) others → Rising least (e ∷ others)

pub sound_rising : (version : ℕ) (es : List Entry) (at least : ℕ) → order_faults version at least es ≡ Sound → Rising least es
unfolding order_faults
sound_rising version [] at least e = none
sound_rising version (entry ∷ others) at least e =
    let parts = both_sound (row_fault version at least entry) (order_faults version (at + 1) (entry.row + 1) others) e in
    let inside = row_kept version at least entry parts.0 in
    more inside.1 (placed_low entry inside.0) (sound_rising version others (at + 1) (entry.row + 1) parts.1)

-- each entry's row is from the least up
pub rising_at : (job : List ℕ) (n i k least : ℕ) → Rising least (entries_from job i n) → i ≤ k → k < i + n → least ≤ (entry_at job k).row
unfolding entries_from
rising_at job zero i k least rising from to = absurd (omega arith)
rising_at job (suc n) i k least (more low high rest) from to = go (eqb k i) refl (rising_at job n (suc i) k ((entry_at job i).row + 1) rest)
  where
    go : (t : Bool) → eqb k i ≡ t → (suc i ≤ k → k < suc i + n → (entry_at job i).row + 1 ≤ (entry_at job k).row) → least ≤ (entry_at job k).row
    go true same later = rw (eqb-true k i same) low
    go false other later = omega (arith, later (omega (arith, eqb-false k i other)) (omega arith))

-- what is burnt of them leaves the rows below the least
pub rehearsed_below : {least : ℕ} (es : List Entry) (rows : List ℕ) (limit k : ℕ) → Rising least es → k < least
    → row_at (rehearsed rows limit es).rows k ≡ row_at rows k
unfolding rehearsed
rehearsed_below [] rows limit k none h = refl
rehearsed_below {least} (e ∷ others) rows limit k (more low high rest) h =
    let u : ℕ = (written_over rows e).pulses in
    let other : (new : ℕ) → row_at (set rows e.row new) k ≡ row_at rows k = λ new. get_or-set_other rows e.row k new 0 (λ same. omega arith) in
    both_ways (λ (p : Progress). row_at p.rows k ≡ row_at rows k) (leb u limit) _ _
    (rehearsed_below {least = e.row + 1} others (with_entry rows e) (limit - u) k rest (omega arith) ∙ other (written_over rows e).row) (other _)
