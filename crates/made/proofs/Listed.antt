-- The changes by their index: what each entry is, and which entry a row has.
-- Assumes nothing.
use mathlib.Core.Bool.{Bool, true, false}
use mathlib.Core.List.{List, ◌∷◌}
use mathlib.Core.Path.{◌≡◌, refl, sym, ap, ◌∙◌}
use Prim.Native.Nat.{ℕ, zero, suc, ◌+◌, ◌≤◌, ◌<◌}
use native.Mathlib.Nat.{add-zero}
use native.Mathlib.Omega.{arith}
use borrow.Author.Tests.{eqb-true, eqb-false, ltb-true, ltb-false}
use lib.Dec.{eqb, ltb}
use lib.ListN.{length, get_or}
use Rattle.form.specs.Entries.{entry_at, entries_from}
use Rattle.form.specs.declared.entries.Entry.{Entry}
use Rattle.made.specs.Refusing.{Differs}
use Rattle.made.specs.Jobs.{Change}
use Rattle.made.proofs.Changes.{Changes, entry_of}

-- where there is no entry
abbrev pub nothing : Entry
nothing = record { row = 0; kind = 0; value = 0 }

-- the entry at an index of a job's list
pub at_index : (job : List ℕ) (n i k : ℕ) → k < n → get_or (entries_from job i n) k nothing ≡ entry_at job (i + k)
unfolding entries_from
at_index job zero i k h = absurd (omega arith)
at_index job (suc n) i zero h = ap (entry_at job) (sym (add-zero i))
at_index job (suc n) i (suc k) h =
    let more : suc i + k ≡ i + suc k = omega arith in
    at_index job n (suc i) k (omega arith) ∙ ap (entry_at job) more

module _ (present wanted : List ℕ) where
  -- each is a change, of a row from the first on
  pub each : {from past : ℕ} {es : List Entry} → Changes present wanted from past es → (i : ℕ) → i < length es
      → Change present wanted (get_or es i nothing) × (from ≤ (get_or es i nothing).row)
  each (Changes.none same) i h = absurd (omega arith)
  each (Changes.more row low high data-row differs same rest) zero h = (record { raw = refl; data_row = data-row; differs = differs; carries = refl }, low)
  each (Changes.more row low high data-row differs same rest) (suc i) h =
      let later = each rest i (omega arith) in
      (later.0, omega (arith, later.1))

  -- they rise
  pub rising : {from past : ℕ} {es : List Entry} → Changes present wanted from past es → (k i : ℕ) → k < i → i < length es
      → (get_or es k nothing).row < (get_or es i nothing).row
  rising (Changes.none same) k i less h = absurd (omega arith)
  rising (Changes.more row low high data-row differs same rest) k zero less h = absurd (omega arith)
  rising (Changes.more row low high data-row differs same rest) zero (suc i) less h = omega (arith, (each rest i (omega arith)).1)
  rising (Changes.more row low high data-row differs same rest) (suc k) (suc i) less h = rising rest k i (omega arith) (omega arith)

  -- each row that differs has an entry
  pub has : {from past : ℕ} {es : List Entry} → Changes present wanted from past es → (row : ℕ) → from ≤ row → row < past → row < 0xf40
      → Differs present wanted row → (i : ℕ) × (i < length es) × ((get_or es i nothing).row ≡ row)
  has (Changes.none same) row low high data-row differs = absurd (differs (same row low high data-row))
  has {from} {past} {es} (Changes.more {others = others} first low high data-first differs-first same rest) row above below data-row differs =
      go (ltb row first) (eqb row first) refl refl (λ later high-row data-k other. has rest row later high-row data-k other)
    where
      go : (less equal : Bool) → ltb row first ≡ less → eqb row first ≡ equal
          → (first + 1 ≤ row → row < past → row < 0xf40 → Differs present wanted row → (i : ℕ) × (i < length others) × ((get_or others i nothing).row ≡ row))
          → (i : ℕ) × (i < suc (length others)) × ((get_or (entry_of present wanted first ∷ others) i nothing).row ≡ row)
      go true equal less e later = absurd (differs (same row above (ltb-true row first less) data-row))
      go false true less e later = (0, omega arith, sym (eqb-true row first e))
      go false false less e later =
          let found = later (omega (arith, ltb-false row first less, eqb-false row first e)) below data-row differs in
          (suc found.0, omega (arith, found.1), found.2)
