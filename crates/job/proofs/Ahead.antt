-- A rehearsal, entry by entry: what was burnt and counted already, ahead of what is left to burn.
-- Assumes nothing.
use mathlib.Core.Path.{◌≡◌, refl, sym, ◌∙◌}
use mathlib.Core.List.{List, []}
use Prim.Native.Nat.{ℕ, ◌+◌, ◌-◌, ◌≤◌, ◌<◌}
use native.Mathlib.Nat.{add_assoc, zero-add}
use native.Mathlib.Omega.{arith}
use borrow.Author.Tests.{le-leb, lt-leb}
use lib.ListN.{set}
use Rattle.row.specs.Upward.{burnt_upward}
use Rattle.chip.specs.Slices.{row_at}
use Rattle.chip.specs.Tallies.{Gain, ◌gains◌, with_gain, with_gains}
use Rattle.form.specs.Entries.{entry_at, entries_from}
use Rattle.job.specs.Burning.{Progress, written_over, with_entry, cut_gained, after, rehearsed}
use Rattle.form.proofs.Upward.{next_left, none_left}

-- so many pulses spent, so many entries standing and these tallies, ahead of the rest, are the whole over the first tallies
pub record Ahead (before : List ℕ) (whole : Progress) (tallies : List ℕ) (spent placed : ℕ) (rest : Progress) : Type 0 where
  pub rows : whole.rows ≡ rest.rows
  pub counted : with_gains before whole.gained ≡ with_gains tallies rest.gained
  pub pulses : whole.pulses ≡ spent + rest.pulses
  pub place : whole.place ≡ placed + rest.place

module _ (before : List ℕ) (whole : Progress) where
  pub none_ahead : Ahead before whole before 0 0 whole
  none_ahead = record { rows = refl; counted = refl; pulses = sym (zero-add whole.pulses); place = sym (zero-add whole.place) }

  -- one entry more
  pub one_ahead : (tallies : List ℕ) (spent placed : ℕ) (gain : Gain) (rest : Progress) → Ahead before whole tallies spent placed (after gain rest)
      → Ahead before whole (with_gain tallies gain) (spent + gain.bits) (placed + 1) rest
  one_ahead tallies spent placed gain rest a = record {
    rows = a.rows;
    counted = a.counted;
    pulses = a.pulses ∙ sym (add_assoc spent gain.bits rest.pulses);
    place = a.place ∙ sym (add_assoc placed 1 rest.place);
  }

module _ (job : List ℕ) (count : ℕ) (rows : List ℕ) (left i : ℕ) where
  -- an entry that the pulses left are enough for
  pub burn_next : i < count → (next : List ℕ) (u : ℕ) → u ≡ (written_over rows (entry_at job i)).pulses → next ≡ with_entry rows (entry_at job i)
      → u ≤ left
      → rehearsed rows left (entries_from job i (count - i))
      ≡ after ((entry_at job i).row gains u) (rehearsed next (left - u) (entries_from job (i + 1) (count - (i + 1))))
  unfolding rehearsed
  burn_next h next u eu en enough =
      rw (next_left job count i h, ← eu, ← en, le-leb u left enough)

  -- an entry that they are not enough for
  pub burn_stops : i < count → left < (written_over rows (entry_at job i)).pulses
      → rehearsed rows left (entries_from job i (count - i))
      ≡ record {
        rows = set rows (entry_at job i).row (burnt_upward left (row_at rows (entry_at job i).row) (written_over rows (entry_at job i)).row);
        gained = cut_gained left (entries_from job i (count - i));
        pulses = left;
        place = 0;
      }
  unfolding rehearsed
  burn_stops h short = rw (next_left job count i h, lt-leb (written_over rows (entry_at job i)).pulses left short)

  -- no entry left
  pub burn_ends : i ≡ count → rehearsed rows left (entries_from job i (count - i)) ≡ record { rows = rows; gained = []; pulses = 0; place = 0 }
  unfolding rehearsed
  burn_ends e = rw (none_left job count i e)

module _ (job : List ℕ) (count : ℕ) (tallies : List ℕ) (bits i : ℕ) where
  -- the row of the next entry gains the bits, and those after it none
  pub cut_next : i < count
      → with_gains tallies (cut_gained bits (entries_from job i (count - i)))
      ≡ with_gains (with_gain tallies ((entry_at job i).row gains bits)) (cut_gained 0 (entries_from job (i + 1) (count - (i + 1))))
  unfolding cut_gained
  cut_next h = rw (next_left job count i h)

  -- past the last there is none
  pub cut_ends : count ≤ i → with_gains tallies (cut_gained bits (entries_from job i (count - i))) ≡ tallies
  unfolding cut_gained entries_from
  cut_ends h =
      let none : count - i ≡ 0 = omega arith in
      rw none
