-- Entries in range: they stay so where a row is put in, in a slice below, and where an accepted job is written.
-- Assumes nothing.
use mathlib.Core.Bool.{true, and-eq-true_iff}
use mathlib.Core.List.{List, [], ◌∷◌}
use mathlib.Core.Path.{◌≡◌, refl}
use Prim.Native.Nat.{ℕ, zero, suc, ◌+◌, ◌^◌, ◌≤◌, ◌<◌}
use native.Mathlib.Omega.{arith}
use borrow.Author.Tests.{leb-true, le-leb}
use lib.Dec.{leb}
use lib.ListN.{set}
use Rattle.chip.specs.Slices.{row_at}
use Rattle.chip.specs.declared.state.State.{State}
use Rattle.latch.specs.Resetting.{all_in_range}
use Rattle.form.specs.declared.entries.Entry.{Entry}
use Rattle.job.specs.Burning.{written_over, with_entry, all_written}
use Rattle.laws.specs.Votes.{EachIn}
use Rattle.laws.proofs.Between.{in_le}
use Rattle.laws.proofs.Entries.{entry_small}
use Rattle.cuts.proofs.Rewriting.{Admitted, judged_done, admitted_next}

pub range_set : (rows : List ℕ) (k new : ℕ) → all_in_range rows ≡ true → new ≤ 16777215 → all_in_range (set rows k new) ≡ true
unfolding all_in_range
range_set [] k new small low = refl
range_set (row ∷ rows) zero new small low = rw (le-leb new 16777215 low) ((and-eq-true_iff (leb row 16777215) (all_in_range rows)).0 small).1
range_set (row ∷ rows) (suc k) new small low =
    let parts = (and-eq-true_iff (leb row 16777215) (all_in_range rows)).0 small in
    rw parts.0 (range_set rows k new parts.1 low)

pub range_under : {a b : List ℕ} → EachIn a b → all_in_range b ≡ true → all_in_range a ≡ true
unfolding all_in_range
range_under EachIn.none small = refl
range_under (EachIn.more {old} {new} {news} one rest) small =
    let parts = (and-eq-true_iff (leb new 16777215) (all_in_range news)).0 small in
    let low : old ≤ 16777215 = omega (arith, in_le old new one, leb-true new 16777215 parts.0) in
    rw (le-leb old 16777215 low) (range_under rest parts.1)

pub range_written : {rows : List ℕ} {state : State} {least : ℕ} (es : List Entry) → Admitted rows state least es → all_in_range rows ≡ true
    → all_in_range (all_written rows es) ≡ true
unfolding all_written
range_written [] Admitted.none small = small
range_written {rows} {state} {least} (e ∷ others) (Admitted.more low high value done rest) small =
    let new : ℕ = (written_over rows e).row in
    let old-low : row_at rows e.row ≤ 16777215 = (judged_done rows state e done).1 in
    let new-low : new < 2 ^ 24 = entry_small (row_at rows e.row) e (omega arith) value in
    range_written {rows = with_entry rows e} {least = e.row + 1} others (admitted_next e.row new rest) (range_set rows e.row new small (omega arith))
