-- The entries of an accepted job written in turn, and written again over rows that lie between: the same rows.
-- Assumes nothing.
use mathlib.Core.Bool.{false, not}
use mathlib.Core.List.{List, [], ◌∷◌}
use mathlib.Core.Logic.{inl, inr}
use mathlib.Core.Path.{◌≡◌, refl, sym, ap, ap₂, ◌∙◌}
use Prim.Native.Nat.{ℕ, ◌+◌, ◌^◌, ◌≤◌, ◌<◌}
use native.Mathlib.Omega.{arith}
use borrow.Author.Tests.{ltb-false, le-ltb}
use lib.ListN.{length, set, length-set}
use lib.Seq.{get_or-set_same, get_or-set_other}
use Rattle.answer.specs.Rungs.{first_of}
use Rattle.chip.specs.Slices.{row_at, too_large}
use Rattle.permit.specs.Permission.{may_write}
use Rattle.chip.specs.declared.state.State.{State}
use Rattle.answer.proofs.Ladders.{passed}
use Rattle.form.specs.declared.entries.Entry.{Entry}
use Rattle.job.specs.Burning.{written_over, with_entry, all_written, all_pulses}
use Rattle.judge.specs.Verdicts.{entry_rungs}
use Rattle.form.proofs.Placed.{Placed, placed_low}
use Rattle.judge.proofs.Fitting.{entry_nine}
use Rattle.laws.specs.Votes.{EachIn}
use Rattle.laws.specs.Writes.{newly_set}
use Rattle.cuts.proofs.Agreement.{AgreeToWrite}
use Rattle.laws.proofs.Writes.{in_itself}
use Rattle.laws.proofs.Between.{in_le, each_self, each_through, each_both, each_at, each_set, each_over, each_under, new_through, new_none, new_set}
use Rattle.cuts.proofs.Rising.{Rising}
use Rattle.laws.proofs.Entries.{entry_keeps, entry_pulses, entry_small, entry_again}

-- ---- entries that are accepted over a slice

-- the number of an entry that Secure would write
abbrev pub entry_number : List ℕ → State → Entry → ℕ
entry_number rows state e = first_of (entry_rungs rows (may_write state 0 e.row) 0 e)

-- their rows rise from the least, each in its place, their values have 24 bits, and each is judged 0
pub data Admitted (rows : List ℕ) (state : State) : ℕ → List Entry → Type 0 where
  none : {least : ℕ} → Admitted rows state least []
  more : {least : ℕ} {e : Entry} {others : List Entry} → least ≤ e.row → Placed e → e.value < 2 ^ 24
      → entry_number rows state e ≡ 0 → Admitted rows state (e.row + 1) others → Admitted rows state least (e ∷ others)

pub judged_done : (rows : List ℕ) (state : State) (e : Entry) → entry_number rows state e ≡ 0
    → (not (may_write state 0 e.row) ≡ false) × (row_at rows e.row ≤ 16777215) × ((written_over rows e).number ≡ 0)
unfolding entry_rungs
judged_done rows state e done =
    let seven = passed (not (may_write state 0 e.row)) 6 _ done in
    let three = passed (too_large rows e.row) 2 _ seven.1 in
    (seven.0, ltb-false 16777215 (row_at rows e.row) three.0, entry_nine (row_at rows e.row) e ∙ three.1)

pub done_judged : (rows : List ℕ) (state : State) (e : Entry)
    → not (may_write state 0 e.row) ≡ false → row_at rows e.row ≤ 16777215 → (written_over rows e).number ≡ 0
    → entry_number rows state e ≡ 0
unfolding entry_rungs
done_judged rows state e may small done =
    rw (may, le-ltb 16777215 (row_at rows e.row) small) (sym (entry_nine (row_at rows e.row) e) ∙ done)

-- only the rows from the least on count
admitted_agrees : {rows left : List ℕ} {state : State} {least : ℕ} {es : List Entry} → Admitted rows state least es
    → ((k : ℕ) → least ≤ k → row_at left k ≡ row_at rows k) → Admitted left state least es
unfolding entry_rungs
admitted_agrees Admitted.none same = Admitted.none
admitted_agrees {left} {state} (Admitted.more {e} low high small done rest) same =
    let still : entry_number left state e ≡ 0 = rw (same e.row low) done in
    Admitted.more low high small still (admitted_agrees rest (λ k l. same k (omega arith)))

-- and of the state only what Secure may write
pub admitted_alike : {rows : List ℕ} {state other : State} {least : ℕ} {es : List Entry} → AgreeToWrite 0 other state
    → Admitted rows state least es → Admitted rows other least es
unfolding entry_rungs
admitted_alike agree Admitted.none = Admitted.none
admitted_alike {rows} {other = other} agree (Admitted.more {e} low high small done rest) =
    let still : entry_number rows other e ≡ 0 = rw (agree e.row) done in
    Admitted.more low high small still (admitted_alike agree rest)

-- one row burnt leaves those above it
pub admitted_next : {rows : List ℕ} {state : State} {others : List Entry} (at new : ℕ) → Admitted rows state (at + 1) others
    → Admitted (set rows at new) state (at + 1) others
admitted_next {rows} at new rest = admitted_agrees rest (λ k l. get_or-set_other rows at k new 0 (λ same. omega arith))

-- ---- the rows that they leave

pub with_keeps : (rows : List ℕ) (e : Entry) → EachIn rows (with_entry rows e)
with_keeps rows e = each_over rows e.row (written_over rows e).row (entry_keeps (row_at rows e.row) e)

pub all_keep : (es : List Entry) (rows : List ℕ) → EachIn rows (all_written rows es)
unfolding all_written
all_keep [] rows = each_self rows
all_keep (e ∷ others) rows = each_through (with_keeps rows e) (all_keep others (with_entry rows e))

-- in their order
pub admitted_rising : {rows : List ℕ} {state : State} {least : ℕ} {es : List Entry} → Admitted rows state least es → Rising least es
admitted_rising Admitted.none = Rising.none
admitted_rising (Admitted.more {e} low place small done rest) = Rising.more low (placed_low e place) (admitted_rising rest)

-- no entry is of a row
unfoldable pub Apart : ℕ → List Entry → Type 0
Apart k [] = Unit {0}
Apart k (e ∷ others) = (k ≡ e.row → ⊥) × Apart k others

-- such a row is not burnt
pub outside : (rows : List ℕ) (es : List Entry) (k : ℕ) → Apart k es → row_at (all_written rows es) k ≡ row_at rows k
unfolding all_written Apart
outside rows [] k apart = refl
outside rows (e ∷ others) k apart =
    outside (with_entry rows e) others k apart.1 ∙ get_or-set_other rows e.row k (written_over rows e).row 0 apart.0

-- no row below the least has an entry
pub below_apart : {least : ℕ} (es : List Entry) (k : ℕ) → Rising least es → k < least → Apart k es
unfolding Apart
below_apart [] k Rising.none below = tt
below_apart {least} (e ∷ others) k (Rising.more low high rest) below = (λ same. omega arith, below_apart {least = e.row + 1} others k rest (omega arith))

-- nor has one from 0xf40 to 0xf7f
pub kept_apart : {rows : List ℕ} {state : State} {least : ℕ} (es : List Entry) (k : ℕ) → Admitted rows state least es → 0xf40 ≤ k → k < 0xf80
    → Apart k es
unfolding Apart
kept_apart [] k Admitted.none from to = tt
kept_apart {least = least} (e ∷ others) k (Admitted.more low place small done rest) from to = (λ same. other same place, kept_apart {least = e.row + 1} others k rest from to)
  where
    other : k ≡ e.row → Placed e → ⊥
    other same (inl data-row) = omega arith
    other same (inr lock_row) = omega (arith, lock_row.0)

-- their pulses are the bits newly set
pub all_pulses_lem : {rows : List ℕ} {state : State} {least : ℕ} (es : List Entry) → length rows ≡ 4096 → Admitted rows state least es
    → all_pulses rows es ≡ newly_set rows (all_written rows es)
unfolding all_pulses all_written
all_pulses_lem {rows} [] whole Admitted.none = sym (new_none rows)
all_pulses_lem {rows} {state} {least} (e ∷ others) whole (Admitted.more low place small done rest) =
    let high = placed_low e place in
    let new : ℕ = (written_over rows e).row in
    ap₂ ◌+◌ (entry_pulses (row_at rows e.row) e ∙ sym (new_set rows e.row new (omega arith)))
    (all_pulses_lem {rows = with_entry rows e} {least = e.row + 1} others (length-set rows e.row new ∙ whole) (admitted_next e.row new rest))
    ∙ new_through (with_keeps rows e) (all_keep others (with_entry rows e))

-- written again over rows between the old ones and those that they leave, they are accepted and leave the same
pub again : {rows left : List ℕ} {state : State} {least : ℕ} (es : List Entry) → length rows ≡ 4096 → Admitted rows state least es
    → EachIn rows left → EachIn left (all_written rows es) → Admitted left state least es × (all_written left es ≡ all_written rows es)
unfolding all_written
again [] whole Admitted.none over under = (Admitted.none, each_both under over)
again {rows} {left} {state} {least} (e ∷ others) whole (Admitted.more low place small done rest) over under =
    let high = placed_low e place in
    let at : ℕ = e.row in
    let new : ℕ = (written_over rows e).row in
    let judged = judged_done rows state e done in
    let next : Admitted (with_entry rows e) state (at + 1) others = admitted_next at new rest in
    let final : row_at (all_written (with_entry rows e) others) at ≡ new =
    outside (with_entry rows e) others at (below_apart others at (admitted_rising next) (omega arith)) ∙ get_or-set_same rows at new 0 (omega arith) in
    let inside = rw final at (each_at at under) in
    let same = entry_again (row_at rows at) (row_at left at) e judged.2 (each_at at over) inside in
    let others-again =
    again {rows = with_entry rows e} {left = set left at new} {least = at + 1} others (length-set rows at new ∙ whole) next
    (each_set at new new over (in_itself new)) (each_under at new under (rw final (in_itself new))) in
    let bound : row_at left at ≤ new = in_le (row_at left at) new inside in
    let new-low : new < 2 ^ 24 = entry_small (row_at rows at) e (omega arith) small in (
      Admitted.more low place small (done_judged left state e judged.0 (omega arith) same.0)
          (admitted_agrees others-again.0 (λ k l. sym (get_or-set_other left at k new 0 (λ here. omega arith)))),
      ap (λ (row : ℕ). all_written (set left at row) others) same.1 ∙ others-again.1,
    )
