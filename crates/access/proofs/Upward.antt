-- Rows taken upward: judging them one after the other, and gathering them.
-- Assumes nothing.
use mathlib.Core.Path.{◌≡◌, refl, sym, ap, ◌∙◌}
use mathlib.Core.Bool.{Bool, true, false, ◌||◌}
use mathlib.Core.List.{List, [], ◌∷◌, ◌++◌}
use Prim.Native.Nat.{ℕ, suc, ◌+◌, ◌-◌, ◌≤◌, ◌<◌}
use native.Mathlib.Nat.{le_of_lt}
use native.Mathlib.Numerals.{add-one}
use native.Mathlib.Omega.{arith}
use borrow.Author.Tests.{eq-eqb, eqb-true}
use lib.Dec.{eqb}
use lib.ListN.{length, get_or, take, drop, set, replicate, length-drop}
use lib.Seq.{take-suc, append_snoc, length-take-le, set_at, take_at, get_or-drop}
use Rattle.permit.specs.Permission.{may_read}
use Rattle.chip.specs.declared.state.State.{State}
use Rattle.answer.specs.Rungs.{first_of, or_else}
use Rattle.answer.proofs.Ladders.{refusing, then_rungs}
use Rattle.answer.proofs.Numbered.{not_done}
use Rattle.answer.specs.Refusals.{refusal_number}
use Rattle.answer.specs.declared.refusals.Refusal.{Refusal}
use Rattle.access.specs.Judging.{row_rungs}
use Rattle.access.specs.Votes.{group_rungs, group, gathered}

module _ (rows : List ℕ) (state : State) (caller at end : ℕ) where
  -- the next row's own rungs, and then those of the rows above it
  next_rungs : at < end → first_of (group_rungs rows state caller at (end - at))
      ≡ or_else (first_of (row_rungs rows state (may_read state caller at) at)) (first_of (group_rungs rows state caller (at + 1) (end - (at + 1))))
  unfolding group_rungs row_rungs refusing
  next_rungs more =
      let one_more : end - at ≡ suc (end - (at + 1)) = omega arith in
      rw (one_more, add-one)
      (then_rungs (row_rungs rows state (may_read state caller at) at) (group_rungs rows state caller (suc at) (end - suc at)) tt)

  -- a row that is let by hands on to those above it
  pub upward_next : at < end → 0 ≡ first_of (row_rungs rows state (may_read state caller at) at)
      → first_of (group_rungs rows state caller at (end - at)) ≡ first_of (group_rungs rows state caller (at + 1) (end - (at + 1)))
  upward_next more e = next_rungs more ∙ rw (eq-eqb (first_of (row_rungs rows state (may_read state caller at) at)) 0 (sym e))

  -- one that is refused answers for all
  pub upward_stops : at < end → (refusal : Refusal) → refusal_number refusal ≡ first_of (row_rungs rows state (may_read state caller at) at)
      → refusal_number refusal ≡ first_of (group_rungs rows state caller at (end - at))
  upward_stops more refusal e = sym (next_rungs more ∙ rw (← e, not_done refusal))

-- where no row is left, none was refused
pub upward_end : (rows : List ℕ) (state : State) (caller at end : ℕ) → end ≤ at → 0 ≡ first_of (group_rungs rows state caller at (end - at))
unfolding group_rungs
upward_end rows state caller at end e =
    let none : end - at ≡ 0 = omega arith in
    rw none

-- one row more is gathered
pub gather_next : (rows held : List ℕ) (row i : ℕ) → row + i < length rows → i < 8 → held ≡ gathered rows row i
    → set held i (get_or rows (row + i) 0) ≡ gathered rows row (i + 1)
gather_next rows held row i h l e =
    let there : i < length (drop row rows) = rw (length-drop row rows) (omega arith) in
    let room : 8 - i ≡ suc (8 - (i + 1)) = omega arith in
    ap (λ (eight : List ℕ). set eight i next) (e ∙ ap (λ (zeros : ℕ). group rows row i ++ replicate zeros 0) room)
    ∙ set_at (group rows row i) 0 behind next i (length-take-le i (drop row rows) (le_of_lt there))
    ∙ sym (append_snoc (group rows row i) next behind)
    ∙ ap (λ (front : List ℕ). front ++ behind) (sym (one_longer there))
  where
    next : ℕ
    next = get_or rows (row + i) 0

    behind : List ℕ
    behind = replicate (8 - (i + 1)) 0

    one_longer : i < length (drop row rows) → group rows row (i + 1) ≡ group rows row i ++ (next ∷ [])
    one_longer there =
        rw add-one (take-suc (drop row rows) i 0 there ∙ ap (λ (last : ℕ). group rows row i ++ (last ∷ [])) (get_or-drop row rows i 0))

-- the first of them are those of the group
pub first_gathered : (rows : List ℕ) (row count : ℕ) → row + count ≤ length rows → take count (gathered rows row count) ≡ group rows row count
first_gathered rows row count h =
    take_at (group rows row count) (replicate (8 - count) 0) count (length-take-le count (drop row rows) (rw (length-drop row rows) (omega arith)))

-- three or eight rows are at most eight
pub count_low : (count : ℕ) → (eqb count 3 || eqb count 8) ≡ true → count ≤ 8
count_low count e = go (eqb count 3) refl
  where
    go : (t : Bool) → eqb count 3 ≡ t → count ≤ 8
    go true three = let c : count ≡ 3 = eqb-true count 3 three in omega arith
    go false other = let c : count ≡ 8 = eqb-true count 8 (sym (ap (λ (t : Bool). t || eqb count 8) other) ∙ e) in omega arith
