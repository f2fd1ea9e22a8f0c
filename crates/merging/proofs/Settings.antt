-- Advancing a chip to settings: the laws of merging two checklists.
-- Assumes nothing.
use mathlib.Core.List.{List, [], ◌∷◌, map}
use mathlib.Core.Logic.{inl, inr}
use mathlib.Core.Path.{◌≡◌, refl, sym, ap, ◌∙◌, subst}
use Prim.Native.Nat.{ℕ, ◌≤◌}
use native.Mathlib.Omega.{arith}
use borrow.Author.Tests.{le-leb}
use lib.Dec.{eqb}
use Rattle.chip.specs.Callers.{shown_level}
use Rattle.chip.specs.declared.state.Outcome.{Outcome}
use Rattle.lock.specs.Calls.{advance_number, advance}
use Rattle.laws.specs.Calls.{Chip, an_advance, perform, perform_all}
use Rattle.merging.specs.Settings.{Lock, locks_of, Levels, Setting, merge, zero_everywhere, call_to, ◌among◌, Advances, ThenIsMerge, EitherOrder, EitherGrouping, TwiceIsOnce, ZeroChangesNothing, LeftOut}
use Rattle.answer.proofs.Choices.{both_ways}
use Rattle.merging.proofs.AnyOrder.{AllAdvance, before_or_after}
use Rattle.merging.proofs.Raising.{after, with_state, twice_is_higher}

-- ---- the calls of a setting

-- they advance locks
pub its_calls : (caller : ℕ) (levels : Levels) (locks : List Lock) → AllAdvance (map (call_to caller levels) locks)
unfolding ◌among◌
its_calls caller levels [] call none = absurd none
its_calls caller levels (lock ∷ others) call (inl same) = subst Advances (sym same) Advances.advancing
its_calls caller levels (lock ∷ others) call (inr later) = its_calls caller levels others call later

-- that of a lock is one of them
pub its_call : (caller : ℕ) (levels : Levels) (locks : List Lock) (lock : Lock) → lock among locks
    → call_to caller levels lock among map (call_to caller levels) locks
unfolding ◌among◌
its_call caller levels [] lock none = none
its_call caller levels (first ∷ others) lock (inl same) = inl (ap (call_to caller levels) same)
its_call caller levels (first ∷ others) lock (inr later) = inr (its_call caller levels others lock later)

-- the chip that those of some locks leave
abbrev pub over : List Lock → Chip → ℕ → Levels → Chip
over locks chip caller levels = perform_all chip (map (call_to caller levels) locks)

-- ---- merging, over the locks

over_then_over : (locks : List Lock) (chip : Chip) (caller : ℕ) (a b : Levels) → Setting a → Setting b
    → over locks (over locks chip caller a) caller b ≡ over locks chip caller (merge a b)
unfolding perform_all
over_then_over [] chip caller a b la lb = refl
over_then_over (lock ∷ others) chip caller a b la lb =
    ap (λ (c : Chip). over others c caller b)
    (sym (before_or_after (after chip (call_to caller a lock)) (map (call_to caller a) others) Advances.advancing (its_calls caller a others))
    ∙ ap (λ (c : Chip). over others c caller a)
    (twice_is_higher chip caller lock.domain lock.page (a lock) (b lock) (la lock) (lb lock)))
    ∙ over_then_over others (after chip (call_to caller (merge a b) lock)) caller a b la lb

-- settings with the same levels leave the same chip: so a law of the higher of two numbers is one of merging
by_levels : (locks : List Lock) (chip : Chip) (caller : ℕ) (a b : Levels) → ((lock : Lock) → a lock ≡ b lock)
    → over locks chip caller a ≡ over locks chip caller b
unfolding perform_all
by_levels [] chip caller a b same = refl
by_levels (lock ∷ others) chip caller a b same =
    rw (same lock) (by_levels others (after chip (call_to caller b lock)) caller a b same)

merged : {a b : Levels} → Setting a → Setting b → Setting (merge a b)
merged la lb lock = omega (arith, la lock, lb lock)

pub then_is_merge : ThenIsMerge
then_is_merge chip caller = over_then_over (locks_of caller) chip caller

pub either_order : EitherOrder
either_order chip caller a b la lb =
    then_is_merge chip caller a b la lb
    ∙ by_levels (locks_of caller) chip caller (merge a b) (merge b a) (λ lock. omega arith)
    ∙ sym (then_is_merge chip caller b a lb la)

pub either_grouping : EitherGrouping
either_grouping chip caller a b c la lb lc =
    let All-three = then_is_merge chip caller a (merge b c) la (merged lb lc) in
    let in_turn_lem =
    then_is_merge chip caller (merge a b) c (merged la lb) lc
    ∙ by_levels (locks_of caller) chip caller (merge (merge a b) c) (merge a (merge b c)) (λ lock. omega arith) in
    (All-three ∙ sym in_turn_lem, in_turn_lem)

pub twice_is_once : TwiceIsOnce
twice_is_once chip caller a la =
    then_is_merge chip caller a a la la ∙ by_levels (locks_of caller) chip caller (merge a a) a (λ lock. omega arith)

-- ---- level 0

-- asking for an equal or lower level changes nothing
no_higher : (chip : Chip) (caller domain page level : ℕ) → level ≤ shown_level chip.state domain page
    → after chip (an_advance caller domain page level) ≡ chip
unfolding perform advance
no_higher chip caller domain page level low =
    ap (with_state chip)
    (both_ways (λ (o : Outcome). o.state ≡ chip.state) (eqb (advance_number caller domain page level) 0) _ _
    (rw (le-leb level (shown_level chip.state domain page) low)) refl)

pub left_out : LeftOut
left_out chip caller domain page = no_higher chip caller domain page 0 (omega arith)

zero_over : (locks : List Lock) (chip : Chip) (caller : ℕ) → over locks chip caller zero_everywhere ≡ chip
unfolding perform_all
zero_over [] chip caller = refl
zero_over (lock ∷ others) chip caller =
    ap (λ (c : Chip). over others c caller zero_everywhere)
    (no_higher chip caller lock.domain lock.page (zero_everywhere lock) (omega arith))
    ∙ zero_over others chip caller

pub zero_changes_nothing : ZeroChangesNothing
zero_changes_nothing chip caller = zero_over (locks_of caller) chip caller
