-- Locks: until a reset no counted level falls, and a reset goes by the rows alone.
-- Assumes nothing.
use mathlib.Core.Bool.{Bool, true, false, ◌||◌}
use mathlib.Core.Path.{◌≡◌, refl, sym, ap, ◌∙◌}
use Prim.Native.Nat.{ℕ, ◌≤◌, min}
use native.Mathlib.Nat.{le_refl, le_trans, le_of_eq, min-eq_left, min-le_right}
use native.Mathlib.Omega.{arith}
use borrow.Author.Tests.{eq-eqb, eqb-true, eqb-false, ltb-false}
use lib.Dec.{eqb, ltb}
use Rattle.chip.specs.Callers.{no_caller, no_domain, shown_level}
use Rattle.chip.specs.Lists.{listed}
use Rattle.chip.specs.Pages.{high_lock_row}
use Rattle.chip.specs.Slices.{row_at}
use Rattle.chip.specs.States.{counted_level}
use Rattle.chip.specs.declared.state.State.{State}
use Rattle.chip.specs.declared.state.Outcome.{Outcome}
use Rattle.latch.specs.Locks.{level_of, secure_field, nonsecure_field, bootloader_field}
use Rattle.latch.specs.Resetting.{latched, reset_number, reset}
use Rattle.lock.specs.Calls.{advance_number, advanced, advance}
use Rattle.laws.specs.Promises.{NoLockFalls, SoftLocksFallBack, LevelsFallBack, AdvanceLeavesHigher, AdvanceLeavesOthers}
use Rattle.answer.proofs.Choices.{own_number}
use Rattle.answer.proofs.Ladders.{passed}
use Rattle.chip.proofs.Lists.{listed_at}
use Rattle.laws.proofs.Latches.{reset_state}
use Rattle.laws.proofs.Raised.{asked, asked_is, asked_shown, asked_others}
use Rattle.laws.proofs.WithoutReset.{by_calls}

pub soft_locks_fall_back : SoftLocksFallBack
unfolding reset
soft_locks_fall_back rows a b e = rw (eq-eqb (reset_number rows) 0 e)

-- ---- a done advance

-- its domain has soft locks, and its level is one
pub in_range_lem : (caller domain page level : ℕ) → advance_number caller domain page level ≡ 0 → (domain ≤ 1) × (level ≤ 2)
in_range_lem caller domain page level none =
    let by-caller = passed (no_caller caller) 3 _ none in
    let by-domain = passed (no_domain domain) 3 _ by-caller.1 in
    let by-page = passed (ltb 63 page) 3 _ by-domain.1 in
    let by_level = passed (ltb 2 level) 3 _ by-page.1 in
    let soft = passed (eqb domain 2) 6 _ by_level.1 in
    (omega (arith, ltb-false 2 domain by-domain.0, eqb-false domain 2 soft.0), ltb-false 2 level by_level.0)

module _ (state : State) (caller domain page level : ℕ) (done : (advance state caller domain page level).answer.number ≡ 0) where
  advance_number_lem : advance_number caller domain page level ≡ 0
  unfolding advance
  advance_number_lem =
      sym (own_number (λ (o : Outcome). o.answer.number) (advance_number caller domain page level) _ _ refl refl) ∙ done

  range : (domain ≤ 1) × (level ≤ 2)
  range = in_range_lem caller domain page level advance_number_lem

  pub advance_state : (advance state caller domain page level).state ≡ advanced state domain page level
  unfolding advance
  advance_state = rw (eq-eqb (advance_number caller domain page level) 0 advance_number_lem)

  pub advance_asked : (advance state caller domain page level).state ≡ asked (eqb domain 0) (eqb domain 1) state page level
  advance_asked = advance_state ∙ asked_is state page level range.1 domain

-- a domain of the two that have soft locks is one of them
secure_or_not : (domain : ℕ) → domain ≤ 1 → (eqb domain 0 || eqb domain 1) ≡ true
secure_or_not domain low = go (eqb domain 0) refl
  where
    go : (t : Bool) → eqb domain 0 ≡ t → (t || eqb domain 1) ≡ true
    go true e = refl
    go false e = eq-eqb domain 1 (omega (arith, low, eqb-false domain 0 e))

pub advance_leaves_higher : AdvanceLeavesHigher
advance_leaves_higher state caller domain page level done =
    let soft = range state caller domain page level done in
    rw (advance_asked state caller domain page level done)
    (asked_shown state page level (eqb domain 0) (eqb domain 1) (secure_or_not domain soft.0) soft.1)

pub advance_leaves_others : AdvanceLeavesOthers
advance_leaves_others state caller domain page level done other-domain other-page different =
    rw (advance_asked state caller domain page level done)
    (asked_others state page level (eqb domain 0) (eqb domain 1) (eqb other-domain 0) (eqb other-domain 1) other-page
    (λ a b. different (same 0 a b)) (λ a b. different (same 1 a b)))
  where
    same : (d : ℕ) → eqb domain d ≡ true → eqb other-domain d ≡ true → other-domain ≡ domain
    same d a b = eqb-true other-domain d b ∙ sym (eqb-true domain d a)

-- ---- a done reset

pub levels_fall_back : LevelsFallBack
unfolding latched
levels_fall_back rows state page done h =
    rw (reset_state rows state done) (fallen secure_field, fallen nonsecure_field, fallen bootloader_field)
  where
    fallen : (field : ℕ → ℕ)
        → counted_level (listed 64 (λ p. level_of (field (row_at rows (high_lock_row p))))) page ≡ level_of (field (row_at rows (high_lock_row page)))
    fallen field =
        ap (λ (l : ℕ). min l 2) (listed_at (λ p. level_of (field (row_at rows (high_lock_row p)))) 64 page 2 h) ∙ min-eq_left (min-le_right _ 2)

-- ---- calls

-- no counted level is below the one before
abbrev pub NoneFalls : State → State → Type 0
NoneFalls before after = (domain page : ℕ) → shown_level before domain page ≤ shown_level after domain page

none_falls : (state : State) → NoneFalls state state
none_falls state domain page = le_refl (shown_level state domain page)

-- an advance shows the higher of two levels, or what was
pub advance_raises : (state : State) (caller domain page level : ℕ) → (advance state caller domain page level).answer.number ≡ 0
    → NoneFalls state (advance state caller domain page level).state
advance_raises state caller domain page level done other at = go (eqb other domain) refl (eqb at page) refl
  where
    go : (d : Bool) → eqb other domain ≡ d → (p : Bool) → eqb at page ≡ p
        → shown_level state other at ≤ shown_level (advance state caller domain page level).state other at
    go true d true p =
        rw (eqb-true other domain d, eqb-true at page p, advance_leaves_higher state caller domain page level done) (omega arith)
    go true d false p =
        le_of_eq (sym (advance_leaves_others state caller domain page level done other at (λ same-domain same-page. eqb-false at page p same-page)))
    go false d t p =
        le_of_eq (sym (advance_leaves_others state caller domain page level done other at (λ same-domain same-page. eqb-false other domain d same-domain)))

pub no_lock_falls : NoLockFalls
no_lock_falls chip calls domain page no-reset =
    by_calls NoneFalls none_falls
    (λ a b c first second domain page. le_trans (first domain page) (second domain page))
    advance_raises (λ state words. none_falls state) (λ state tallies. none_falls state) chip calls no-reset domain page
