-- One advance call after another: two of one lock are one to the higher level, and two of any locks leave the same chip in either order.
-- Assumes nothing.
use mathlib.Core.Bool.{Bool, true, false}
use mathlib.Core.Path.{◌≡◌, refl, sym, ap, ◌∙◌}
use Prim.Native.Nat.{ℕ, ◌≤◌, max}
use native.Mathlib.Omega.{arith}
use borrow.Author.Tests.{eqb-true, le-ltb}
use lib.Dec.{eqb}
use Rattle.std.specs.Prelude.{if◌then◌else◌}
use Rattle.chip.specs.States.{with_secure, with_nonsecure}
use Rattle.chip.specs.declared.state.State.{State}
use Rattle.chip.specs.declared.state.Outcome.{Outcome}
use Rattle.lock.specs.Calls.{advance_number, advanced, advance}
use Rattle.laws.specs.Calls.{Chip, Call, an_advance, perform}
use Rattle.merging.specs.Settings.{Advances}
use Rattle.answer.proofs.Choices.{made_of}
use Rattle.laws.proofs.Raised.{raised_twice, raised_either, asked, asked_is}
use Rattle.laws.proofs.Locking.{in_range_lem}

asked_twice : (s n : Bool) (state : State) (page x y : ℕ) → asked s n (asked s n state page x) page y ≡ asked s n state page (max x y)
asked_twice true n state page x y = ap (with_secure state) (raised_twice state.secure page x y)
asked_twice false true state page x y = ap (with_nonsecure state) (raised_twice state.nonsecure page x y)
asked_twice false false state page x y = refl

asked_either : (s n s' n' : Bool) (state : State) (p q x y : ℕ) → asked s' n' (asked s n state p x) q y ≡ asked s n (asked s' n' state q y) p x
asked_either true n true n' state p q x y = ap (with_secure state) (raised_either state.secure p q x y)
asked_either true n false true state p q x y = refl
asked_either true n false false state p q x y = refl
asked_either false true true n' state p q x y = refl
asked_either false true false true state p q x y = ap (with_nonsecure state) (raised_either state.nonsecure p q x y)
asked_either false true false false state p q x y = refl
asked_either false false s' n' state p q x y = refl

-- ---- the call

-- the chip that a call leaves
abbrev pub after : Chip → Call → Chip
after chip call = (perform chip call).chip

-- a chip with another state
abbrev pub with_state : Chip → State → Chip
with_state chip state = record { rows = chip.rows; state = state }

-- what an advance leaves, done or refused
abbrev left : Bool → Chip → ℕ → ℕ → ℕ → Chip
left done chip domain page level =
    with_state chip (if done then asked (eqb domain 0) (eqb domain 1) chip.state page level else chip.state)

left_is : (chip : Chip) (caller domain page level : ℕ)
    → after chip (an_advance caller domain page level) ≡ left (eqb (advance_number caller domain page level) 0) chip domain page level
unfolding perform advance
left_is chip caller domain page level = ap (with_state chip) (made_of (λ (o : Outcome). o.state) (eqb number 0) _ _ ∙ go (eqb number 0) refl)
  where
    number : ℕ
    number = advance_number caller domain page level

    go : (t : Bool) → eqb number 0 ≡ t
        → (if t then advanced chip.state domain page level else chip.state)
        ≡ (if t then asked (eqb domain 0) (eqb domain 1) chip.state page level else chip.state)
    go true e = asked_is chip.state page level (in_range_lem caller domain page level (eqb-true number 0 e)).1 domain
    go false e = refl

-- the number goes by the level only where that is above 2
pub number_by_level : (caller domain page level : ℕ) → level ≤ 2 → advance_number caller domain page level ≡ advance_number caller domain page 0
number_by_level caller domain page level low = rw (le-ltb 2 level low)

left_twice : (done : Bool) (chip : Chip) (domain page x y : ℕ)
    → left done (left done chip domain page x) domain page y ≡ left done chip domain page (max x y)
left_twice true chip domain page x y = ap (with_state chip) (asked_twice (eqb domain 0) (eqb domain 1) chip.state page x y)
left_twice false chip domain page x y = refl

pub twice_is_higher : (chip : Chip) (caller domain page x y : ℕ) → x ≤ 2 → y ≤ 2
    → after (after chip (an_advance caller domain page x)) (an_advance caller domain page y) ≡ after chip (an_advance caller domain page (max x y))
twice_is_higher chip caller domain page x y lx ly =
    ap (λ (c : Chip). after c (an_advance caller domain page y)) (is chip x lx) ∙ is (left done chip domain page x) y ly
    ∙ left_twice done chip domain page x y ∙ sym (is chip (max x y) (omega (arith, lx, ly)))
  where
    done : Bool
    done = eqb (advance_number caller domain page 0) 0

    is : (c : Chip) (level : ℕ) → level ≤ 2 → after c (an_advance caller domain page level) ≡ left done c domain page level
    is c level low =
        left_is c caller domain page level ∙ ap (λ (n : ℕ). left (eqb n 0) c domain page level) (number_by_level caller domain page level low)

pub call_twice : (chip : Chip) {call : Call} → Advances call → after (after chip call) call ≡ after chip call
call_twice chip (Advances.advancing {caller} {domain} {page} {level}) =
    let done : Bool = eqb (advance_number caller domain page level) 0 in
    ap (λ (c : Chip). after c (an_advance caller domain page level)) (left_is chip caller domain page level)
    ∙ left_is (left done chip domain page level) caller domain page level
    ∙ left_twice done chip domain page level level ∙ ap (left done chip domain page) (omega arith)
    ∙ sym (left_is chip caller domain page level)

pub either_first : (chip : Chip) {one other : Call} → Advances one → Advances other → after (after chip one) other ≡ after (after chip other) one
either_first chip (Advances.advancing {caller} {domain} {page} {level = x}) (Advances.advancing {caller = caller'} {domain = domain'} {page = page'} {level = y}) =
    let done : Bool = eqb (advance_number caller domain page x) 0 in
    let done' : Bool = eqb (advance_number caller' domain' page' y) 0 in
    ap (λ (c : Chip). after c (an_advance caller' domain' page' y)) (left_is chip caller domain page x)
    ∙ left_is (left done chip domain page x) caller' domain' page' y
    ∙ go done done'
    ∙ sym (ap (λ (c : Chip). after c (an_advance caller domain page x)) (left_is chip caller' domain' page' y)
    ∙ left_is (left done' chip domain' page' y) caller domain page x)
  where
    go : (t t' : Bool) → left t' (left t chip domain page x) domain' page' y ≡ left t (left t' chip domain' page' y) domain page x
    go true true =
        ap (with_state chip) (asked_either (eqb domain 0) (eqb domain 1) (eqb domain' 0) (eqb domain' 1) chip.state page page' x y)
    go true false = refl
    go false true = refl
    go false false = refl
