-- What an advance leaves: the levels of one domain with one of them raised, and what is then shown.
-- Assumes nothing.
use mathlib.Core.Bool.{Bool, true, false, ◌||◌, true≢false}
use mathlib.Core.List.{List, [], ◌∷◌}
use mathlib.Core.Path.{◌≡◌, refl, sym, ap, ◌∙◌}
use Prim.Native.Nat.{ℕ, zero, suc, ◌≤◌, min, max}
use native.Mathlib.Omega.{arith}
use borrow.Author.Tests.{leb-true, leb-false}
use lib.Dec.{eqb, leb}
use lib.ListN.{set}
use Rattle.std.specs.Prelude.{if◌then◌else◌}
use Rattle.chip.specs.States.{counted_level, with_secure, with_nonsecure}
use Rattle.chip.specs.declared.state.State.{State}
use Rattle.lock.specs.Calls.{advanced}
use Rattle.answer.proofs.Choices.{both_ways, made_of}

-- ---- the levels of a domain

-- what asking for a level of a page leaves of them: there the higher of the two
abbrev pub raised : List ℕ → ℕ → ℕ → List ℕ
raised [] page level = []
raised (old ∷ others) zero level = max old level ∷ others
raised (old ∷ others) (suc page) level = old ∷ raised others page level

-- no level above 2 is asked for, so one that is latched stays
raised_is : (levels : List ℕ) (page level : ℕ) → level ≤ 2
    → (if leb level (counted_level levels page) then levels else set levels page level) ≡ raised levels page level
raised_is [] page level low = both_ways (λ (ls : List ℕ). ls ≡ []) (leb level 2) [] [] refl refl
raised_is (old ∷ others) zero level low = go (leb level (min old 2)) refl
  where
    go : (t : Bool) → leb level (min old 2) ≡ t → (if t then old ∷ others else level ∷ others) ≡ max old level ∷ others
    go true e = ap (λ (l : ℕ). l ∷ others) (omega (arith, leb-true level (min old 2) e))
    go false e = ap (λ (l : ℕ). l ∷ others) (omega (arith, low, leb-false level (min old 2) e))
raised_is (old ∷ others) (suc page) level low =
    sym (made_of (λ (ls : List ℕ). old ∷ ls) (leb level (counted_level others page)) others (set others page level))
    ∙ ap (λ (ls : List ℕ). old ∷ ls) (raised_is others page level low)

pub raised_twice : (levels : List ℕ) (page x y : ℕ) → raised (raised levels page x) page y ≡ raised levels page (max x y)
raised_twice [] page x y = refl
raised_twice (old ∷ others) zero x y = ap (λ (l : ℕ). l ∷ others) (omega arith)
raised_twice (old ∷ others) (suc page) x y = ap (λ (ls : List ℕ). old ∷ ls) (raised_twice others page x y)

pub raised_either : (levels : List ℕ) (p q x y : ℕ) → raised (raised levels p x) q y ≡ raised (raised levels q y) p x
raised_either [] p q x y = refl
raised_either (old ∷ others) zero zero x y = ap (λ (l : ℕ). l ∷ others) (omega arith)
raised_either (old ∷ others) zero (suc q) x y = refl
raised_either (old ∷ others) (suc p) zero x y = refl
raised_either (old ∷ others) (suc p) (suc q) x y = ap (λ (ls : List ℕ). old ∷ ls) (raised_either others p q x y)

-- of that page the higher of the two is then shown
raised_shown : (levels : List ℕ) (page level : ℕ) → level ≤ 2 → counted_level (raised levels page level) page ≡ max (counted_level levels page) level
raised_shown [] page level low = omega arith
raised_shown (old ∷ others) zero level low = omega arith
raised_shown (old ∷ others) (suc page) level low = raised_shown others page level low

-- and of any other what was
raised_others : (levels : List ℕ) (page level at : ℕ) → (at ≡ page → ⊥) → counted_level (raised levels page level) at ≡ counted_level levels at
raised_others [] page level at other = refl
raised_others (old ∷ others) zero level zero other = absurd (other refl)
raised_others (old ∷ others) zero level (suc at) other = refl
raised_others (old ∷ others) (suc page) level zero other = refl
raised_others (old ∷ others) (suc page) level (suc at) other = raised_others others page level at (λ same. other (ap suc same))

-- ---- the state

-- what asking for a level of a page leaves of it, in Secure, in Non-secure or in neither
abbrev pub asked : Bool → Bool → State → ℕ → ℕ → State
asked secure nonsecure state page level =
    if secure then with_secure state (raised state.secure page level)
    else if nonsecure then with_nonsecure state (raised state.nonsecure page level)
    else state

module _ (state : State) (page level : ℕ) (low : level ≤ 2) where
  by_test : (with-levels : List ℕ → State) (levels : List ℕ)
      → (if leb level (counted_level levels page) then with-levels levels else with-levels (set levels page level))
      ≡ with-levels (raised levels page level)
  by_test with-levels levels =
      sym (made_of with-levels (leb level (counted_level levels page)) levels (set levels page level))
      ∙ ap with-levels (raised_is levels page level low)

  pub asked_is : (domain : ℕ) → advanced state domain page level ≡ asked (eqb domain 0) (eqb domain 1) state page level
  asked_is domain = go (eqb domain 0) (eqb domain 1)
    where
      go : (s n : Bool)
          → (if leb level (counted_level (if s then state.secure else if n then state.nonsecure else state.bootloader) page) then state
          else if s then with_secure state (set state.secure page level)
          else if n then with_nonsecure state (set state.nonsecure page level)
          else state)
          ≡ asked s n state page level
      go true n = by_test (with_secure state) state.secure
      go false true = by_test (with_nonsecure state) state.nonsecure
      go false false = by_test (λ levels. state) state.bootloader

-- ---- the levels of Secure, of Non-secure or of neither, and what is shown

abbrev levels : Bool → Bool → State → List ℕ
levels secure nonsecure state = if secure then state.secure else if nonsecure then state.nonsecure else state.bootloader

module _ (state : State) (page level : ℕ) where
  abbrev shown : State → Bool → Bool → ℕ → ℕ
  shown s secure nonsecure at = counted_level (levels secure nonsecure s) at

  pub asked_shown : (s n : Bool) → (s || n) ≡ true → level ≤ 2 → shown (asked s n state page level) s n page ≡ max (shown state s n page) level
  asked_shown true n soft low = raised_shown state.secure page level low
  asked_shown false true soft low = raised_shown state.nonsecure page level low
  asked_shown false false soft low = absurd (true≢false (sym soft))

  pub asked_others : (s n s' n' : Bool) (at : ℕ) → (s ≡ true → s' ≡ true → at ≡ page → ⊥) → (n ≡ true → n' ≡ true → at ≡ page → ⊥)
      → shown (asked s n state page level) s' n' at ≡ shown state s' n' at
  asked_others true n true n' at in-secure in-nonsecure = raised_others state.secure page level at (in-secure refl refl)
  asked_others true n false n' at in-secure in-nonsecure = refl
  asked_others false true true n' at in-secure in-nonsecure = refl
  asked_others false true false true at in-secure in-nonsecure = raised_others state.nonsecure page level at (in-nonsecure refl refl)
  asked_others false true false false at in-secure in-nonsecure = refl
  asked_others false false s' n' at in-secure in-nonsecure = refl

-- levels that were the same in two states still are
pub asked_same : (s n s' n' : Bool) (a b : State) (page level : ℕ) → levels s' n' a ≡ levels s' n' b
    → levels s' n' (asked s n a page level) ≡ levels s' n' (asked s n b page level)
asked_same true n true n' a b page level same = ap (λ (own : List ℕ). raised own page level) same
asked_same true n false n' a b page level same = same
asked_same false true true n' a b page level same = same
asked_same false true false true a b page level same = ap (λ (own : List ℕ). raised own page level) same
asked_same false true false false a b page level same = same
asked_same false false s' n' a b page level same = same
