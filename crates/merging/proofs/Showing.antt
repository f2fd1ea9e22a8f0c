-- Advancing a chip to a setting: none of the calls is refused, and each lock shows the higher level.
-- Assumes nothing.
use mathlib.Core.Bool.{Bool, true, false}
use mathlib.Core.List.{List, [], ◌∷◌, ◌++◌, map}
use mathlib.Core.Logic.{◌⊎◌, inl, inr, ⊎_elim}
use mathlib.Core.Path.{◌≡◌, refl, sym, ap, ◌∙◌, subst}
use Prim.Native.Nat.{ℕ, zero, suc, ◌≤◌, ◌<◌, max}
use native.Mathlib.Nat.{le_refl}
use native.Mathlib.Omega.{arith}
use borrow.Author.Tests.{eqb-true, eqb-false, le-ltb}
use lib.Dec.{eqb}
use Rattle.std.specs.Prelude.{if◌then◌else◌}
use Rattle.chip.specs.Lists.{listed}
use Rattle.chip.specs.declared.state.Outcome.{Outcome}
use Rattle.lock.specs.Calls.{advance_number, advance}
use Rattle.laws.specs.Calls.{Chip, Call, perform, perform_all}
use Rattle.merging.specs.Settings.{Lock, locks_in, locks_of, Levels, call_to, shown, ◌among◌, Advances, NoneRefused, HigherShown, OthersStay}
use Rattle.answer.proofs.Choices.{own_number}
use Rattle.merging.proofs.AnyOrder.{before_or_after, adds_nothing}
use Rattle.laws.proofs.Locking.{advance_leaves_higher, advance_leaves_others}
use Rattle.merging.proofs.Raising.{after, number_by_level}
use Rattle.merging.proofs.Settings.{its_calls, its_call, over}

-- ---- none is refused

among_parts : {A : Type 0} (one : A) (firsts others : List A) → one among (firsts ++ others) → (one among firsts) ⊎ (one among others)
unfolding ◌among◌
among_parts one [] others h = inr h
among_parts one (first ∷ firsts) others (inl same) = inl (inl same)
among_parts one (first ∷ firsts) others (inr later) = go (among_parts one firsts others later)
  where
    go : (one among firsts) ⊎ (one among others) → ((one ≡ first) ⊎ (one among firsts)) ⊎ (one among others)
    go (inl h) = inl (inr h)
    go (inr h) = inr h

among_none : {A : Type 0} (one : A) → one among [] → ⊥
unfolding ◌among◌
among_none one h = h

among_chosen : {A P : Type 0} (one : A) (t : Bool) (firsts others : List A) → one among (if t then firsts else others)
    → (t ≡ true → one among firsts → P) → (t ≡ false → one among others → P) → P
among_chosen one true firsts others h in-firsts in-others = in-firsts refl h
among_chosen one false firsts others h in-firsts in-others = in-others refl h

among_listed : {A : Type 0} (rule : ℕ → A) (places : ℕ) (one : A) → one among listed places rule → (place : ℕ) × (place < places) × (one ≡ rule place)
unfolding ◌among◌ listed
among_listed rule zero one none = absurd none
among_listed rule (suc places) one h =
    ⊎_elim
    (λ before. let found = among_listed rule places one before in (found.0, omega (arith, found.1), found.2))
    (λ last. ⊎_elim (λ same. (places, le_refl (suc places), same)) (λ none. absurd none) last)
    (among_parts one (listed places rule) (rule places ∷ []) h)

module _ (caller : ℕ) (levels : Levels) (lock : Lock) (low : levels lock ≤ 2) where
  -- a lock of a domain that the caller may advance
  none_in : (domain : ℕ) → advance_number caller domain 0 0 ≡ 0 → lock among locks_in domain
      → advance_number caller lock.domain lock.page (levels lock) ≡ 0
  none_in domain may h =
      let (page, below, same) = among_listed (λ page. record { domain = domain; page = page }) 64 lock h in
      number_by_level caller lock.domain lock.page (levels lock) low ∙ rw (same, le-ltb 63 page (omega (arith, below))) may

  none : lock among locks_of caller → advance_number caller lock.domain lock.page (levels lock) ≡ 0
  unfolding locks_of
  none h =
      among_chosen lock (eqb caller 0) _ _ h
      (λ secure g. ⊎_elim (none_in _ (rw (eqb-true caller 0 secure))) (none_in _ (rw (eqb-true caller 0 secure))) (among_parts lock _ _ g))
      (λ other g.
      among_chosen lock (eqb caller 1) _ _ g (λ nonsecure. none_in _ (rw (eqb-true caller 1 nonsecure))) (λ nobody none. absurd (among_none lock none)))

pub none_refused : NoneRefused
unfolding perform advance
none_refused chip caller a lock la h =
    own_number (λ (o : Outcome). o.answer.number) (advance_number caller lock.domain lock.page (a lock)) _ _ refl refl
    ∙ none caller a lock (la lock) h

-- ---- what is shown

same_lock : (a b : Lock) → a.domain ≡ b.domain → a.page ≡ b.page → a ≡ b
same_lock a b domain page =
    ap (λ (n : ℕ). record { domain = n; page = a.page }) domain ∙ ap (λ (n : ℕ). record { domain = b.domain; page = n }) page

module _ (caller : ℕ) (levels : Levels) where
  -- the call for some lock is done, whatever the chip
  abbrev Done : Lock → Type 0
  Done lock = (chip : Chip) → (perform chip (call_to caller levels lock)).answer.number ≡ 0

  one_higher : (chip : Chip) (lock : Lock) → Done lock
      → shown (after chip (call_to caller levels lock)) lock ≡ max (shown chip lock) (levels lock)
  unfolding perform advance
  one_higher chip lock done = advance_leaves_higher chip.state caller lock.domain lock.page (levels lock) (done chip)

  one_other : (chip : Chip) (called lock : Lock) → Done called → (lock ≡ called → ⊥)
      → shown (after chip (call_to caller levels called)) lock ≡ shown chip lock
  unfolding perform advance
  one_other chip called lock done different =
      advance_leaves_others chip.state caller called.domain called.page (levels called) (done chip) lock.domain lock.page
      (λ domain page. different (same_lock lock called domain page))

  -- a lock's level does not fall, and rises no higher than to the setting's
  abbrev Between : Chip → Chip → Lock → Type 0
  Between before after lock = (shown before lock ≤ shown after lock) × (shown after lock ≤ max (shown before lock) (levels lock))

  one_between : (chip : Chip) (called lock : Lock) → Done called → Between chip (after chip (call_to caller levels called)) lock
  one_between chip called lock done = go (eqb lock.domain called.domain) (eqb lock.page called.page) refl refl
    where
      left : Chip
      left = after chip (call_to caller levels called)

      other : (lock ≡ called → ⊥) → Between chip left lock
      other different = let same = one_other chip called lock done different in (omega (arith, same), omega (arith, same))

      itself : Between chip left called
      itself = let higher = one_higher chip called done in (omega (arith, higher), omega (arith, higher))

      go : (t t' : Bool) → eqb lock.domain called.domain ≡ t → eqb lock.page called.page ≡ t' → Between chip left lock
      go true true e e' = subst (Between chip left) (sym (same_lock lock called (eqb-true _ _ e) (eqb-true _ _ e'))) itself
      go true false e e' = other (λ same. eqb-false _ _ e' (ap (λ (l : Lock). l.page) same))
      go false t' e e' = other (λ same. eqb-false _ _ e (ap (λ (l : Lock). l.domain) same))

  all_between : (chip : Chip) (locks : List Lock) (lock : Lock) → ((called : Lock) → called among locks → Done called)
      → Between chip (over locks chip caller levels) lock
  unfolding perform_all ◌among◌
  all_between chip [] lock done = (omega arith, omega arith)
  all_between chip (first ∷ others) lock done =
      let one = one_between chip first lock (done first (inl refl)) in
      let rest = all_between (after chip (call_to caller levels first)) others lock (λ called h. done called (inr h)) in
      (omega (arith, one.0, rest.0), omega (arith, one.1, rest.1))

  -- made once more at the end, its own call changes nothing: so its level is there
  level_reached : (chip : Chip) (locks : List Lock) (lock : Lock) → Done lock → lock among locks
      → levels lock ≤ shown (over locks chip caller levels) lock
  level_reached chip locks lock done h =
      let calls : List Call = map (call_to caller levels) locks in
      let end : Chip = over locks chip caller levels in
      let unchanged : after end (call_to caller levels lock) ≡ end =
      sym (before_or_after chip calls Advances.advancing (its_calls caller levels locks))
      ∙ adds_nothing chip calls Advances.advancing (its_calls caller levels locks) (its_call caller levels locks lock h) in
      omega (arith, one_higher end lock done, ap (λ (c : Chip). shown c lock) unchanged)

  others_stay_lem : (chip : Chip) (locks : List Lock) (lock : Lock) → ((called : Lock) → called among locks → Done called)
      → (lock among locks → ⊥) → shown (over locks chip caller levels) lock ≡ shown chip lock
  unfolding perform_all ◌among◌
  others_stay_lem chip [] lock done other = refl
  others_stay_lem chip (first ∷ others) lock done other =
      others_stay_lem (after chip (call_to caller levels first)) others lock (λ called h. done called (inr h)) (λ h. other (inr h))
      ∙ one_other chip first lock (done first (inl refl)) (λ same. other (inl same))

pub higher_shown : HigherShown
higher_shown chip caller a lock la h =
    let done : (called : Lock) → called among locks_of caller → Done caller a called = λ called g c. none_refused c caller a called la g in
    let between = all_between caller a chip (locks_of caller) lock done in
    omega (arith, between.0, between.1, level_reached caller a chip (locks_of caller) lock (done lock h) h)

pub others_stay : OthersStay
others_stay chip caller a lock la = others_stay_lem caller a chip (locks_of caller) lock (λ called h c. none_refused c caller a called la h)
