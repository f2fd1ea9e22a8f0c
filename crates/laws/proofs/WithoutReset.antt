-- Calls with no reset among them: what relates the states before and after, if advancing a lock, entering a key and other tallies keep it.
-- Assumes nothing.
use mathlib.Core.Bool.{Bool, true, false}
use mathlib.Core.List.{List, [], ◌∷◌}
use mathlib.Core.Path.{◌≡◌, refl, sym, subst}
use Prim.Native.Nat.{ℕ}
use borrow.Author.Tests.{eqb-true, eqb-false}
use lib.Dec.{eqb}
use Rattle.chip.specs.States.{with_entered, with_tallies}
use Rattle.chip.specs.declared.state.State.{State}
use Rattle.chip.specs.declared.state.Outcome.{Outcome}
use Rattle.lock.specs.Calls.{advance, enter_number, enter_key}
use Rattle.laws.specs.Calls.{Chip, Call, a_reset, a_raw_read, an_ecc_read, a_vote, a_raw_write, an_ecc_write, an_advance, a_show, a_key, a_job, a_rehearsal, an_end, a_repair, perform, perform_all}
use Rattle.laws.specs.Promises.{NoReset, Burns}
use Rattle.laws.proofs.Refusals.{refusal_keeps}
use Rattle.laws.proofs.Burning.{burning_latches_nothing}
use Rattle.answer.proofs.Choices.{both_ways}

module _ (Kept : State → State → Type 0) (itself : (state : State) → Kept state state)
    (through : (a b c : State) → Kept a b → Kept b c → Kept a c)
    (by_advance : (state : State) (caller domain page level : ℕ) → (advance state caller domain page level).answer.number ≡ 0
    → Kept state (advance state caller domain page level).state)
    (by_key : (state : State) (words : List ℕ) → Kept state (with_entered state words))
    (by-tallies : (state : State) (tallies : List ℕ) → Kept state (with_tallies state tallies)) where
  -- what burns changes nothing but the tallies
  by_burning : (chip : Chip) {call : Call} → Burns call → Kept chip.state (perform chip call).chip.state
  by_burning chip {call} burns =
      subst (Kept chip.state) (sym (burning_latches_nothing chip call burns)) (by-tallies chip.state (perform chip call).chip.state.tallies)

  by_call : (chip : Chip) (call : Call) → (call ≡ a_reset → ⊥) → Kept chip.state (perform chip call).chip.state
  unfolding perform advance enter_key
  by_call chip a_reset not-reset = absurd (not-reset refl)
  by_call chip (a_raw_read caller row) not-reset = itself chip.state
  by_call chip (an_ecc_read caller row) not-reset = itself chip.state
  by_call chip (a_vote caller row count) not-reset = itself chip.state
  by_call chip (a_raw_write caller row value) not-reset = by_burning chip Burns.raw_write
  by_call chip (an_ecc_write caller row value) not-reset = by_burning chip Burns.ecc_write
  by_call chip (an_advance caller domain page level) not-reset = go (eqb (advance chip.state caller domain page level).answer.number 0) refl
    where
      go : (t : Bool) → eqb (advance chip.state caller domain page level).answer.number 0 ≡ t
          → Kept chip.state (advance chip.state caller domain page level).state
      go true done = by_advance chip.state caller domain page level (eqb-true _ 0 done)
      go false refused =
          subst (λ (left : Chip). Kept chip.state left.state)
          (sym (refusal_keeps chip (an_advance caller domain page level) (eqb-false _ 0 refused)).4) (itself chip.state)
  by_call chip (a_show caller domain page) not-reset = itself chip.state
  by_call chip (a_key caller key) not-reset =
      both_ways (λ (o : Outcome). Kept chip.state o.state) (eqb (enter_number caller key) 0) _ _
      (by_key chip.state _) (itself chip.state)
  by_call chip (a_job job) not-reset = by_burning chip Burns.job
  by_call chip (a_rehearsal job limit) not-reset = by_burning chip Burns.rehearsal
  by_call chip (an_end area note) not-reset = by_burning chip Burns.ended
  by_call chip (a_repair list report) not-reset = by_burning chip Burns.repaired

  pub by_calls : (chip : Chip) (calls : List Call) → NoReset calls → Kept chip.state (perform_all chip calls).state
  unfolding perform_all
  by_calls chip [] NoReset.none = itself chip.state
  by_calls chip (call ∷ others) (NoReset.more not-reset rest) =
      let next : Chip = (perform chip call).chip in
      through chip.state next.state (perform_all next others).state (by_call chip call not-reset) (by_calls next others rest)
