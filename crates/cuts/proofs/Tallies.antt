-- The tallies over every call: the others keep them, and after a reset they stay right, over cuts too.
-- Assumes nothing.
use mathlib.Core.Bool.{Bool, true, false}
use mathlib.Core.List.{List, [], ◌∷◌}
use mathlib.Core.Logic.{◌⊎◌, inl, inr}
use mathlib.Core.Path.{◌≡◌, refl, sym, ap, ◌∙◌, subst}
use Prim.Native.Nat.{ℕ}
use borrow.Author.Tests.{eqb-true, eqb-false}
use lib.Dec.{eqb, leb}
use Rattle.answer.proofs.Choices.{both_ways}
use Rattle.chip.specs.Callers.{shown_level}
use Rattle.chip.specs.Tallies.{tallies_of, with_gains}
use Rattle.chip.specs.declared.state.State.{State}
use Rattle.chip.specs.declared.state.Outcome.{Outcome}
use Rattle.lock.specs.Calls.{advance_number, advance, enter_number, enter_key}
use Rattle.latch.specs.Resetting.{latched, reset_number, reset}
use Rattle.form.specs.Entries.{version_of}
use Rattle.laws.specs.Calls.{Chip, Call, a_reset, a_raw_read, an_ecc_read, a_vote, a_raw_write, an_ecc_write, an_advance, a_show, a_key, a_job, a_rehearsal, an_end, a_repair, perform, perform_all}
use Rattle.cuts.specs.Cuts.{Keyed, no_key_entered, key_entered, ready, Completes}
use Rattle.laws.specs.Promises.{Burns}
use Rattle.cuts.specs.Tallies.{Tallied, TalliesStayRight, CutTallied, CutsLeaveTallies, OthersKeepTallies}
use Rattle.cuts.proofs.Acceptance.{ran_number}
use Rattle.cuts.proofs.CutPower.{completes, cut_power}
use Rattle.cuts.proofs.Gains.{stay_right}
use Rattle.laws.proofs.Latches.{reset_state}
use Rattle.laws.proofs.Refusals.{refusal_keeps}
use Rattle.cuts.proofs.Naming.{call_counts}

-- a call burns, or is a reset, or leaves the tallies and the rows
data Sort (chip : Chip) (call : Call) : Type 0 where
  burning : Burns call → Sort chip call
  resetting : call ≡ a_reset → Sort chip call
  leaving : (perform chip call).chip.state.tallies ≡ chip.state.tallies → (perform chip call).chip.rows ≡ chip.rows → Sort chip call

sort_of : (chip : Chip) (call : Call) → Sort chip call
unfolding perform advance enter_key
sort_of chip a_reset = resetting refl
sort_of chip (a_raw_read caller row) = leaving refl refl
sort_of chip (an_ecc_read caller row) = leaving refl refl
sort_of chip (a_vote caller row count) = leaving refl refl
sort_of chip (a_raw_write caller row value) = burning Burns.raw_write
sort_of chip (an_ecc_write caller row value) = burning Burns.ecc_write
sort_of chip (an_advance caller domain page level) = leaving by_advance refl
  where
    Same : State → Type 0
    Same left = left.tallies ≡ chip.state.tallies

    by_advance : (advance chip.state caller domain page level).state.tallies ≡ chip.state.tallies
    by_advance =
        both_ways (λ (o : Outcome). Same o.state) (eqb (advance_number caller domain page level) 0) _ _
        (both_ways Same (leb level (shown_level chip.state domain page)) _ _ refl
        (both_ways Same (eqb domain 0) _ _ refl (both_ways Same (eqb domain 1) _ _ refl refl))) refl
sort_of chip (a_show caller domain page) = leaving refl refl
sort_of chip (a_key caller key) =
    leaving (both_ways (λ (o : Outcome). o.state.tallies ≡ chip.state.tallies) (eqb (enter_number caller key) 0) _ _ refl refl) refl
sort_of chip (a_job job) = burning Burns.job
sort_of chip (a_rehearsal job limit) = burning Burns.rehearsal
sort_of chip (an_end area note) = burning Burns.ended
sort_of chip (a_repair list report) = burning Burns.repaired

-- a call is refused, and leaves the chip, or done
refused_or_done : (chip : Chip) (call : Call) → ((perform chip call).chip ≡ chip) ⊎ ((perform chip call).answer.number ≡ 0)
refused_or_done chip call = go (eqb (perform chip call).answer.number 0) refl
  where
    go : (t : Bool) → eqb (perform chip call).answer.number 0 ≡ t → ((perform chip call).chip ≡ chip) ⊎ ((perform chip call).answer.number ≡ 0)
    go true done = inr (eqb-true _ 0 done)
    go false some = inl (refusal_keeps chip call (eqb-false _ 0 some)).4

pub others_keep_tallies : OthersKeepTallies
others_keep_tallies chip call no-reset no-burning = go (refused_or_done chip call) (sort_of chip call)
  where
    go : ((perform chip call).chip ≡ chip) ⊎ ((perform chip call).answer.number ≡ 0) → Sort chip call
        → (perform chip call).chip.state.tallies ≡ chip.state.tallies
    go (inl same) sort = ap (λ (c : Chip). c.state.tallies) same
    go (inr done) (burning burns) = absurd (no-burning done burns)
    go (inr done) (resetting is) = absurd (no-reset done is)
    go (inr done) (leaving tallies rows) = tallies

-- ---- right tallies

reset_right : (chip : Chip) → reset_number chip.rows ≡ 0 → Tallied (perform chip a_reset).chip
unfolding perform latched
reset_right chip done = ap (λ (state : State). state.tallies) (reset_state chip.rows chip.state done)

reset_keeps : (chip : Chip) → Tallied chip → Tallied (perform chip a_reset).chip
unfolding perform reset latched
reset_keeps chip right =
    both_ways (λ (o : Outcome). o.state.tallies ≡ tallies_of chip.rows) (eqb (reset_number chip.rows) 0) _ _ refl right

call_right : (chip : Chip) (call : Call) → Tallied chip → Tallied (perform chip call).chip
call_right chip call right = go (refused_or_done chip call) (sort_of chip call)
  where
    go : ((perform chip call).chip ≡ chip) ⊎ ((perform chip call).answer.number ≡ 0) → Sort chip call → Tallied (perform chip call).chip
    go (inl same) sort = subst Tallied (sym same) right
    go (inr done) (burning burns) =
        let c = call_counts chip call burns done in
        c.tallies ∙ ap (λ (tallies : List ℕ). with_gains tallies c.gained) right ∙ stay_right c.long c.burnt
    go (inr done) (resetting is) = subst (λ (c : Call). Tallied (perform chip c).chip) (sym is) (reset_keeps chip right)
    go (inr done) (leaving tallies rows) = tallies ∙ right ∙ ap tallies_of (sym rows)

-- the state of a chip just reset, with the key entered or none
ready_right : (rows : List ℕ) (before : State) (key : Keyed) → reset_number rows ≡ 0 → (ready rows before key).tallies ≡ tallies_of rows
unfolding perform
ready_right rows before no_key_entered done = reset_right (record { rows = rows; state = before }) done
ready_right rows before (key_entered key) done =
    call_right (record { rows = rows; state = (reset rows before).state }) (a_key 0 key)
    (reset_right (record { rows = rows; state = before }) done)

pub cut_tallied : CutTallied
unfolding perform
cut_tallied rows before key job limit done =
    call_right (record { rows = rows; state = ready rows before key }) (a_rehearsal job limit) (ready_right rows before key done)

pub cuts_leave_tallies : CutsLeaveTallies
unfolding perform
cuts_leave_tallies rows left before later key job spent bytes accept cuts accepted-last =
    let finished = go (eqb (version_of job) 2) refl in
    call_right (record { rows = left; state = ready left later key }) (a_job job) (ready_right left later key finished.0.0)
    ∙ ap tallies_of (finished.1 ∙ sym finished.2)
    ∙ sym (call_right (record { rows = rows; state = ready rows before key }) (a_job job) (ready_right rows before key accept.0))
  where
    go : (t : Bool) → eqb (version_of job) 2 ≡ t → Completes rows left before later key job spent
    go true two =
        completes rows left before later key job spent bytes accept cuts
        (ran_number left (ready left later key) job (accepted-last (eqb-true (version_of job) 2 two)).1)
    go false other = cut_power rows left before later key job spent bytes accept cuts (λ two. absurd (eqb-false (version_of job) 2 other two))

calls_right : (chip : Chip) (calls : List Call) → Tallied chip → Tallied (perform_all chip calls)
unfolding perform_all
calls_right chip [] right = right
calls_right chip (call ∷ others) right = calls_right (perform chip call).chip others (call_right chip call right)

pub tallies_stay_right : TalliesStayRight
unfolding perform_all
tallies_stay_right chip calls done = calls_right (perform chip a_reset).chip calls (reset_right chip done)
