-- What a plug-in can learn: each call as Non-secure is answered alike by two chips that agree, and leaves them agreeing.
-- Assumes nothing.
use mathlib.Core.Bool.{Bool, true, false, ◌&&◌}
use mathlib.Core.List.{List, [], ◌∷◌}
use mathlib.Core.Logic.{inl, inr}
use mathlib.Core.Path.{◌≡◌, refl, sym, ap, ap₂, ◌∙◌}
use Prim.Native.Nat.{ℕ, zero, suc, max}
use native.Mathlib.Nat.{le_refl}
use native.Mathlib.Omega.{arith}
use borrow.Author.Tests.{eq-eqb, eqb-true, eqb-false}
use lib.Dec.{eqb, ltb}
use lib.ListN.{length, get_or, set, length-set}
use Rattle.answer.specs.Answers.{told, spent, answered}
use Rattle.std.specs.Prelude.{if◌then◌else◌}
use Rattle.decode.specs.Reading.{read_row, undecodable}
use Rattle.answer.specs.Rungs.{◌when◌}
use Rattle.row.specs.Writing.{ecc_written, raw_written, neither_fits}
use Rattle.answer.specs.declared.answers.Answer.{Answer}
use Rattle.row.specs.Writing.{Written}
use Rattle.vote.specs.Voting.{threshold, vote}
use Rattle.chip.specs.Callers.{shown_level}
use Rattle.permit.specs.Permission.{may_read, may_write}
use Rattle.chip.specs.Slices.{row_at}
use Rattle.chip.specs.declared.state.State.{State}
use Rattle.chip.specs.declared.state.Outcome.{Outcome}
use Rattle.lock.specs.Calls.{advance_number, advanced, advance, show_number, show_lock}
use Rattle.access.specs.Judging.{raw, ecc, no_value, row_rungs, call_rungs}
use Rattle.access.specs.Reads.{read_raw, read_ecc}
use Rattle.access.specs.Votes.{read_vote}
use Rattle.burn.specs.Burning.{Left, one_row}
use Rattle.burn.specs.Writes.{write_raw, write_ecc}
use Rattle.laws.specs.Calls.{Chip, Call, Result, only, stated, leaving, perform, perform_all, answers_of}
use Rattle.merging.specs.Settings.{◌among◌}
use Rattle.plugins.specs.Plugins.{Agree, ByNonsecure, SameAsBefore, NothingLearnt}
use Rattle.plugins.proofs.StillAgree.{KeysStay, keys_stay, asked_keeps, still_agree, still_same, nothing_changes, same_through}
use Rattle.plugins.proofs.RefusedAlike.{Judged, same_read, same_write, on_one_row, on_a_group}
use Rattle.laws.proofs.Locking.{NoneFalls, in_range_lem, advance_state, advance_raises, advance_leaves_higher, advance_leaves_others}
use Rattle.laws.proofs.Permits.{may_write_may_read}
use Rattle.laws.proofs.Raised.{asked, asked_is, asked_same}
use Rattle.merging.proofs.Raising.{with_state}

-- ---- each call

-- two choices by the same test
by_test : {A B : Type 0} (P : A → B → Type 0) (t : Bool) (x x' : A) (y y' : B) → (t ≡ true → P x y) → (t ≡ false → P x' y')
    → P (if t then x else x') (if t then y else y')
by_test P true x x' y y' first second = first refl
by_test P false x x' y y' first second = second refl

answered_alike : {A : Type 0} (m n : ℕ) (x y : A) (done : A → Answer) → Judged m n x y → answered m (done x) ≡ answered n (done y)
answered_alike m n x y done (same, used) =
    rw (← same)
    (by_test (λ (r s : Answer). r ≡ s) (eqb m 0) _ _ _ _ (λ none. ap done (used (eqb-true m 0 none))) (λ some. refl))

-- the same entry set in two lists of the same length
set_alike : (xs ys : List ℕ) (row value at : ℕ) → length xs ≡ length ys → get_or xs at 0 ≡ get_or ys at 0
    → get_or (set xs row value) at 0 ≡ get_or (set ys row value) at 0
set_alike [] [] row value at long same = refl
set_alike [] (y ∷ ys) row value at long same = absurd (omega (arith, long))
set_alike (x ∷ xs) [] row value at long same = absurd (omega (arith, long))
set_alike (x ∷ xs) (y ∷ ys) zero value zero long same = refl
set_alike (x ∷ xs) (y ∷ ys) zero value (suc at) long same = same
set_alike (x ∷ xs) (y ∷ ys) (suc row) value zero long same = same
set_alike (x ∷ xs) (y ∷ ys) (suc row) value (suc at) long same = set_alike xs ys row value at (omega (arith, long)) same

module _ (a b : Chip) (agree : Agree a b) where
  -- answered alike, the chips agree, and what was the same of them still is
  abbrev Alike : Result → Result → Type 0
  Alike r s = (r.answer ≡ s.answer) × Agree r.chip s.chip × SameAsBefore a b r.chip s.chip

  -- a call that answers, and no more
  only_answered : {x y : Answer} → x ≡ y → Alike (only a x) (only b y)
  only_answered same = (same, agree, nothing_changes a b)

  read_raw_lem : (row : ℕ) → read_raw a.rows a.state 1 row ≡ read_raw b.rows b.state 1 row
  unfolding read_raw call_rungs row_rungs
  read_raw_lem row =
      answered_alike _ _ _ _ told
      (on_one_row a b agree row raw no_value (λ state. may_read state 1 row) (same_read a b agree row) (λ may. may) (λ entry. []))

  read_ecc_lem : (row : ℕ) → read_ecc a.rows a.state 1 row ≡ read_ecc b.rows b.state 1 row
  unfolding read_ecc
  read_ecc_lem row =
      answered_alike _ _ _ _ read_row
      (on_one_row a b agree row ecc no_value (λ state. may_read state 1 row) (same_read a b agree row) (λ may. may)
      (λ entry. 8 when undecodable entry ∷ []))

  read_vote_lem : (row count : ℕ) → read_vote a.rows a.state 1 row count ≡ read_vote b.rows b.state 1 row count
  unfolding read_vote
  read_vote_lem row count = answered_alike _ _ _ _ (λ rows. told (vote (threshold count) rows)) (on_a_group a b agree row count)

  -- a write of one row, whatever it leaves over an entry
  write_row : (m n row : ℕ) (over : ℕ → Written) → Judged m n (row_at a.rows row) (row_at b.rows row)
      → Alike (leaving (one_row m a.rows a.state row (over (row_at a.rows row))))
      (leaving (one_row n b.rows b.state row (over (row_at b.rows row))))
  write_row m n row over (same, used) =
      rw (← same)
      (by_test (λ (l k : Left). Alike (leaving l) (leaving k)) (eqb m 0) _ _ _ _
      (λ none. done (used (eqb-true m 0 none))) (λ some. (refl, agree, nothing_changes a b)))
    where
      done : row_at a.rows row ≡ row_at b.rows row
          → Alike (leaving (one_row 0 a.rows a.state row (over (row_at a.rows row))))
          (leaving (one_row 0 b.rows b.state row (over (row_at b.rows row))))
      done entry = (
        ap (λ (old : ℕ). spent 0 (over old).pulses) entry,
        still_agree a b agree _ _ _ _ (keys_stay a.state _ _ _) (keys_stay b.state _ _ _)
            (length-set a.rows row _) (length-set b.rows row _) agree.levels
            (λ domain page. le_refl (shown_level a.state domain page)) entries,
        still_same a b agree _ _ _ _ (keys_stay a.state _ _ _) (keys_stay b.state _ _ _) entries (λ domain same. same),
      )
        where
          entries : (at : ℕ) → row_at a.rows at ≡ row_at b.rows at
              → row_at (set a.rows row (over (row_at a.rows row)).row) at ≡ row_at (set b.rows row (over (row_at b.rows row)).row) at
          entries at there =
              ap (λ (old : ℕ). row_at (set a.rows row (over old).row) at) entry ∙ set_alike a.rows b.rows row _ at agree.lengths there

  write_raw_lem : (row value : ℕ) → Alike (leaving (write_raw a.rows a.state 1 row value)) (leaving (write_raw b.rows b.state 1 row value))
  unfolding write_raw call_rungs row_rungs
  write_raw_lem row value =
      write_row _ _ row (λ entry. raw_written entry value)
      (on_one_row a b agree row raw (ltb 16777215 value) (λ state. may_write state 1 row) (same_write a b agree row)
      (may_write_may_read a.state 1 row) (λ entry. []))

  write_ecc_lem : (row value : ℕ) → Alike (leaving (write_ecc a.rows a.state 1 row value)) (leaving (write_ecc b.rows b.state 1 row value))
  unfolding write_ecc
  write_ecc_lem row value =
      write_row _ _ row (λ entry. ecc_written entry value)
      (on_one_row a b agree row ecc (ltb 65535 value) (λ state. may_write state 1 row) (same_write a b agree row)
      (may_write_may_read a.state 1 row) (λ entry. 9 when neither_fits entry value ∷ []))

  -- a done advance
  module _ (domain page level : ℕ) (none : advance_number 1 domain page level ≡ 0) where
    is_done : (state : State) → (advance state 1 domain page level).answer.number ≡ 0
    unfolding advance
    is_done state = rw (eq-eqb (advance_number 1 domain page level) 0 none)

    raised_by : (state : State) → advanced state domain page level ≡ asked (eqb domain 0) (eqb domain 1) state page level
    raised_by state = asked_is state page level (in_range_lem 1 domain page level none).1 domain

    keeps : (state : State) → KeysStay state (advanced state domain page level)
    keeps state = rw (raised_by state) (asked_keeps (eqb domain 0) (eqb domain 1) state page level)

    raises : NoneFalls a.state (advanced a.state domain page level)
    raises = rw (← advance_state a.state 1 domain page level (is_done a.state)) (advance_raises a.state 1 domain page level (is_done a.state))

    -- goes by the level before alone
    shown_after : (state : State) (other at : ℕ)
        → shown_level (advanced state domain page level) other at
        ≡ (if eqb other domain && eqb at page then max (shown_level state domain page) level else shown_level state other at)
    shown_after state other at =
        ap (λ (left : State). shown_level left other at) (sym (advance_state state 1 domain page level (is_done state)))
        ∙ go (eqb other domain) (eqb at page) refl refl
      where
        left : State
        left = (advance state 1 domain page level).state

        go : (t t' : Bool) → eqb other domain ≡ t → eqb at page ≡ t'
            → shown_level left other at ≡ (if t && t' then max (shown_level state domain page) level else shown_level state other at)
        go true true e e' =
            ap₂ (shown_level left) (eqb-true other domain e) (eqb-true at page e')
            ∙ advance_leaves_higher state 1 domain page level (is_done state)
        go true false e e' =
            advance_leaves_others state 1 domain page level (is_done state) other at (λ same-domain same-page. eqb-false at page e' same-page)
        go false t' e e' =
            advance_leaves_others state 1 domain page level (is_done state) other at (λ same-domain same-page. eqb-false other domain e same-domain)

    advanced_agree : Agree (with_state a (advanced a.state domain page level)) (with_state b (advanced b.state domain page level))
    advanced_agree =
        still_agree a b agree _ _ _ _ (keeps a.state) (keeps b.state)
        refl refl
        (λ other at. shown_after a.state other at ∙ rw (agree.levels domain page, agree.levels other at) (sym (shown_after b.state other at)))
        raises (λ row there. there)

    advanced_same : SameAsBefore a b (with_state a (advanced a.state domain page level)) (with_state b (advanced b.state domain page level))
    advanced_same =
        still_same a b agree _ _ _ _ (keeps a.state) (keeps b.state) (λ row there. there)
        (λ other same.
        rw (raised_by a.state, raised_by b.state)
        (asked_same (eqb domain 0) (eqb domain 1) (eqb other 0) (eqb other 1) a.state b.state page level same))

  advance_lock : (domain page level : ℕ) → Alike (stated a (advance a.state 1 domain page level)) (stated b (advance b.state 1 domain page level))
  unfolding advance
  advance_lock domain page level =
      by_test (λ (o p : Outcome). Alike (stated a o) (stated b p)) (eqb (advance_number 1 domain page level) 0) _ _ _ _
      (λ none. let is_none = eqb-true _ 0 none in (refl, advanced_agree domain page level is_none, advanced_same domain page level is_none))
      (λ some. (refl, agree, nothing_changes a b))

  show_lock_lem : (domain page : ℕ) → show_lock a.state 1 domain page ≡ show_lock b.state 1 domain page
  unfolding show_lock
  show_lock_lem domain page = ap (λ (level : ℕ). answered (show_number 1 domain page) (told level)) (agree.levels domain page)

  each_alike : {call : Call} → ByNonsecure call → Alike (perform a call) (perform b call)
  unfolding perform
  each_alike (ByNonsecure.raw_read {row}) = only_answered (read_raw_lem row)
  each_alike (ByNonsecure.ecc_read {row}) = only_answered (read_ecc_lem row)
  each_alike (ByNonsecure.vote {row} {count}) = only_answered (read_vote_lem row count)
  each_alike (ByNonsecure.raw_write {row} {value}) = write_raw_lem row value
  each_alike (ByNonsecure.ecc_write {row} {value}) = write_ecc_lem row value
  each_alike (ByNonsecure.advance {domain} {page} {level}) = advance_lock domain page level
  each_alike (ByNonsecure.show {domain} {page}) = only_answered (show_lock_lem domain page)

pub nothing_learnt : NothingLearnt
unfolding perform_all answers_of ◌among◌
nothing_learnt a b [] all agree = (refl, agree, nothing_changes a b)
nothing_learnt a b (call ∷ others) all agree =
    let here = each_alike a b agree (all call (inl refl)) in
    let rest = nothing_learnt (perform a call).chip (perform b call).chip others (λ one later. all one (inr later)) here.1 in (
      ap₂ (λ (first : Answer) (more : List Answer). first ∷ more) here.0 rest.0,
      rest.1,
      same_through here.2 rest.2,
    )
