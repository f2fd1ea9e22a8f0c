-- A done job is the writes of its entries, made by Secure one after the other.
-- Assumes nothing.
use mathlib.Core.Bool.{Bool, true, false, not}
use mathlib.Core.List.{List, [], ◌∷◌}
use mathlib.Core.Logic.{⊎_elim}
use mathlib.Core.Path.{◌≡◌, refl, sym, ap, ◌∙◌, subst}
use Prim.Native.Nat.{ℕ, ◌+◌, ◌^◌, ◌≤◌, ◌<◌}
use native.Mathlib.Nat.{mod-eq_of_lt}
use native.Mathlib.Omega.{arith}
use borrow.Author.Tests.{le-ltb, le-leb, lt-leb, eq-eqb, eqb-true}
use lib.Dec.{eqb, ltb}
use lib.ListN.{length, set, length-set}
use Rattle.answer.specs.Answers.{spent}
use Rattle.std.specs.Prelude.{if◌then◌else◌}
use Rattle.decode.specs.Reading.{data_of}
use Rattle.answer.specs.Rungs.{◌when◌, first_of, or_else}
use Rattle.row.specs.Writing.{ecc_written, raw_written, neither_fits}
use Rattle.row.specs.Writing.{Written}
use Rattle.answer.proofs.Ladders.{refusing, then_rungs}
use Rattle.row.proofs.Unfit.{nine}
use Rattle.permit.specs.Keys.{hidden}
use Rattle.permit.specs.Permission.{may_write}
use Rattle.chip.specs.Slices.{row_at}
use Rattle.chip.specs.States.{with_tallies}
use Rattle.chip.specs.Tallies.{Gain, ◌gains◌, with_gains}
use Rattle.chip.specs.declared.state.State.{State}
use Rattle.access.specs.Judging.{raw, ecc, row_rungs, call_rungs}
use Rattle.burn.specs.Writes.{write_raw_number, write_ecc_number, write_raw, write_ecc}
use Rattle.form.specs.Entries.{entries_of}
use Rattle.form.specs.Faults.{form_fault, form_faults, Sound}
use Rattle.form.specs.declared.entries.Entry.{Entry}
use Rattle.job.specs.Burning.{written_over, with_entry, all_written, all_pulses, all_gained}
use Rattle.judge.specs.Verdicts.{entry_written}
use Rattle.form.proofs.Faulty.{both_sound, forms_sound, form_kept}
use Rattle.form.proofs.Placed.{Placed}
use Rattle.laws.specs.Calls.{Chip, Result, a_raw_write, an_ecc_write, perform}
use Rattle.cuts.specs.Jobs.{write_of, EachDone, writes_of, EachInTurn}
use Rattle.cuts.proofs.Acceptance.{ran_number, ran, accepted_by}
use Rattle.cuts.proofs.Agreement.{tallies_agree}
use Rattle.cuts.proofs.Rewriting.{entry_number, Admitted, judged_done, admitted_next, admitted_alike}

-- ---- one entry

abbrev chip_of : List ℕ → State → Chip
chip_of rows state = record { rows = rows; state = state }

-- the state with some gains counted
abbrev with_gained : State → List Gain → State
with_gained state gained = with_tallies state (with_gains state.tallies gained)

-- what Secure's write of a row that it may write is refused for: nothing
call_done : (rows : List ℕ) (state : State) (row : ℕ) (coded : Bool) (value_too_large : Bool) → length rows ≡ 4096 → row < 0xf40
    → value_too_large ≡ false → not (may_write state 0 row) ≡ false → row_at rows row ≤ 16777215
    → first_of (call_rungs rows state 0 row coded value_too_large (may_write state 0 row)) ≡ 0
unfolding call_rungs row_rungs hidden
call_done rows state row coded value_too_large long high value may small = go coded
  where
    go : (coded : Bool) → first_of (call_rungs rows state 0 row coded value_too_large (may_write state 0 row)) ≡ 0
    go true =
        rw (eq-eqb (length rows) 4096 long, value, le-ltb 4095 row (omega arith), lt-leb 0xf80 row (omega arith), lt-leb 0xf48 row (omega arith), may, le-ltb 16777215 (row_at rows row) small)
    go false =
        rw (eq-eqb (length rows) 4096 long, value, le-ltb 4095 row (omega arith), lt-leb 0xf48 row (omega arith), may, le-ltb 16777215 (row_at rows row) small)

-- nor is a raw one of a lock row
lock_done : (rows : List ℕ) (state : State) (row : ℕ) (value_too_large : Bool) → length rows ≡ 4096 → 0xf80 ≤ row → row ≤ 4095
    → value_too_large ≡ false → not (may_write state 0 row) ≡ false → row_at rows row ≤ 16777215
    → first_of (call_rungs rows state 0 row raw value_too_large (may_write state 0 row)) ≡ 0
unfolding call_rungs row_rungs hidden
lock_done rows state row value_too_large long from to value may small =
    rw (eq-eqb (length rows) 4096 long, value, le-ltb 4095 row to, le-leb 0xf48 row (omega arith), le-ltb row 0xf78 (omega arith), may, le-ltb 16777215 (row_at rows row) small)

module _ (rows : List ℕ) (state : State) (e : Entry) (long : length rows ≡ 4096) (place : Placed e) (small : e.value < 2 ^ 24)
    (judged : entry_number rows state e ≡ 0) (formed : e.kind ≡ 0 → e.value ≤ 65535) where
  abbrev old : ℕ
  old = row_at rows e.row

  -- what a write leaves of the chip, by what it makes of the row
  abbrev made : Written → Result
  made written = record {
    answer = spent 0 written.pulses;
    chip = chip_of (set rows e.row written.row) (with_gained state (e.row gains written.pulses ∷ []));
  }

  raw_made : perform (chip_of rows state) (a_raw_write 0 e.row e.value) ≡ made (raw_written old e.value)
  unfolding perform write_raw
  raw_made =
      let parts = judged_done rows state e judged in
      let value : ltb 16777215 e.value ≡ false = le-ltb 16777215 e.value (omega arith) in
      let none : write_raw_number rows state 0 e.row e.value ≡ 0 =
      ⊎_elim (λ low. call_done rows state e.row raw _ long low value parts.0 parts.1)
      (λ lock. lock_done rows state e.row _ long lock.0 lock.1 value parts.0 parts.1) place in
      rw (eq-eqb (write_raw_number rows state 0 e.row e.value) 0 none)

  ecc_made : e.kind ≡ 0 → perform (chip_of rows state) (an_ecc_write 0 e.row e.value) ≡ made (ecc_written old (data_of e.value))
  unfolding perform write_ecc call_rungs row_rungs refusing entry_written
  ecc_made coded =
      let parts = judged_done rows state e judged in
      let value : data_of e.value ≡ e.value = mod-eq_of_lt (omega (arith, formed coded)) in
      let low : e.row < 0xf40 = ⊎_elim (λ data-row. data-row) (λ lock. absurd (lock.2 coded)) place in
      let first = call_done rows state e.row ecc (ltb 65535 e.value) long low (le-ltb 65535 e.value (formed coded)) parts.0 parts.1 in
      let fits : (ecc_written old (data_of e.value)).number ≡ 0 = rw (eq-eqb e.kind 0 coded) at parts.2 in
      let none : write_ecc_number rows state 0 e.row e.value ≡ 0 =
      then_rungs (call_rungs rows state 0 e.row ecc (ltb 65535 e.value) (may_write state 0 e.row)) (9 when neither_fits old e.value ∷ []) tt
      ∙ ap (λ (n : ℕ). or_else n (first_of (9 when neither_fits old e.value ∷ []))) first
      ∙ sym (nine old e.value) ∙ ap (λ (v : ℕ). (ecc_written old v).number) (sym value) ∙ fits in
      rw (eq-eqb (write_ecc_number rows state 0 e.row e.value) 0 none, value)

  entry_made : perform (chip_of rows state) (write_of e) ≡ made (written_over rows e)
  unfolding entry_written
  entry_made = go (eqb e.kind 0) refl
    where
      go : (t : Bool) → eqb e.kind 0 ≡ t
          → perform (chip_of rows state) (if t then an_ecc_write 0 e.row e.value else a_raw_write 0 e.row e.value)
          ≡ made (if t then ecc_written old (data_of e.value) else raw_written old e.value)
      go true coded = ecc_made (eqb-true e.kind 0 coded)
      go false other = raw_made

-- ---- all entries

-- the chip that they leave
abbrev left_by : List Entry → List ℕ → State → Chip
left_by es rows state = chip_of (all_written rows es) (with_gained state (all_gained rows es))

in_turn_lem : {least : ℕ} (es : List Entry) (at : ℕ) (rows : List ℕ) (state : State) → length rows ≡ 4096 → form_faults at es ≡ Sound
    → Admitted rows state least es → EachDone (chip_of rows state) (writes_of es) (all_pulses rows es) (left_by es rows state)
unfolding form_faults writes_of all_pulses all_written all_gained
in_turn_lem [] at rows state long sound Admitted.none = EachDone.none
in_turn_lem {least} (e ∷ others) at rows state long sound (Admitted.more low place small judged rest) =
    let forms = both_sound (form_fault at e) (form_faults (at + 1) others) sound in
    let new : ℕ = (written_over rows e).row in
    let write = entry_made rows state e long place small judged (form_kept at e forms.0) in
    let next : State = with_gained state (e.row gains (written_over rows e).pulses ∷ []) in
    let agree = tallies_agree state next.tallies 0 in
    let later =
    in_turn_lem {least = e.row + 1} others (at + 1) (with_entry rows e) next (length-set rows e.row new ∙ long) forms.1 (admitted_alike agree (admitted_next e.row new rest)) in
    subst (λ (n : ℕ). EachDone (chip_of rows state) (write_of e ∷ writes_of others) (n + all_pulses (with_entry rows e) others) (left_by others (with_entry rows e) next))
    (ap (λ (r : Result). r.answer.pulses) write)
    (EachDone.more (ap (λ (r : Result). r.answer.number) write)
    (subst (λ (chip : Chip). EachDone chip (writes_of others) (all_pulses (with_entry rows e) others) (left_by others (with_entry rows e) next))
    (sym (ap (λ (r : Result). r.chip) write)) later))

pub each_in_turn : EachInTurn
unfolding perform
each_in_turn chip job bytes done =
    let none = ran_number chip.rows chip.state job done in
    let parts = accepted_by chip.rows chip.state job bytes none in
    let run = ran chip.rows chip.state job none in
    rw run (in_turn_lem (entries_of job) 0 chip.rows chip.state parts.0 (forms_sound job parts.1) parts.2)
