-- The writes as calls: what they leave reads back, a raw write adds its bits, and when an ECC write is refused with 9.
-- Assumes nothing.
use mathlib.Core.Bool.{Bool, true, false, not}
use mathlib.Core.List.{List, [], ◌∷◌}
use mathlib.Core.Path.{◌≡◌, refl, sym, ap, ◌∙◌}
use Prim.Native.Nat.{ℕ, ◌^◌, ◌≤◌, ◌<◌}
use native.Mathlib.Omega.{arith}
use borrow.Author.Tests.{eqb-true, eqb-false, eq-eqb, ltb-false}
use lib.Dec.{eqb, ltb, lit≤}
use lib.ListN.{length, set, length-set}
use lib.Seq.{get_or-set_same}
use Rattle.std.specs.Prelude.{if◌then◌else◌}
use Rattle.decode.specs.Reading.{undecodable}
use Rattle.answer.specs.Rungs.{Rung, ◌when◌, first_of, or_else}
use Rattle.row.specs.Writing.{ecc_written, raw_written, neither_fits}
use Rattle.answer.specs.declared.answers.Answer.{Answer}
use Rattle.row.specs.Writing.{Written}
use Rattle.chip.specs.Callers.{no_caller}
use Rattle.permit.specs.Keys.{matches, key_level, hidden}
use Rattle.chip.specs.Slices.{row_at, not_whole, too_large}
use Rattle.chip.specs.Pages.{is_lock_row}
use Rattle.permit.specs.Permission.{may_read, may_write}
use Rattle.chip.specs.declared.state.State.{State}
use Rattle.burn.specs.Burning.{Left, one_row}
use Rattle.access.specs.Judging.{ecc, no_value, row_rungs, call_rungs}
use Rattle.access.specs.Reads.{read_ecc_number, read_ecc}
use Rattle.burn.specs.Writes.{write_raw_number, write_ecc_number, write_raw, write_ecc}
use Rattle.access.proofs.Passing.{call_passed, call_again}
use Rattle.laws.specs.Promises.{WriteReadsBack, RawAdds, WriterReadsBack, ecc_allowed, NineOfCall, OneBitNeverNine}
use Rattle.laws.specs.Reads.{Value}
use Rattle.answer.proofs.Ladders.{refusing, then_rungs}
use Rattle.row.proofs.Unfit.{nine}
use Rattle.answer.proofs.Choices.{both_ways, own_number}
use Rattle.laws.proofs.Entries.{ecc_small}
use Rattle.laws.proofs.Permits.{may_write_may_read}
use Rattle.laws.proofs.Writes.{reads_back, nine_exactly, one_bit_fits}

abbrev number_of : Left → ℕ
number_of left = left.outcome.answer.number

-- a number of two steps that the first does not give is the second's
second_step : (first second number : ℕ) → (first ≡ number → first ≡ 0) → (if eqb first 0 then second else first) ≡ number
    → (first ≡ 0) × (second ≡ number)
second_step first second number other = go (eqb first 0) refl
  where
    go : (t : Bool) → eqb first 0 ≡ t → (if t then second else first) ≡ number → (first ≡ 0) × (second ≡ number)
    go true e same = (eqb-true first 0 e, same)
    go false e same = absurd (eqb-false first 0 e (other same))

-- a write that is done leaves its row burnt
pub left_rows : (rows : List ℕ) (state : State) (row number : ℕ) (written : Written) → number_of (one_row number rows state row written) ≡ 0
    → (number ≡ 0) × ((one_row number rows state row written).rows ≡ set rows row written.row)
left_rows rows state row number written e =
    let none : number ≡ 0 = sym (own_number number_of number _ _ refl refl) ∙ e in
    (none, rw (eq-eqb number 0 none))

pub raw_adds : RawAdds
unfolding write_raw
raw_adds rows state caller row value done =
    (left_rows rows state row (write_raw_number rows state caller row value) (raw_written (row_at rows row) value) done).1

module _ (rows : List ℕ) (state : State) (caller row value : ℕ) where
  abbrev rungs : List Rung
  rungs = call_rungs rows state caller row ecc (ltb 65535 value) (may_write state caller row)

  abbrev first : ℕ
  first = first_of rungs

  abbrev written : Written
  written = ecc_written (row_at rows row) value

  -- what is known of an ECC write that gets as far as its row
  allowed : first ≡ 0 → (row < length rows) × Value value × (row_at rows row < 2 ^ 24)
  allowed e =
      let passed = call_passed rows state caller row ecc (ltb 65535 value) (may_write state caller row) e in
      let small : value ≤ 65535 = ltb-false 65535 value passed.1 in
      let in_range_lem : row_at rows row ≤ 16777215 = passed.2 in
      (passed.0, omega arith, omega arith)

  -- its number is that of the tests before, or else the row's own
  two_steps : write_ecc_number rows state caller row value ≡ or_else first written.number
  unfolding call_rungs row_rungs refusing
  two_steps =
      then_rungs rungs (9 when neither_fits (row_at rows row) value ∷ []) tt ∙ ap (or_else first) (sym (nine (row_at rows row) value))

  -- a done one used its row
  pub allowed_by : write_ecc_number rows state caller row value ≡ 0 → row < length rows
  allowed_by e = (allowed (second_step first written.number 0 (λ z. z) (sym two_steps ∙ e)).0).0

  ecc_number : number_of (write_ecc rows state caller row value) ≡ or_else first written.number
  unfolding write_ecc
  ecc_number = own_number number_of (write_ecc_number rows state caller row value) _ _ refl refl ∙ two_steps

  -- no test before the row is used gives 9
  below_nine : first ≤ 7
  unfolding call_rungs row_rungs
  below_nine =
      let low : ℕ → Type 0 = λ n. n ≤ 7 in
      both_ways low (not_whole rows) _ _ (lit≤ tt)
      (both_ways low (no_caller caller) _ _ (lit≤ tt)
      (both_ways low (ltb 65535 value) _ _ (lit≤ tt)
      (both_ways low (ltb 4095 row) _ _ (lit≤ tt)
      (both_ways low (is_lock_row row) _ _ (lit≤ tt)
      (both_ways low (hidden state row) _ _ (lit≤ tt)
      (both_ways low (not (may_write state caller row)) _ _ (lit≤ tt)
      (both_ways low (too_large rows row) _ _ (lit≤ tt) (lit≤ tt))))))))

  nine_by_row : number_of (write_ecc rows state caller row value) ≡ 9 → (first ≡ 0) × (written.number ≡ 9)
  nine_by_row nine = second_step first written.number 9 (λ e. absurd (omega (arith, below_nine))) (sym ecc_number ∙ nine)

pub nine_of_call : NineOfCall
nine_of_call rows state caller row value = (
  λ nine.
      let by_Row = nine_by_row rows state caller row value nine in
      let neither = (nine_exactly (row_at rows row) value).0 by_Row.1 in
      (by_Row.0, neither.0, neither.1),
  λ so.
      ecc_number rows state caller row value
      ∙ rw (eq-eqb (ecc_allowed rows state caller row value) 0 so.0) ((nine_exactly (row_at rows row) value).1 (so.1, so.2)),
)

pub one_bit_never_nine : OneBitNeverNine
one_bit_never_nine rows state caller row value few nine =
    let by_Row = nine_by_row rows state caller row value nine in
    let used = allowed rows state caller row value by_Row.0 in
    omega (arith, by_Row.1, one_bit_fits (row_at rows row) value used.2 used.1 few)

pub write_reads_back : WriteReadsBack
unfolding write_ecc read_ecc
write_reads_back rows state writer reader row value done readable =
    let old : ℕ = row_at rows row in
    let left = left_rows rows state row (write_ecc_number rows state writer row value) (ecc_written old value) done in
    let by_Row = second_step (ecc_allowed rows state writer row value) (ecc_written old value).number 0 (λ e. e) (sym (two_steps rows state writer row value) ∙ left.0) in
    let used = allowed rows state writer row value by_Row.0 in
    rw (eq-eqb _ 0 readable, left.1, get_or-set_same rows row (ecc_written old value).row 0 used.0)
    (reads_back old value used.1 by_Row.1)

-- a read goes by no tally, and a write leaves the rest of the state that came in
same_number : (rows left : List ℕ) (state : State) (caller row value : ℕ)
    → read_ecc_number left (write_ecc rows state caller row value).outcome.state caller row ≡ read_ecc_number left state caller row
unfolding write_ecc call_rungs row_rungs hidden may_read key_level matches
same_number rows left state caller row value =
    both_ways (λ (l : Left). read_ecc_number left l.outcome.state caller row ≡ read_ecc_number left state caller row)
    (eqb (write_ecc_number rows state caller row value) 0) _ _ refl refl

pub writer_reads_back : WriterReadsBack
unfolding write_ecc call_rungs row_rungs refusing
writer_reads_back rows state writer row value done =
    let old : ℕ = row_at rows row in
    let new : ℕ = (ecc_written old value).row in
    let left = left_rows rows state row (write_ecc_number rows state writer row value) (ecc_written old value) done in
    let by_Row = second_step (ecc_allowed rows state writer row value) (ecc_written old value).number 0 (λ e. e) (sym (two_steps rows state writer row value) ∙ left.0) in
    let used = allowed rows state writer row value by_Row.0 in
    let may = (call_passed rows state writer row ecc (ltb 65535 value) (may_write state writer row) by_Row.0).5 in
    let there : row_at (set rows row new) row ≡ new = get_or-set_same rows row new 0 used.0 in
    let small : new < 2 ^ 24 = ecc_small old value used.1 used.2 in
    let reads = reads_back old value used.1 by_Row.1 in
    let low : row_at (set rows row new) row ≤ 16777215 = rw there (omega arith) in
    let first : first_of (call_rungs (set rows row new) state writer row ecc no_value (may_read state writer row)) ≡ 0 =
    call_again rows state writer row (ltb 65535 value) (may_write state writer row) (may_read state writer row) (set rows row new) by_Row.0 (length-set rows row new) low (may_write_may_read state writer row may) in
    let number : read_ecc_number (set rows row new) state writer row ≡ 0 =
    then_rungs (call_rungs (set rows row new) state writer row ecc no_value (may_read state writer row)) (8 when undecodable (row_at (set rows row new) row) ∷ []) tt
    ∙ ap (λ (n : ℕ). or_else n (first_of (8 when undecodable (row_at (set rows row new) row) ∷ []))) first
    ∙ rw (there, ap (λ (a : Answer). a.number) reads) in
    write_reads_back rows state writer writer row value done (same_number rows (write_ecc rows state writer row value).rows state writer row value ∙ rw left.1 number)
