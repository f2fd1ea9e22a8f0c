-- The changes run on the present image: which number they give, which rows they leave, and for how many pulses.
-- Assumes nothing.
use mathlib.Core.Bool.{Bool, true, false}
use mathlib.Core.List.{List, [], ◌∷◌, ◌++◌}
use mathlib.Core.Logic.{◌⊎◌, inl, inr}
use mathlib.Core.Path.{◌≡◌, refl, sym, ap, ap₂, subst, ◌∙◌}
use Prim.Native.Nat.{ℕ, suc, ◌+◌, ◌≤◌, ◌<◌, min, max}
use native.Mathlib.Omega.{arith}
use borrow.Author.Tests.{le-ltb, eqb-true, eqb-false, ltb-true, ltb-false}
use lib.Bits.{bit_and, bit_or, differ}
use lib.Dec.{eqb, ltb}
use lib.ListN.{length, length-set, set}
use lib.Seq.{ext_get_or, get_or-set_same, get_or-set_other}
use Rattle.answer.specs.Rungs.{first_of}
use Rattle.row.specs.Code.{bit_at, set_bits, distance}
use Rattle.row.specs.Writing.{pulses}
use Rattle.row.proofs.Counts.{ones_same}
use Rattle.row.proofs.Digits.{equal2}
use Rattle.row.proofs.Places.{bit_lt, bit_at-bit_and, bit_at-bit_xor, by_digits, bit_at-bit_or}
use Rattle.permit.specs.Permission.{may_write}
use Rattle.chip.specs.Slices.{row_at}
use Rattle.chip.specs.declared.state.State.{State}
use Rattle.form.specs.declared.entries.Entry.{Entry}
use Rattle.judge.specs.Verdicts.{entry_written, entry_rungs, all_rungs}
use Rattle.job.specs.Burning.{with_entry, all_written}
use Rattle.laws.specs.Writes.{In, newly_set}
use Rattle.laws.proofs.Writes.{shared, all_set}
use Rattle.made.specs.Refusing.{Differs}
use Rattle.made.specs.Jobs.{bits_differing}
use Rattle.made.proofs.Changes.{Changes, entry_of}

-- ---- the number

module _ (present wanted : List ℕ) (state : State) (small : (row : ℕ) → row_at present row ≤ 16777215) where
  -- some row that differs may not be written by Secure
  abbrev pub Barred : Type 0
  Barred = (row : ℕ) × Differs present wanted row × (may_write state 0 row ≡ false)

  -- none of some rows is barred
  abbrev AllOpen : ℕ → ℕ → Type 0
  AllOpen from past = (row : ℕ) → from ≤ row → row < past → row < 0xf40 → Differs present wanted row → may_write state 0 row ≡ true

  -- 0 where all are open, and otherwise 7
  pub judged : {from past : ℕ} {es : List Entry} (i : ℕ) → Changes present wanted from past es
      → ((first_of (all_rungs present state i es) ≡ 0) × AllOpen from past) ⊎ ((first_of (all_rungs present state i es) ≡ 7) × Barred)
  unfolding all_rungs entry_rungs
  judged i (Changes.none same) = inl (refl, λ row low high data-row differs. absurd (differs (same row low high data-row)))
  judged {from} {past} i (Changes.more {others = others} row low high data-row differs same rest) = go (may_write state 0 row) refl (judged (i + 1) rest)
    where
      open_all : may_write state 0 row ≡ true → AllOpen (row + 1) past → AllOpen from past
      open_all here later k above below data-k differs-k = at (ltb k row) (eqb k row) refl refl
        where
          at : (less equal : Bool) → ltb k row ≡ less → eqb k row ≡ equal → may_write state 0 k ≡ true
          at true equal less e = absurd (differs-k (same k above (ltb-true k row less) data-k))
          at false true less e = subst (λ (r : ℕ). may_write state 0 r ≡ true) (sym (eqb-true k row e)) here
          at false false less e = later k (omega (arith, ltb-false k row less, eqb-false k row e)) below data-k differs-k

      rest_rungs : ℕ
      rest_rungs = first_of (all_rungs present state (i + 1) others)

      go : (t : Bool) → may_write state 0 row ≡ t → ((rest_rungs ≡ 0) × AllOpen (row + 1) past) ⊎ ((rest_rungs ≡ 7) × Barred)
          → ((first_of (entry_rungs present (may_write state 0 row) i (entry_of present wanted row) ++ all_rungs present state (i + 1) others) ≡ 0) × AllOpen from past)
          ⊎ ((first_of (entry_rungs present (may_write state 0 row) i (entry_of present wanted row) ++ all_rungs present state (i + 1) others) ≡ 7) × Barred)
      go false closed later = inr (rw closed, (row, differs, closed))
      go true may (inl (done, opened)) = inl (rw (may, le-ltb 16777215 (row_at present row) (small row)) done, open_all may opened)
      go true may (inr (seven, barred)) = inr (rw (may, le-ltb 16777215 (row_at present row) (small row)) seven, barred)

-- ---- the rows

-- a row or'ed with what holds all its bits
absorbed : (a b c : ℕ) → bit_or (bit_and a b) b ≡ b
absorbed =
    by_digits (λ x y z. max (min x y) y) (λ x y z. y) tt (λ a b c. bit_or (bit_and a b) b) (λ a b c. b)
    (λ k a b c. simp (bit_at-bit_and, bit_at-bit_or)) (λ k a b c. refl)

or_in : (old row : ℕ) → In old row → bit_or old row ≡ row
or_in old row keeps = rw (shared old row keeps) at (absorbed old row 0)

-- writing entries leaves as many rows
written_length : (es : List Entry) (rows : List ℕ) → length (all_written rows es) ≡ length rows
unfolding all_written
written_length [] rows = refl
written_length (e ∷ others) rows = written_length others (with_entry rows e) ∙ length-set rows e.row _

module _ (present wanted : List ℕ) (keeps : (row : ℕ) → In (row_at present row) (row_at wanted row)) where
  -- below the changes and from 0xf40 up each row stays, and from their first on each is the wanted one
  abbrev Leaves : ℕ → List ℕ → List ℕ → ℕ → Type 0
  Leaves from rows left k =
      (k < from → row_at left k ≡ row_at rows k) × (from ≤ k → k < 0xf40 → row_at left k ≡ row_at wanted k) × (0xf40 ≤ k → row_at left k ≡ row_at rows k)

  leaves : {from past : ℕ} {es : List Entry} (rows : List ℕ) → past ≤ length rows → ((row : ℕ) → from ≤ row → row_at rows row ≡ row_at present row)
      → Changes present wanted from past es → (k : ℕ) → k < past → Leaves from rows (all_written rows es) k
  unfolding all_written entry_written
  leaves rows long as-present (Changes.none same) k h = (λ below. refl, λ low data-row. as-present k low ∙ same k low h data-row, λ high. refl)
  leaves {from} {past} rows long as-present (Changes.more {others = others} row low high data-row differs same rest) k h =
      let next : List ℕ = set rows row (row_at wanted row) in
      let written : bit_or (row_at rows row) (row_at wanted row) ≡ row_at wanted row =
      ap (λ (old : ℕ). bit_or old (row_at wanted row)) (as-present row low) ∙ or_in (row_at present row) (row_at wanted row) (keeps row) in
      let later : Leaves (row + 1) next (all_written next others) k =
      leaves next (omega (arith, length-set rows row (row_at wanted row)))
      (λ r above. get_or-set_other rows row r (row_at wanted row) 0 (λ e. omega arith) ∙ as-present r (omega arith)) rest k h in
      rw written (go (eqb k row) refl later)
    where
      next : List ℕ
      next = set rows row (row_at wanted row)

      go : (t : Bool) → eqb k row ≡ t → Leaves (row + 1) next (all_written next others) k → Leaves from rows (all_written next others) k
      go true e later =
          let here = eqb-true k row e in
          let stands : row_at next k ≡ row_at wanted k =
          subst (λ (r : ℕ). row_at next r ≡ row_at wanted r) (sym here) (get_or-set_same rows row (row_at wanted row) 0 (omega arith)) in
          (λ below. absurd (omega arith), λ above data-k. later.0 (omega arith) ∙ stands, λ kept. absurd (omega arith))
      go false e later =
          let other = eqb-false k row e in
          let stays : row_at next k ≡ row_at rows k = get_or-set_other rows row k (row_at wanted row) 0 other in
          (λ below. later.0 (omega arith) ∙ stays, between stays (ltb k row) refl, λ kept. later.2 kept ∙ stays)
        where
          between : row_at next k ≡ row_at rows k → (t : Bool) → ltb k row ≡ t → from ≤ k → k < 0xf40 → row_at (all_written next others) k ≡ row_at wanted k
          between stays true less above data-k =
              later.0 (omega (arith, ltb-true k row less)) ∙ stays ∙ as-present k above ∙ same k above (ltb-true k row less) data-k
          between stays false less above data-k = later.1 (omega (arith, ltb-false k row less, eqb-false k row e)) data-k

  -- all changes leave the wanted image
  pub reached : length present ≡ 4096 → length wanted ≡ 4096 → ((row : ℕ) → 0xf40 ≤ row → row_at present row ≡ row_at wanted row)
      → (es : List Entry) → Changes present wanted 0 4096 es → all_written present es ≡ wanted
  reached of_present of_wanted kept es all =
      ext_get_or 0 (all_written present es) wanted (written_length es present ∙ of_present ∙ sym of_wanted) (λ k h. at k (omega (arith, h, written_length es present)))
    where
      at : (k : ℕ) → k < 4096 → row_at (all_written present es) k ≡ row_at wanted k
      at k h = go (ltb k 0xf40) refl (leaves present (omega arith) (λ row low. refl) all k h)
        where
          go : (t : Bool) → ltb k 0xf40 ≡ t → Leaves 0 present (all_written present es) k → row_at (all_written present es) k ≡ row_at wanted k
          go true data-row left = left.1 (omega arith) (ltb-true k 0xf40 data-row)
          go false high left = left.2 (ltb-false k 0xf40 high) ∙ kept k (ltb-false k 0xf40 high)

-- ---- the pulses

-- where no bit is lost, the bits newly set are those that differ
new_differ : (a b : ℕ) → pulses (bit_and a b) b ≡ distance (bit_and a b) b
unfolding pulses set_bits
new_differ a b =
    ones_same 24 _ _
    (λ k l. simp (bit_at-bit_and, bit_at-bit_xor, all_set k l)
    (equal2 (λ x y. min y (differ (min x y) 1)) (λ x y. differ (min x y) y) tt (bit_at k a) (bit_at k b) (bit_lt k a) (bit_lt k b)))

pub bits_newly_set : (present wanted : List ℕ) → ((row : ℕ) → In (row_at present row) (row_at wanted row)) → newly_set present wanted ≡ bits_differing present wanted
unfolding newly_set bits_differing
bits_newly_set [] wanted keeps = refl
bits_newly_set (old ∷ present) [] keeps = refl
bits_newly_set (old ∷ present) (new ∷ wanted) keeps =
    ap₂ ◌+◌ (rw (shared old new (keeps 0)) at (new_differ old new)) (bits_newly_set present wanted (λ row. keeps (suc row)))
