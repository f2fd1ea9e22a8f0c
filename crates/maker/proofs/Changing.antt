-- The rows of two images taken upward: what one row more shows, and the entry that it adds to the job.
-- Assumes nothing.
use mathlib.Core.Path.{◌≡◌, refl, sym, ap, ◌∙◌}
use mathlib.Core.Bool.{Bool, true, false}
use mathlib.Core.List.{List, [], ◌∷◌, ◌++◌, append-nil}
use Prim.Native.Nat.{ℕ, zero, suc, ◌+◌, ◌≤◌, ◌<◌}
use native.Mathlib.Numerals.{add-one}
use native.Mathlib.Nat.{add-zero, zero-add}
use native.Mathlib.Omega.{arith}
use borrow.Author.Tests.{lt-ltb, le-ltb, eq-eqb, ne_eqb, eqb-true, eqb-false}
use lib.Dec.{eqb}
use lib.ListN.{length, length-append}
use Rattle.std.specs.Prelude.{if◌then◌else◌}
use Rattle.chip.specs.Slices.{row_at}
use Rattle.form.specs.Writing.{with_entry, with_entries}
use Rattle.form.specs.declared.entries.Entry.{Entry}
use Rattle.maker.specs.Images.{data_differs, some_below, change_at, changes_below}
use Rattle.maker.specs.Comparing.{shown_below, with_row}

-- some entries, and then others
pub then_entries : (job : List ℕ) (i : ℕ) (first others : List Entry)
    → with_entries job i (first ++ others) ≡ with_entries (with_entries job i first) (i + length first) others
unfolding with_entries
then_entries job i [] others = rw add-zero
then_entries job i (entry ∷ first) others =
    let more : i + 1 + length first ≡ i + suc (length first) = omega arith in
    then_entries (with_entry job i entry) (i + 1) first others
    ∙ ap (λ (n : ℕ). with_entries (with_entries (with_entry job i entry) (i + 1) first) n others) more

-- a row below 0xf40 that differs has its entry, and an equal one none
module _ (row present wanted : ℕ) where
  pub one_change : row < 0xf40 → (present ≡ wanted → ⊥) → change_at row present wanted ≡ record { row = row; kind = 1; value = wanted } ∷ []
  one_change low differs = rw (lt-ltb row 0xf40 low, ne_eqb present wanted differs)

  pub no_change : row < 0xf40 → present ≡ wanted → change_at row present wanted ≡ []
  no_change low same = rw (lt-ltb row 0xf40 low, eq-eqb present wanted same)

-- how many entries a row adds
pub change_length : (row present wanted : ℕ) → length (change_at row present wanted) ≡ (if data_differs row present wanted then 1 else 0)
change_length row present wanted = go (data_differs row present wanted)
  where
    one : List Entry
    one = record { row = row; kind = 1; value = wanted } ∷ []

    go : (t : Bool) → length (if t then one else []) ≡ (if t then 1 else 0)
    go true = refl
    go false = refl

module _ (present wanted : List ℕ) where
  -- what the rows below a number show, with one row more
  pub shown_more : (row : ℕ) → with_row (shown_below present wanted row) row (row_at present row) (row_at wanted row) ≡ shown_below present wanted (row + 1)
  unfolding some_below changes_below
  shown_more row =
      rw (add-one row, length-append (changes_below present wanted row) (change_at row (row_at present row) (row_at wanted row)), change_length row (row_at present row) (row_at wanted row))

  -- there are no more changes than rows
  pub few : (row : ℕ) → length (changes_below present wanted row) ≤ row
  unfolding changes_below
  few zero = omega arith
  few (suc row) =
      omega (arith, few row, length-append (changes_below present wanted row) (change_at row (row_at present row) (row_at wanted row)), change_length row (row_at present row) (row_at wanted row), at_most (data_differs row (row_at present row) (row_at wanted row)))
    where
      at_most : (t : Bool) → (if t then 1 else 0) ≤ 1
      at_most true = omega arith
      at_most false = omega arith

  -- the entries of the rows below a number, and then that of one row more
  pub change_more : (out : List ℕ) (row : ℕ)
      → with_entries (with_entries out 0 (changes_below present wanted row)) (length (changes_below present wanted row))
      (change_at row (row_at present row) (row_at wanted row))
      ≡ with_entries out 0 (changes_below present wanted (row + 1))
  unfolding changes_below
  change_more out row =
      let below = changes_below present wanted row in
      let next = change_at row (row_at present row) (row_at wanted row) in
      ap (λ (n : ℕ). with_entries (with_entries out 0 below) n next) (sym (zero-add (length below))) ∙ sym (then_entries out 0 below next)
      ∙ ap (λ (n : ℕ). with_entries out 0 (changes_below present wanted n)) (sym (add-one row))

  -- and how many they then are
  pub count_more : (row : ℕ)
      → length (changes_below present wanted row) + length (change_at row (row_at present row) (row_at wanted row))
      ≡ length (changes_below present wanted (row + 1))
  unfolding changes_below
  count_more row = rw (add-one row) (sym (length-append (changes_below present wanted row) (change_at row (row_at present row) (row_at wanted row))))

  -- no row from 0xf40 up adds an entry
  past_data : (row : ℕ) → 0xf40 ≤ row → changes_below present wanted row ≡ changes_below present wanted 0xf40
  unfolding changes_below
  past_data zero h = absurd (omega arith)
  past_data (suc row) h = go (eqb (suc row) 0xf40) refl (past_data row)
    where
      none : (below : List Entry) → 0xf40 ≤ row → below ++ change_at row (row_at present row) (row_at wanted row) ≡ below
      none below high = rw (le-ltb row 0xf40 high) (append-nil below)

      go : (t : Bool) → eqb (suc row) 0xf40 ≡ t → (0xf40 ≤ row → changes_below present wanted row ≡ changes_below present wanted 0xf40)
          → changes_below present wanted (suc row) ≡ changes_below present wanted 0xf40
      go true e lower = ap (changes_below present wanted) (eqb-true (suc row) 0xf40 e)
      go false e lower =
          let high : 0xf40 ≤ row = omega (arith, eqb-false (suc row) 0xf40 e) in
          none (changes_below present wanted row) high ∙ lower high

  -- so those of the rows below it are all
  pub all_data : changes_below present wanted 0xf40 ≡ changes_below present wanted 4096
  all_data = sym (past_data 4096 (omega arith))
