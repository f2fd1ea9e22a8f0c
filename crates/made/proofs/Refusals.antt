-- When the making of a job is refused, and all that it leaves.
-- Assumes nothing.
use mathlib.Core.Bool.{Bool, true, false, not, true≢false, and-eq-true_iff}
use mathlib.Core.List.{List}
use mathlib.Core.Logic.{◌⊎◌, inl, inr}
use mathlib.Core.Path.{◌≡◌, refl, sym, ap, subst, ◌∙◌}
use Prim.Native.Nat.{ℕ, ◌+◌, ◌*◌, ◌≤◌}
use native.Mathlib.Omega.{arith}
use borrow.Author.Tests.{eqb-false, ltb-true, leb-true, not-true}
use lib.Dec.{eqb, ltb, leb}
use lib.ListN.{length}
use Rattle.answer.specs.declared.answers.Condition.TheVariants.{Clean}
use Rattle.answer.specs.declared.answers.Polarity.TheVariants.{Plain}
use Rattle.row.specs.Writing.{fits}
use Rattle.chip.specs.Slices.{row_at}
use Rattle.form.specs.Entries.{byte_at}
use Rattle.form.specs.declared.entries.Entry.{Entry}
use Rattle.form.specs.Writing.{head_bytes, with_head, with_job}
use Rattle.form.proofs.Putting.{length_stays, after_stays}
use Rattle.form.proofs.WholeJob.{entries_length, after_entries}
use Rattle.maker.specs.Images.{loses_bit, kept_differs, some_row, changes}
use Rattle.maker.specs.Making.{Made, job_bytes, make_number, make_job}
use Rattle.maker.proofs.Made.{make_refused, make_done}
use Rattle.made.specs.Refusing.{Image, differing, LostBit, KeptRow, TooMany, TooShort, MakeRefusedExactly, MakeGives, MakeRefusalKeeps, MakeLeaves, MakeNoRoom}
use Rattle.made.proofs.Passing.{Passed, rows, passed_by, none_refused_lem, own, done_passed}
use Rattle.made.proofs.Rows.{some_such, counted}

pub make_gives : MakeGives
make_gives present wanted out = own present wanted out

-- ---- refused exactly if

module _ (present wanted out : List ℕ) where
  abbrev Reasons : Type 0
  Reasons = LostBit present wanted ⊎ (KeptRow present wanted ⊎ (TooMany present wanted ⊎ TooShort present wanted out))

  -- a reason is not passed
  stops : Passed present wanted out → Reasons → ⊥
  stops p (inl (row, lost)) = lost (p.bits_kept row)
  stops p (inr (inl (row, high, differs))) = differs (p.rows_kept row high)
  stops p (inr (inr (inl many))) = omega (arith, p.few, counted present wanted p.rows_kept 4096)
  stops p (inr (inr (inr short))) = omega (arith, p.room, counted present wanted p.rows_kept 4096)

  -- where none is there, all is passed
  reason : Image present → Image wanted → (Passed present wanted out → ⊥) → Reasons
  reason of_present of_wanted refused =
      go (some_row loses_bit present wanted) (some_row kept_differs present wanted) (ltb 512 (length (changes present wanted)))
      (ltb (length out) (job_bytes (changes present wanted))) refl refl refl refl
    where
      go : (lost kept many short : Bool) → some_row loses_bit present wanted ≡ lost → some_row kept_differs present wanted ≡ kept
          → ltb 512 (length (changes present wanted)) ≡ many → ltb (length out) (job_bytes (changes present wanted)) ≡ short → Reasons
      go true kept many short a b c d =
          let found = some_such loses_bit present wanted 4096 a in
          inl (found.0, λ holds. true≢false (sym holds ∙ not-true (fits (row_at present found.0) (row_at wanted found.0)) found.2))
      go false true many short a b c d =
          let found = some_such kept_differs present wanted 4096 b in
          let p = row_at present found.0 in
          let w = row_at wanted found.0 in
          let parts = (and-eq-true_iff (leb 0xf40 found.0) (not (eqb p w))).0 found.2 in
          inr (inl (found.0, leb-true 0xf40 found.0 parts.0, eqb-false p w (not-true (eqb p w) parts.1)))
      go false false true short a b c d =
          inr (inr (inl (omega (arith, ltb-true 512 (length (changes present wanted)) c, counted present wanted (rows present wanted of_present.0 of_wanted.0 b) 4096))))
      go false false false true a b c d =
          inr (inr (inr (omega (arith, ltb-true (length out) (job_bytes (changes present wanted)) d, counted present wanted (rows present wanted of_present.0 of_wanted.0 b) 4096))))
      go false false false false a b c d = absurd (refused (passed_by present wanted out of_present of_wanted a b c d))

pub make_refused_exactly : MakeRefusedExactly
make_refused_exactly present wanted out of_present of_wanted = (
  λ refused. reason present wanted out of_present of_wanted (λ p. refused (own present wanted out ∙ none_refused_lem present wanted out p)),
  λ why done. stops present wanted out (done_passed present wanted out done) why,
)

-- ---- what it leaves

pub make_refusal_keeps : MakeRefusalKeeps
make_refusal_keeps present wanted out made is some =
    subst Keeps (sym (is ∙ make_refused present wanted out (make_number present wanted out) refl (λ none. some (ap (λ (m : Made). m.answer.number) is ∙ own present wanted out ∙ none))))
    (refl, refl, refl, refl, refl, refl)
  where
    Keeps : Made → Type 0
    Keeps m =
        (m.answer.value ≡ 0) × (m.answer.condition ≡ Clean) × (m.answer.polarity ≡ Plain) × (m.answer.place ≡ 0) × (m.answer.pulses ≡ 0)
        × (m.out ≡ out)

pub make_leaves : MakeLeaves
make_leaves present wanted out made is none =
    subst Leaves (sym (is ∙ make_done present wanted out (sym (own present wanted out) ∙ done))) (value, refl, refl, refl, refl, long, past)
  where
    done : (make_job present wanted out).answer.number ≡ 0
    done = sym (ap (λ (m : Made). m.answer.number) is) ∙ none

    es : List Entry
    es = changes present wanted

    Leaves : Made → Type 0
    Leaves m =
        (m.answer.value ≡ 7 + 6 * differing present wanted 4096) × (m.answer.condition ≡ Clean) × (m.answer.polarity ≡ Plain)
        × (m.answer.place ≡ 0) × (m.answer.pulses ≡ 0) × (length m.out ≡ length out)
        × ((place : ℕ) → m.answer.value ≤ place → byte_at m.out place ≡ byte_at out place)

    value : job_bytes es ≡ 7 + 6 * differing present wanted 4096
    value = omega (arith, counted present wanted (done_passed present wanted out done).rows_kept 4096)

    long : length (with_job out 1 es) ≡ length out
    long = entries_length es (with_head out 1 (length es)) 0 ∙ length_stays out 0 (head_bytes 1 (length es))

    past : (place : ℕ) → job_bytes es ≤ place → byte_at (with_job out 1 es) place ≡ byte_at out place
    past place h = after_entries es (with_head out 1 (length es)) 0 place (omega arith) ∙ after_stays out 0 (head_bytes 1 (length es)) place (omega arith)

pub make_no_room : MakeNoRoom
make_no_room present wanted out a b left left' one other = (one.0 ∙ sym other.0, one.1 ∙ sym other.1)
