-- The making of a job, as it is judged: the number, and what it leaves.
-- Assumes nothing.
use mathlib.Core.Path.{◌≡◌, sym, ap, ◌∙◌}
use mathlib.Core.List.{List}
use Prim.Native.Nat.{ℕ}
use borrow.Author.Tests.{eq-eqb, ne_eqb}
use lib.ListN.{length}
use Rattle.answer.specs.Answers.{refused, told}
use Rattle.form.specs.Writing.{with_job}
use Rattle.maker.specs.Images.{changes}
use Rattle.maker.specs.Comparing.{shown_below, judged_by}
use Rattle.maker.specs.Making.{job_bytes, make_number, make_job}
use Rattle.maker.specs.declared.comparing.Compared.{Compared}

module _ (present wanted out : List ℕ) where
  pub no_present : (length present ≡ 4096 → ⊥) → make_number present wanted out ≡ 1
  no_present other = rw (ne_eqb (length present) 4096 other)

  pub no_wanted : length present ≡ 4096 → (length wanted ≡ 4096 → ⊥) → make_number present wanted out ≡ 1
  no_wanted whole other = rw (eq-eqb (length present) 4096 whole, ne_eqb (length wanted) 4096 other)

  pub both_whole : length present ≡ 4096 → length wanted ≡ 4096 → (shown : Compared) → shown ≡ shown_below present wanted 4096
      → judged_by shown (length out) ≡ make_number present wanted out
  both_whole of_present of_wanted shown e =
      rw (eq-eqb (length present) 4096 of_present, eq-eqb (length wanted) 4096 of_wanted) (ap (λ (s : Compared). judged_by s (length out)) e)

  -- any number but 0 leaves the output as it was
  pub make_refused : (number : ℕ) → number ≡ make_number present wanted out → (number ≡ 0 → ⊥)
      → make_job present wanted out ≡ record { answer = refused number; out = out }
  unfolding make_job
  make_refused number e some =
      rw (ne_eqb (make_number present wanted out) 0 (λ none. some (e ∙ none))) (ap (λ (n : ℕ). record { answer = refused n; out = out }) (sym e))

  -- 0 leaves the job
  pub make_done : make_number present wanted out ≡ 0
      → make_job present wanted out
      ≡ record { answer = told (job_bytes (changes present wanted)); out = with_job out 1 (changes present wanted) }
  unfolding make_job
  make_done e = rw (eq-eqb (make_number present wanted out) 0 e)
