-- The call that makes a job of two images (request 2026-04): its number, first test first, and what it leaves.
use Rattle.std.specs.Prelude.{ℕ, ◌+◌, ◌*◌, ◌||◌, List, [], ◌∷◌, eqb, ltb, length}
use Rattle.answer.specs.Answers.{refused, told}
use Rattle.std.specs.Prelude.{if◌then◌else◌}
use Rattle.answer.specs.Rungs.{◌when◌, first_of}
use Rattle.answer.specs.declared.answers.Answer.{Answer}
use Rattle.chip.specs.Slices.{not_whole}
use Rattle.form.specs.Writing.{with_job}
use Rattle.form.specs.declared.entries.Entry.{Entry}
use Rattle.maker.specs.Images.{either_large, loses_bit, kept_differs, some_row, changes}

-- the bytes of a job with these entries
abbrev pub job_bytes : List Entry → ℕ
job_bytes entries = 7 + 6 * length entries

-- 1, 3, then 13 for a lost bit, 11, 14 for too many rows, 12
abbrev pub make_number : List ℕ → List ℕ → List ℕ → ℕ
make_number present wanted out =
    first_of
    (1 when (not_whole present || not_whole wanted)
    ∷ 3 when some_row either_large present wanted
    ∷ 13 when some_row loses_bit present wanted
    ∷ 11 when some_row kept_differs present wanted
    ∷ 14 when ltb 512 (length (changes present wanted))
    ∷ 12 when ltb (length out) (job_bytes (changes present wanted))
    ∷ [])

-- what it leaves: its answer, and the output
pub record Made : Type 0 where
  pub answer : Answer
  pub out : List ℕ

-- done: a version 1 job with an entry for each change, whose length is the value; refused: the output as it was
unfoldable pub make_job : List ℕ → List ℕ → List ℕ → Made
make_job present wanted out =
    if eqb (make_number present wanted out) 0
    then record { answer = told (job_bytes (changes present wanted)); out = with_job out 1 (changes present wanted) }
    else record { answer = refused (make_number present wanted out); out = out }
