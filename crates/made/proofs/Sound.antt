-- The job that is made: its head and its entries are read back, and nothing is wrong with it.
-- Assumes nothing.
use mathlib.Core.List.{List}
use mathlib.Core.Path.{◌≡◌, refl, sym, ap, ◌∙◌}
use Prim.Native.Nat.{ℕ, ◌+◌, ◌≤◌}
use native.Mathlib.Omega.{arith}
use borrow.Author.Tests.{le-ltb, lt-leb}
use lib.ListN.{length, take}
use lib.Seq.{length-take-le}
use Rattle.chip.specs.Slices.{row_at}
use Rattle.form.specs.Entries.{version_of, count_of, entries_of}
use Rattle.form.specs.Faults.{fault_number, head_fault, form_faults, order_faults, fault_under, rule_of, fault_of, Sound}
use Rattle.form.specs.Writing.{with_job}
use Rattle.form.specs.declared.entries.Entry.{Entry}
use Rattle.form.proofs.Faulty.{order_last}
use Rattle.form.proofs.WholeJob.{AllFit, job_head, job_entries, job_front, job_sound}
use Rattle.maker.specs.Images.{changes}
use Rattle.maker.specs.Making.{Made, job_bytes}
use Rattle.maker.proofs.Made.{make_done}
use Rattle.made.specs.Jobs.{Makes}
use Rattle.made.proofs.Passing.{Passed, own, done_passed}
use Rattle.made.proofs.Changes.{Changes, changed}

module _ (present wanted : List ℕ) where
  -- each number of an entry fits its place
  fit : {from past : ℕ} {es : List Entry} → ((row : ℕ) → row_at wanted row ≤ 16777215) → Changes present wanted from past es → AllFit es
  unfolding AllFit
  fit small (Changes.none same) = tt
  fit small (Changes.more row low high data-row differs same rest) = ((omega arith, omega arith, small row), fit small rest)

  -- each entry is raw
  forms : {from past : ℕ} {es : List Entry} (i : ℕ) → Changes present wanted from past es → form_faults i es ≡ Sound
  unfolding form_faults
  forms i (Changes.none same) = refl
  forms i (Changes.more row low high data-row differs same rest) = forms (i + 1) rest

  -- the rows rise, below 0xf40
  orders : {from past : ℕ} {es : List Entry} (i least : ℕ) → least ≤ from → Changes present wanted from past es → order_faults 1 i least es ≡ Sound
  unfolding order_faults
  orders i least h (Changes.none same) = refl
  orders i least h (Changes.more row low high data-row differs same rest) =
      rw (lt-leb 0xf40 row data-row, le-ltb row least (omega arith)) (orders (i + 1) (row + 1) (omega arith) rest)

-- a version 1 job without a fault in its head, its entries' form and their order
faultless : (job : List ℕ) → version_of job ≡ 1 → head_fault 1 job ≡ Sound → form_faults 0 (entries_of job) ≡ Sound
    → order_faults 1 0 0 (entries_of job) ≡ Sound → fault_of job ≡ Sound
faultless job version head form order =
    let rule : rule_of job ≡ 1 = rw version in
    ap (λ (own : ℕ). fault_under own job) rule ∙ order_last 1 job (ap fault_number head) (ap fault_number form) ∙ order

module _ (present wanted out : List ℕ) (p : Passed present wanted out) where
  -- the front of the output, into which the job is put
  abbrev front : List ℕ
  front = take (job_bytes (changes present wanted)) out

  long : length front ≡ job_bytes (changes present wanted)
  long = length-take-le (job_bytes (changes present wanted)) out p.room

  abbrev all : Changes present wanted 0 4096 (changes present wanted)
  all = changed present wanted 4096

  -- the job that is put there
  abbrev pub put : List ℕ
  put = with_job front 1 (changes present wanted)

  pub head : (version_of put ≡ 1) × (count_of put ≡ length (changes present wanted))
  head =
      let parts = job_head front 1 (changes present wanted) (omega arith) (omega (arith, p.few)) (omega (arith, long)) in
      (parts.1, parts.2)

  pub entries : entries_of put ≡ changes present wanted
  entries =
      job_entries front 1 (changes present wanted) (omega arith) (omega (arith, p.few)) (omega (arith, long))
      (fit present wanted p.of_wanted.1 all)

  pub sound : fault_of put ≡ Sound
  sound =
      faultless put head.0 (job_sound front 1 (changes present wanted) (omega arith) p.few long)
      (rw entries (forms present wanted 0 all)) (rw entries (orders present wanted 0 0 (omega arith) all))

-- it is the job of a done making
pub is_put : (present wanted out job : List ℕ) (m : Makes present wanted out job) → job ≡ put present wanted out (done_passed present wanted out m.done)
is_put present wanted out job m =
    m.bytes ∙ ap (λ (made : Made). take made.answer.value made.out) (make_done present wanted out (sym (own present wanted out) ∙ m.done))
    ∙ job_front (job_bytes (changes present wanted)) out 1 (changes present wanted)
