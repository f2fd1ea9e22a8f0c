-- Request 2026-04: when the making of a job is refused, and demand 1 of it: it is lent neither a chip nor a state.
use Rattle.std.specs.Prelude.{ℕ, zero, suc, ◌+◌, ◌*◌, ◌≤◌, ◌<◌, List, ◌⊎◌, ◌↔◌, ◌≡◌, eqb, length}
use Rattle.std.specs.Prelude.{if◌then◌else◌}
use Rattle.answer.specs.declared.answers.Answer.{Answer}
use Rattle.answer.specs.declared.answers.Condition.TheVariants.{Clean}
use Rattle.answer.specs.declared.answers.Polarity.TheVariants.{Plain}
use Rattle.chip.specs.Slices.{row_at}
use Rattle.form.specs.Entries.{byte_at}
use Rattle.maker.specs.Making.{Made, make_number, make_job}
use Rattle.laws.specs.Writes.{In}

-- a whole image in range
abbrev pub Image : List ℕ → Type 0
Image rows = (length rows ≡ 4096) × ((row : ℕ) → row_at rows row ≤ 16777215)

-- a row differs
abbrev pub Differs : List ℕ → List ℕ → ℕ → Type 0
Differs present wanted row = row_at present row ≡ row_at wanted row → ⊥

-- how many of the rows below a number differ
unfoldable pub differing : List ℕ → List ℕ → ℕ → ℕ
differing present wanted zero = 0
differing present wanted (suc row) = differing present wanted row + (if eqb (row_at present row) (row_at wanted row) then 0 else 1)

-- some row, anywhere, has a burnt bit that the wanted one lacks
abbrev pub LostBit : List ℕ → List ℕ → Type 0
LostBit present wanted = (row : ℕ) × (In (row_at present row) (row_at wanted row) → ⊥)

-- a row from 0xf40 up differs
abbrev pub KeptRow : List ℕ → List ℕ → Type 0
KeptRow present wanted = (row : ℕ) × (0xf40 ≤ row) × Differs present wanted row

-- more than 512 rows differ
abbrev pub TooMany : List ℕ → List ℕ → Type 0
TooMany present wanted = 512 < differing present wanted 4096

-- the lent output is too short
abbrev pub TooShort : List ℕ → List ℕ → List ℕ → Type 0
TooShort present wanted out = length out < 7 + 6 * differing present wanted 4096

-- for two whole images in range it is refused exactly if one of the four holds
abbrev pub MakeRefusedExactly : Type 0
MakeRefusedExactly =
    (present wanted out : List ℕ) → Image present → Image wanted
    → ((make_job present wanted out).answer.number ≡ 0 → ⊥)
    ↔ (LostBit present wanted ⊎ (KeptRow present wanted ⊎ (TooMany present wanted ⊎ TooShort present wanted out)))

-- its number is the first of its rungs that holds
abbrev pub MakeGives : Type 0
MakeGives = (present wanted out : List ℕ) → (make_job present wanted out).answer.number ≡ make_number present wanted out

-- a refusal returns value 0, condition clean, plain, place 0 and 0 pulses, and leaves the output as it was
abbrev pub MakeRefusalKeeps : Type 0
MakeRefusalKeeps =
    (present wanted out : List ℕ) (made : Made) → made ≡ make_job present wanted out → (made.answer.number ≡ 0 → ⊥)
    → (made.answer.value ≡ 0) × (made.answer.condition ≡ Clean) × (made.answer.polarity ≡ Plain) × (made.answer.place ≡ 0)
    × (made.answer.pulses ≡ 0) × (made.out ≡ out)

-- done, the value is 7 + 6 x the rows that differ; clean, plain, place 0 and 0 pulses; the output is as long as it was, and has every byte
-- from the value on as it was
abbrev pub MakeLeaves : Type 0
MakeLeaves =
    (present wanted out : List ℕ) (made : Made) → made ≡ make_job present wanted out → made.answer.number ≡ 0
    → (made.answer.value ≡ 7 + 6 * differing present wanted 4096) × (made.answer.condition ≡ Clean) × (made.answer.polarity ≡ Plain)
    × (made.answer.place ≡ 0) × (made.answer.pulses ≡ 0) × (length made.out ≡ length out)
    × ((place : ℕ) → made.answer.value ≤ place → byte_at made.out place ≡ byte_at out place)

-- what the contract of a making allows, and that it leaves no room
abbrev pub MakeAllows : List ℕ → List ℕ → List ℕ → Answer → List ℕ → Type 0
MakeAllows present wanted out answer left = (answer ≡ (make_job present wanted out).answer) × (left ≡ (make_job present wanted out).out)

abbrev pub MakeNoRoom : Type 0
MakeNoRoom =
    (present wanted out : List ℕ) (a b : Answer) (left left' : List ℕ)
    → MakeAllows present wanted out a left → MakeAllows present wanted out b left' → (a ≡ b) × (left ≡ left')
