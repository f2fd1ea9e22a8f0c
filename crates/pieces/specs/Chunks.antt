-- Request 2026-01: demand 1 of a chunk, which is lent neither rows nor state: what it answers, and all that it leaves.
use Rattle.std.specs.Prelude.{ℕ, ◌+◌, ◌≤◌, ◌<◌, List, ◌⊎◌, ◌↔◌, ◌≡◌, length}
use Rattle.answer.specs.declared.answers.Condition.TheVariants.{Clean}
use Rattle.answer.specs.declared.answers.Polarity.TheVariants.{Plain}
use Rattle.form.specs.Entries.{byte_at}
use Rattle.lead.specs.Notes.{start_of}
use Rattle.lead.specs.Taking.{take_number, take_chunk}
use Rattle.lead.specs.declared.notes.Note.{Note}
use Rattle.lead.specs.declared.taking.Taken.{Taken}

-- it is refused exactly if the lent area is shorter than 3,079 bytes, and then with 12
abbrev pub ChunkNumber : Type 0
ChunkNumber =
    (area : List ℕ) (note : Note) (chunk : List ℕ)
    → ((take_chunk area note chunk).taken.answer.number ≡ take_number area)
    × ((take_number area ≡ 12) ↔ (length area < 3079)) × ((take_number area ≡ 0) ↔ (3079 ≤ length area))

-- a refusal returns value 0, condition clean, plain, place 0 and 0 pulses, and leaves note and area as they were
abbrev pub ChunkRefusalKeeps : Type 0
ChunkRefusalKeeps =
    (area : List ℕ) (note : Note) (chunk : List ℕ) → ((take_chunk area note chunk).taken.answer.number ≡ 0 → ⊥)
    → ((take_chunk area note chunk).taken.answer.value ≡ 0) × ((take_chunk area note chunk).taken.answer.condition ≡ Clean)
    × ((take_chunk area note chunk).taken.answer.polarity ≡ Plain) × ((take_chunk area note chunk).taken.answer.place ≡ 0)
    × ((take_chunk area note chunk).taken.answer.pulses ≡ 0)
    × ((take_chunk area note chunk).taken.note ≡ note) × ((take_chunk area note chunk).area ≡ area)

-- one that is done says 0, 10 or 11, clean, plain, place 0 and 0 pulses
abbrev pub ChunkSays : Type 0
ChunkSays =
    (area : List ℕ) (note : Note) (chunk : List ℕ) → 3079 ≤ length area
    → (((take_chunk area note chunk).taken.answer.value ≡ 0)
    ⊎ (((take_chunk area note chunk).taken.answer.value ≡ 10) ⊎ ((take_chunk area note chunk).taken.answer.value ≡ 11)))
    × ((take_chunk area note chunk).taken.answer.condition ≡ Clean) × ((take_chunk area note chunk).taken.answer.polarity ≡ Plain)
    × ((take_chunk area note chunk).taken.answer.place ≡ 0) × ((take_chunk area note chunk).taken.answer.pulses ≡ 0)

-- a byte that a chunk brings has its place in the area below 3,079
abbrev pub Brings : Note → List ℕ → ℕ → Type 0
Brings note chunk i = (i < length chunk) × (start_of note + i < 3079)

-- the area is as long as it was, has each byte that the chunk brings, and every other byte as it was
abbrev pub ChunkLeaves : Type 0
ChunkLeaves =
    (area : List ℕ) (note : Note) (chunk : List ℕ) → 3079 ≤ length area
    → (length (take_chunk area note chunk).area ≡ length area)
    × ((i : ℕ) → Brings note chunk i → byte_at (take_chunk area note chunk).area (start_of note + i) ≡ byte_at chunk i)
    × ((place : ℕ) → ((i : ℕ) → Brings note chunk i → place ≡ start_of note + i → ⊥)
    → byte_at (take_chunk area note chunk).area place ≡ byte_at area place)

-- what the contract of a chunk allows, and that it leaves no room
abbrev pub ChunkAllows : List ℕ → Note → List ℕ → Taken → List ℕ → Type 0
ChunkAllows area note chunk taken left = (taken ≡ (take_chunk area note chunk).taken) × (left ≡ (take_chunk area note chunk).area)

abbrev pub ChunkNoRoom : Type 0
ChunkNoRoom =
    (area : List ℕ) (note : Note) (chunk : List ℕ) (a b : Taken) (left left' : List ℕ)
    → ChunkAllows area note chunk a left → ChunkAllows area note chunk b left' → (a ≡ b) × (left ≡ left')
