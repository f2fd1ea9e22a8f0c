-- Request 2026-01: the early word is true, and it is not lazy.
use Rattle.std.specs.Prelude.{ℕ, ◌+◌, ◌-◌, ◌*◌, ◌≤◌, ◌<◌, min, List, ◌∷◌, ◌++◌, ◌⊎◌, ◌≡◌, eqb, length}
use Rattle.std.specs.Prelude.{if◌then◌else◌}
use Rattle.chip.specs.declared.state.State.{State}
use Rattle.form.specs.Entries.{count_of, entry_at}
use Rattle.form.specs.Faults.{fault_number, ◌otherwise◌, form_fault, row_fault, rule_of, Fault}
use Rattle.job.specs.Jobs.{run_job}
use Rattle.lead.specs.Early.{brought}
use Rattle.lead.specs.Notes.{ended_in}
use Rattle.lead.specs.Taking.{take_chunk}
use Rattle.pieces.specs.Pieces.{begin, after_all, joined, end_after}

-- the word of a chunk that comes after others, from a fresh note
abbrev pub word_after : List ℕ → List (List ℕ) → List ℕ → ℕ
word_after area before chunk =
    (take_chunk (after_all (begin area) before).area (after_all (begin area) before).note chunk).taken.answer.value

-- the number of the end
abbrev pub end_number : List ℕ → State → List ℕ → List (List ℕ) → ℕ
end_number rows state area chunks = (end_after rows state area chunks).outcome.answer.number

-- where some chunk was answered 10, the end is answered 1 or 10 whatever else comes; where 11, then 1, 10 or 11
abbrev pub WordIsTrue : Type 0
WordIsTrue =
    (rows : List ℕ) (state : State) (area : List ℕ) (before later : List (List ℕ)) (chunk : List ℕ) → 3079 ≤ length area
    → (word_after area before chunk ≡ 10
    → (end_number rows state area (before ++ chunk ∷ later) ≡ 1) ⊎ (end_number rows state area (before ++ chunk ∷ later) ≡ 10))
    × (word_after area before chunk ≡ 11
    → (end_number rows state area (before ++ chunk ∷ later) ≡ 1)
    ⊎ ((end_number rows state area (before ++ chunk ∷ later) ≡ 10) ⊎ (end_number rows state area (before ++ chunk ∷ later) ≡ 11)))

-- the lowest row that may stand in an entry of a file: one above the row of the entry before it, 0 of the first
abbrev pub least_at : List ℕ → ℕ → ℕ
least_at file i = if eqb i 0 then 0 else (entry_at file (i - 1)).row + 1

-- the word is the number of the first fault, in the file's order, among what this chunk brings to an end of the file: neither the cutting
-- nor what comes later has a say in it, and an empty chunk says 0
abbrev pub WordExactly : Type 0
WordExactly =
    (area : List ℕ) (before later : List (List ℕ)) (chunk : List ℕ) → 3079 ≤ length area
    → word_after area before chunk
    ≡ (if eqb (length chunk) 0 then 0
    else fault_number
    (brought (least_at (joined (before ++ chunk ∷ later)) (ended_in (joined (before ++ chunk ∷ later)) (min (length (joined before)) 3080)))
    (joined (before ++ chunk ∷ later)) (min (length (joined before)) 3080) (min (length (joined before) + length chunk) 3080)))

-- some chunk has a word to say
abbrev pub SomeWord : List ℕ → List (List ℕ) → Type 0
SomeWord area chunks =
    (before : List (List ℕ)) × (chunk : List ℕ) × (later : List (List ℕ)) × (chunks ≡ before ++ chunk ∷ later) × (word_after area before chunk ≡ 0 → ⊥)

-- a file is cut short: of its head, or of what its head counts
abbrev pub CutShort : List ℕ → Type 0
CutShort file = (length file < 7) ⊎ (length file < 7 + 6 * count_of file)

-- it is not lazy: of a file that runs to 10 or 11 on a whole slice some chunk says so, or, where it is cut short, the end does
abbrev pub WordIsNotLazy : Type 0
WordIsNotLazy =
    (rows : List ℕ) (state : State) (area : List ℕ) (chunks : List (List ℕ)) → 3079 ≤ length area → length rows ≡ 4096
    → ((run_job rows state (joined chunks)).outcome.answer.number ≡ 10) ⊎ ((run_job rows state (joined chunks)).outcome.answer.number ≡ 11)
    → SomeWord area chunks ⊎ (CutShort (joined chunks) × (end_number rows state area chunks ≡ 10))

-- the fault of an entry of a file: of its form, and then of its row
abbrev pub entry_fault : List ℕ → ℕ → Fault
entry_fault file i = form_fault i (entry_at file i) otherwise row_fault (rule_of file) i (least_at file i) (entry_at file i)

-- each entry's fault is said by the chunk that brings its last byte
abbrev pub EntryIsSaid : Type 0
EntryIsSaid =
    (area : List ℕ) (before later : List (List ℕ)) (chunk : List ℕ) (i : ℕ) → 3079 ≤ length area
    → i < count_of (joined (before ++ chunk ∷ later)) → i < 512
    → length (joined before) ≤ 7 + 6 * i + 5 → 7 + 6 * i + 5 < length (joined before) + length chunk
    → (fault_number (entry_fault (joined (before ++ chunk ∷ later)) i) ≡ 0 → ⊥) → word_after area before chunk ≡ 0 → ⊥
