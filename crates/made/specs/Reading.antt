-- Request 2026-04: the reader hands over the entries of a job and then the end, and never runs away.
use Rattle.std.specs.Prelude.{ℕ, zero, suc, ◌+◌, ◌/◌, ◌≤◌, max, false, List, [], ◌∷◌, ◌++◌, ◌⊎◌, ◌≡◌, length}
use Rattle.form.specs.Entries.{count_of, entries_of}
use Rattle.form.specs.Faults.{malformed}
use Rattle.form.specs.declared.entries.Entry.{Entry}
use Rattle.reader.specs.Handing.{found_at, handed_at}
use Rattle.reader.specs.declared.handing.Found.{Found}
use Rattle.reader.specs.declared.handing.Found.TheVariants.{Entry as an_entry, End, Malformed}
use Rattle.reader.specs.declared.handing.Handed.{Handed}

-- where a reader that began at a place stands after so many steps
unfoldable pub stands_after : List ℕ → ℕ → ℕ → ℕ
stands_after job at zero = at
stands_after job at (suc steps) = stands_after job (handed_at job at).at steps

-- what it hands over in so many steps
unfoldable pub handed_in : List ℕ → ℕ → ℕ → List Found
handed_in job at zero = []
handed_in job at (suc steps) = found_at job at ∷ handed_in job (handed_at job at).at steps

-- each of some entries handed over
unfoldable pub each_of : List Entry → List Found
each_of [] = []
each_of (e ∷ others) = an_entry e ∷ each_of others

-- from byte 7 of a job that is not 10 it hands over exactly its entries, and then the end
abbrev pub HandsOverAll : Type 0
HandsOverAll = (job : List ℕ) → malformed job ≡ false → handed_in job 7 (count_of job + 1) ≡ each_of (entries_of job) ++ (End ∷ [])

-- started anywhere it never passes the length
abbrev pub NeverPasses : Type 0
NeverPasses = (job : List ℕ) (at steps : ℕ) → stands_after job at steps ≤ max at (length job)

-- it says end or 10 within (length / 6) + 1 steps: at the latest in the last of them
abbrev pub EndsInTime : Type 0
EndsInTime =
    (job : List ℕ) (at steps : ℕ) → length job / 6 ≤ steps
    → (found_at job (stands_after job at steps) ≡ End) ⊎ (found_at job (stands_after job at steps) ≡ Malformed)

-- where it says so it stays put
abbrev pub StaysPut : Type 0
StaysPut = (job : List ℕ) (at : ℕ) → (found_at job at ≡ End) ⊎ (found_at job at ≡ Malformed) → (handed_at job at).at ≡ at

-- what the contracts of a look, a step and the call with plain parameters allow of what they hand over: they agree, and leave no room
abbrev pub EntryAllows : List ℕ → ℕ → Handed → Type 0
EntryAllows job at handed = handed ≡ handed_at job at

abbrev pub EntryNoRoom : Type 0
EntryNoRoom = (job : List ℕ) (at : ℕ) (a b : Handed) → EntryAllows job at a → EntryAllows job at b → a ≡ b
