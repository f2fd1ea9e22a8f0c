-- The early word of a chunk: the first fault among what its bytes bring to an end, in the file's order (request 2026-01).
use Rattle.std.specs.Prelude.{ℕ, ◌+◌, ◌-◌, ◌*◌, Bool, not, ◌&&◌, ◌||◌, List, [], ◌∷◌, eqb, ltb, leb, length}
use Rattle.std.specs.Prelude.{if◌then◌else◌}
use Rattle.form.specs.Entries.{byte_at, version_of, count_of, entries_from}
use Rattle.form.specs.Faults.{◌otherwise◌, form_fault, row_fault, rule_of, Fault, Sound, Mark, Version, Count, Length}
use Rattle.form.specs.declared.entries.Entry.{Entry}
use Rattle.lead.specs.Notes.{no_room, start_of, stop_of, ended_in, so_far}
use Rattle.lead.specs.declared.notes.Note.{Note}

-- whether the byte at a place came, of those from a start up to a stop
abbrev pub came : ℕ → ℕ → ℕ → Bool
came start stop place = leb start place && ltb place stop

-- a byte of the mark came and is another
abbrev pub spoils : List ℕ → ℕ → ℕ → ℕ → ℕ → Bool
spoils job start stop place byte = came start stop place && not (eqb (byte_at job place) byte)

-- the version came and is neither 1 nor 2
abbrev pub unknown_version : List ℕ → ℕ → ℕ → Bool
unknown_version job start stop = came start stop 4 && not (eqb (version_of job) (rule_of job))

-- the count came and is above 512
abbrev pub large_count : List ℕ → ℕ → ℕ → Bool
large_count job start stop = came start stop 6 && ltb 512 (count_of job)

-- the head: the mark 4F 54 4A at each of its bytes, the version, the count
unfoldable pub head_brought : List ℕ → ℕ → ℕ → Fault
head_brought job start stop =
    if spoils job start stop 0 0x4f then Mark
    else if spoils job start stop 1 0x54 then Mark
    else if spoils job start stop 2 0x4a then Mark
    else if unknown_version job start stop then Version
    else if large_count job start stop then Count
    else Sound

-- entries one after the other, each by its form and then by its row; `least` is the lowest row that may come next
unfoldable pub entry_faults : ℕ → ℕ → ℕ → List Entry → Fault
entry_faults version i least [] = Sound
entry_faults version i least (e ∷ others) =
    form_fault i e otherwise row_fault version i least e otherwise entry_faults version (i + 1) (e.row + 1) others

-- the entries that end there, by the rule of the file's version
abbrev pub entries_brought : ℕ → List ℕ → ℕ → ℕ → Fault
entries_brought least job start stop =
    entry_faults (rule_of job) (ended_in job start) least (entries_from job (ended_in job start) (ended_in job stop - ended_in job start))

-- a byte past 7 + 6 x count
abbrev pub past_brought : ℕ → ℕ → Fault
past_brought count stop = if ltb (7 + 6 * count) stop then Length else Sound

-- the first fault among them
unfoldable pub brought : ℕ → List ℕ → ℕ → ℕ → Fault
brought least job start stop = head_brought job start stop otherwise entries_brought least job start stop otherwise past_brought (count_of job) stop

-- that of a chunk whose bytes the area has; an empty one brings nothing to an end, and where there is no room nothing was taken
abbrev pub early_fault : List ℕ → Note → List ℕ → Fault
early_fault area note chunk =
    if no_room area || eqb (length chunk) 0 then Sound
    else brought note.least (so_far area note) (start_of note) (stop_of note chunk)
