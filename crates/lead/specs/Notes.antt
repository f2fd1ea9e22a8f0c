-- A job that comes in chunks: the note of what has come, and the area that keeps it (request 2026-01).
use Rattle.std.specs.Prelude.{ℕ, ◌+◌, ◌-◌, ◌*◌, ◌/◌, ◌%◌, ◌≤◌, min, Bool, List, eqb, ltb, length, take, replicate}
use Rattle.std.specs.Prelude.{if◌then◌else◌}
use Rattle.chip.specs.Lists.{listed}
use Rattle.form.specs.Entries.{byte_at, count_of, entry_at}
use Rattle.form.specs.Writing.{with_bytes}
use Rattle.lead.specs.declared.notes.Note.{Note}
use Rattle.lead.specs.declared.so_far.Begun.{Begun}

-- a fresh note is all zeros
abbrev pub fresh : Note
fresh = record { counted = 0; least = 0; part = replicate 8 0 }

-- 12: the lent area is shorter than 3,079 bytes
abbrev pub no_room : List ℕ → Bool
no_room area = ltb (length area) 3079

-- where a chunk starts in the file: after the bytes counted, 3,080 for any more
abbrev pub start_of : Note → ℕ
start_of note = min note.counted 3080

-- and where it stops
abbrev pub stop_of : Note → List ℕ → ℕ
stop_of note chunk = min (start_of note + length chunk) 3080

-- the area with the chunk's bytes from its start on, as many as fit below 3,079
abbrev pub stored : List ℕ → Note → List ℕ → List ℕ
stored area note chunk = with_bytes area (start_of note) (take (3079 - start_of note) chunk)

-- how many of the entries counted by a head end among a file's first bytes
abbrev pub ended_of : ℕ → ℕ → ℕ
ended_of count bytes = min ((bytes - 7) / 6) count

-- and how many bytes of the next one, which is then begun, are among them; no entry is begun past the count, or past 3,079
abbrev pub begun_of : ℕ → ℕ → ℕ
begun_of count bytes = if ltb bytes (7 + 6 * min count 512) then (bytes - 7) % 6 else 0

-- both, by the count in a file's head
abbrev pub ended_in : List ℕ → ℕ → ℕ
ended_in job bytes = ended_of (count_of job) bytes

abbrev pub begun_in : List ℕ → ℕ → ℕ
begun_in job bytes = begun_of (count_of job) bytes

-- the entry begun before a chunk
abbrev pub begun_before : List ℕ → Note → Begun
begun_before area note =
    record { index = ended_in area (start_of note); bytes = begun_in area (start_of note); part = note.part }

-- the area with the bytes of an entry begun over it
abbrev pub over : List ℕ → Begun → List ℕ
over area begun = with_bytes area (7 + 6 * begun.index) (take begun.bytes begun.part)

-- an entry has six bytes, so at most five of one that is begun are there, and these have their place in the area
abbrev pub Fits : List ℕ → Begun → Type 0
Fits area begun = (begun.bytes ≤ 5) × (begun.index ≤ 512) × (7 + 6 * begun.index + begun.bytes ≤ length area)

-- the file so far: as the area has it, but for the entry begun before this chunk, which the note has
abbrev pub so_far : List ℕ → Note → List ℕ
so_far area note = over area (begun_before area note)

-- the lowest row that may come after entries that ended: one above the last of them
abbrev pub least_of : ℕ → List ℕ → ℕ → ℕ → ℕ
least_of least job start stop = if eqb (ended_in job start) (ended_in job stop) then least else (entry_at job (ended_in job stop - 1)).row + 1

-- so many bytes from a place on, zeros behind
abbrev pub part_byte : List ℕ → ℕ → ℕ → ℕ → ℕ
part_byte job at bytes i = if ltb i bytes then byte_at job (at + i) else 0

abbrev pub part_from : List ℕ → ℕ → ℕ → List ℕ
part_from job at bytes = listed 8 (part_byte job at bytes)

-- those of the entry begun
abbrev pub part_of : List ℕ → ℕ → List ℕ
part_of job bytes = part_from job (7 + 6 * ended_in job bytes) (begun_in job bytes)

-- the note after a chunk; where nothing more was counted its part stays as it came
abbrev pub noted : List ℕ → Note → List ℕ → Note
noted job note chunk = record {
  counted = stop_of note chunk;
  least = least_of note.least job (start_of note) (stop_of note chunk);
  part = if eqb (start_of note) (stop_of note chunk) then note.part else part_of job (stop_of note chunk);
}
