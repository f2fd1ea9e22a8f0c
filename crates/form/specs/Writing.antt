-- Entries to job bytes: a head or an entry put into a job (document 01, "Jobs").
use Rattle.std.specs.Prelude.{ℕ, ◌+◌, ◌*◌, ◌/◌, ◌%◌, List, [], ◌∷◌, ◌++◌, length, set}
use Rattle.form.specs.declared.entries.Entry.{Entry}

-- numbers of 16 and of 24 bits have their low byte first; what a wider number has above them is left out
abbrev pub two_bytes : ℕ → List ℕ
two_bytes number = number % 256 ∷ number / 256 % 256 ∷ []

abbrev pub three_bytes : ℕ → List ℕ
three_bytes number = number % 256 ∷ number / 256 % 256 ∷ number / 65536 % 256 ∷ []

-- three bytes 4F 54 4A, a 16-bit version, a 16-bit count
abbrev pub head_bytes : ℕ → ℕ → List ℕ
head_bytes version count = 0x4f ∷ 0x54 ∷ 0x4a ∷ two_bytes version ++ two_bytes count

-- an entry: a 16-bit row, a one-byte kind, a 24-bit value
abbrev pub entry_bytes : Entry → List ℕ
entry_bytes entry = two_bytes entry.row ++ entry.kind % 256 ∷ three_bytes entry.value

-- a job with bytes put one after the other from a place on; past its end nothing is kept
unfoldable pub with_bytes : List ℕ → ℕ → List ℕ → List ℕ
with_bytes job at [] = job
with_bytes job at (byte ∷ others) = with_bytes (set job at byte) (at + 1) others

-- a job with another head
abbrev pub with_head : List ℕ → ℕ → ℕ → List ℕ
with_head job version count = with_bytes job 0 (head_bytes version count)

-- a job with another i-th entry
abbrev pub with_entry : List ℕ → ℕ → Entry → List ℕ
with_entry job i entry = with_bytes job (7 + 6 * i) (entry_bytes entry)

-- a job with other entries, one after the other from an index on
unfoldable pub with_entries : List ℕ → ℕ → List Entry → List ℕ
with_entries job i [] = job
with_entries job i (entry ∷ others) = with_entries (with_entry job i entry) (i + 1) others

-- a job with a head of so many entries, and those entries
abbrev pub with_job : List ℕ → ℕ → List Entry → List ℕ
with_job job version entries = with_entries (with_head job version (length entries)) 0 entries
