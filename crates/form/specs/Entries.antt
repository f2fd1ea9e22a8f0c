-- Job bytes: the head, and entries of six bytes (document 01, "Jobs").
use Rattle.std.specs.Prelude.{ℕ, zero, suc, ◌+◌, ◌*◌, List, [], ◌∷◌, get_or}
use Rattle.form.specs.declared.entries.Entry.{Entry}

-- the byte at a place
abbrev pub byte_at : List ℕ → ℕ → ℕ
byte_at job at = get_or job at 0

-- numbers of 16 and of 24 bits have their low byte first
abbrev pub two_at : List ℕ → ℕ → ℕ
two_at job at = byte_at job at + 256 * byte_at job (at + 1)

abbrev pub three_at : List ℕ → ℕ → ℕ
three_at job at = byte_at job at + 256 * byte_at job (at + 1) + 65536 * byte_at job (at + 2)

-- three bytes 4F 54 4A, a 16-bit version, a 16-bit count
abbrev pub version_of : List ℕ → ℕ
version_of job = two_at job 3

abbrev pub count_of : List ℕ → ℕ
count_of job = two_at job 5

-- then entries of six bytes: a 16-bit row, a one-byte kind (0 is ECC, 1 is raw), a 24-bit value
abbrev pub entry_from : List ℕ → ℕ → Entry
entry_from job at = record { row = two_at job at; kind = byte_at job (at + 2); value = three_at job (at + 3) }

unfoldable pub entry_at : List ℕ → ℕ → Entry
entry_at job i = entry_from job (7 + 6 * i)

-- so many entries from one on
unfoldable pub entries_from : List ℕ → ℕ → ℕ → List Entry
entries_from job i zero = []
entries_from job i (suc others) = entry_at job i ∷ entries_from job (suc i) others

-- all entries of a job
abbrev pub entries_of : List ℕ → List Entry
entries_of job = entries_from job 0 (count_of job)
