-- The numbers of what is found at a place of a job, for those who take no enum (request 2026-04).
use Rattle.std.specs.Prelude.{ℕ}
use Rattle.form.specs.declared.entries.Entry.{Entry}
use Rattle.reader.specs.declared.handing.Found.{Found}
use Rattle.reader.specs.declared.handing.Found.TheVariants.{Entry as an_entry, End, Malformed}

-- an entry and the end are 0, and a part entry, a bad kind or a bad ECC value is 10
abbrev pub found_number : Found → ℕ
found_number (an_entry e) = 0
found_number End = 0
found_number Malformed = 10

-- the end is 1, and all else 0
abbrev pub end_number : Found → ℕ
end_number (an_entry e) = 0
end_number End = 1
end_number Malformed = 0

-- the entry that is handed over; at the end and at 10 row, kind and value are 0
abbrev pub no_entry : Entry
no_entry = record { row = 0; kind = 0; value = 0 }

abbrev pub found_entry : Found → Entry
found_entry (an_entry e) = e
found_entry End = no_entry
found_entry Malformed = no_entry
