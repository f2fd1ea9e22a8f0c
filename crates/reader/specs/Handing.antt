-- What stands at a place of a job's bytes (request 2026-04).
use Rattle.std.specs.Prelude.{ℕ, ◌+◌, Bool, List, eqb, ltb, leb, length}
use Rattle.std.specs.Prelude.{if◌then◌else◌}
use Rattle.form.specs.Entries.{entry_from}
use Rattle.form.specs.Faults.{fault_number, form_fault}
use Rattle.form.specs.declared.entries.Entry.{Entry}
use Rattle.reader.specs.declared.handing.Found.{Found}
use Rattle.reader.specs.declared.handing.Found.TheVariants.{Entry as an_entry, End, Malformed}
use Rattle.reader.specs.declared.handing.Handed.{Handed}

-- a kind of at most 1, and an ECC value of at most 65,535
abbrev pub well_formed : Entry → Bool
well_formed e = eqb (fault_number (form_fault 0 e)) 0

-- at or past the length, the end; a part entry, a bad kind or a bad ECC value, 10; else the entry whose six bytes begin there
unfoldable pub found_at : List ℕ → ℕ → Found
found_at job at =
    if leb (length job) at then End
    else if ltb (length job) (at + 6) then Malformed
    else if well_formed (entry_from job at) then an_entry (entry_from job at)
    else Malformed

-- the place after it: past an entry; at the end and at 10 the reader stays put
abbrev pub place_after : Found → ℕ → ℕ
place_after (an_entry e) at = at + 6
place_after End at = at
place_after Malformed at = at

-- both
abbrev pub handed_at : List ℕ → ℕ → Handed
handed_at job at = record { found = found_at job at; at = place_after (found_at job at) at }
