-- The repair pass (request 2026-11): its number, first test first, and what it leaves.
use Rattle.std.specs.Prelude.{ℕ, ◌+◌, Bool, false, ◌&&◌, ◌||◌, List, [], ◌∷◌, eqb, ltb, leb, length, set}
use Rattle.std.specs.Prelude.{if◌then◌else◌}
use Rattle.answer.specs.Rungs.{◌when◌, first_of}
use Rattle.permit.specs.Permission.{may_write}
use Rattle.chip.specs.Slices.{row_at, not_whole, too_large}
use Rattle.chip.specs.Tallies.{Gain, ◌gains◌}
use Rattle.chip.specs.declared.state.State.{State}
use Rattle.burn.specs.Burning.{Left, burnt, kept}
use Rattle.repair.specs.Finding.{found_of, report_entry, left_by, pulses_by}
use Rattle.repair.specs.declared.finding.Found.{Found}

-- a listed row from 0xf40 up, or not above the row before it; `least` is the lowest that may come next
unfoldable pub out_of_order : ℕ → List ℕ → Bool
out_of_order least [] = false
out_of_order least (row ∷ others) = leb 0xf40 row || ltb row least || out_of_order (row + 1) others

-- a listed row that Secure may write, and that holds more than 16,777,215
unfoldable pub some_too_large : List ℕ → State → List ℕ → Bool
some_too_large rows state [] = false
some_too_large rows state (row ∷ others) = (may_write state 0 row && too_large rows row) || some_too_large rows state others

-- 1, then 11 for the list, 12 for a report shorter than the list, then 3
abbrev pub repair_number : List ℕ → State → List ℕ → List ℕ → ℕ
repair_number rows state list report =
    first_of
    (1 when not_whole rows
    ∷ 11 when out_of_order 0 list
    ∷ 12 when ltb (length report) (length list)
    ∷ 3 when some_too_large rows state list
    ∷ [])

-- a listed row: what it holds, and what is found of it
pub record Look : Type 0 where
  pub row : ℕ
  pub held : ℕ
  pub found : Found

-- each listed row is looked at by itself; the pass runs as Secure
abbrev pub look_at : List ℕ → State → ℕ → Look
look_at rows state row = record { row = row; held = row_at rows row; found = found_of (may_write state 0 row) (row_at rows row) }

-- all of them, in order
unfoldable pub looks : List ℕ → State → List ℕ → List Look
looks rows state [] = []
looks rows state (row ∷ others) = look_at rows state row ∷ looks rows state others

-- the rows then
unfoldable pub mended_rows : List ℕ → List Look → List ℕ
mended_rows rows [] = rows
mended_rows rows (look ∷ others) = mended_rows (set rows look.row (left_by look.found look.held)) others

-- the pulses: the number of rows mended
unfoldable pub mending_pulses : List Look → ℕ
mending_pulses [] = 0
mending_pulses (look ∷ others) = pulses_by look.found + mending_pulses others

-- the bits that each listed row gains: 1 or 0
unfoldable pub mending_gains : List Look → List Gain
mending_gains [] = []
mending_gains (look ∷ others) = look.row gains pulses_by look.found ∷ mending_gains others

-- the report with the entries of these rows, the first of them at a place; entries past the list stay
unfoldable pub report_from : List ℕ → ℕ → List Look → List ℕ
report_from report place [] = report
report_from report place (look ∷ others) = report_from (set report place (report_entry look.found)) (place + 1) others

-- what a pass leaves: its outcome, all rows, and the report
pub record Passed : Type 0 where
  pub left : Left
  pub report : List ℕ

-- done, by what was found of each row: what was lost is burnt, counted and reported
abbrev pub mended : List ℕ → State → List Look → List ℕ → Passed
mended rows state found report = record {
  left = burnt state (mending_gains found) (mended_rows rows found) 0 (mending_pulses found);
  report = report_from report 0 found;
}

-- repair the listed rows; a refusal leaves the report as it was too
unfoldable pub repair : List ℕ → State → List ℕ → List ℕ → Passed
repair rows state list report =
    if eqb (repair_number rows state list report) 0 then mended rows state (looks rows state list) report
    else record { left = kept state rows (repair_number rows state list report) 0; report = report }
