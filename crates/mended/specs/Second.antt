-- Request 2026-11: a second pass mends nothing.
use Rattle.std.specs.Prelude.{ℕ, ◌≤◌, ◌<◌, List, ◌≡◌, length, get_or}
use Rattle.chip.specs.declared.state.State.{State}
use Rattle.latch.specs.Resetting.{reset_number}
use Rattle.repair.specs.Finding.{report_entry}
use Rattle.repair.specs.Pass.{repair}
use Rattle.repair.specs.declared.finding.Found.{Found}
use Rattle.repair.specs.declared.finding.Found.TheVariants.{Clean, Mended, Worn, Damaged, NotPermitted}
use Rattle.cuts.specs.Cuts.{Keyed, ready}
use Rattle.mended.specs.Passes.{finding_at, Done, rows_left}

-- what is found of a row the next time: one that was mended is clean, and any other is what it was
abbrev pub found_next : Found → Found
found_next Clean = Clean
found_next (Mended bit) = Clean
found_next Worn = Worn
found_next Damaged = Damaged
found_next NotPermitted = NotPermitted

-- the same list once more, over what a pass left, by a later state and with any report that is long enough: 0 pulses, the rows as they are,
-- each row that was mended is clean now, and every other report entry is the same
abbrev pub MendsNothing : List ℕ → State → State → List ℕ → List ℕ → Type 0
MendsNothing rows state later list report =
    (next : List ℕ) → length list ≤ length next
    → Done (rows_left rows state list report) later list next
    × ((repair (rows_left rows state list report) later list next).left.outcome.answer.pulses ≡ 0)
    × (rows_left (rows_left rows state list report) later list next ≡ rows_left rows state list report)
    × ((i : ℕ) → i < length list
    → get_or (repair (rows_left rows state list report) later list next).report i 0 ≡ report_entry (found_next (finding_at rows state list i)))

-- right after the first, with whatever state
abbrev pub SecondRightAfter : Type 0
SecondRightAfter =
    (rows : List ℕ) (state : State) (list report : List ℕ) → Done rows state list report
    → MendsNothing rows state (repair rows state list report).left.outcome.state list report

-- after a reset and the same key, where the first was made on a chip just reset with that key or none
abbrev pub SecondAfterReset : Type 0
SecondAfterReset =
    (rows : List ℕ) (before later : State) (key : Keyed) (list report : List ℕ) → reset_number rows ≡ 0
    → Done rows (ready rows before key) list report
    → (reset_number (rows_left rows (ready rows before key) list report) ≡ 0)
    × MendsNothing rows (ready rows before key) (ready (rows_left rows (ready rows before key) list report) later key) list report
