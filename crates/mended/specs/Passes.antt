-- Request 2026-11: what a repair pass is refused for, and what it leaves of the rows and of the report.
use Rattle.std.specs.Prelude.{ℕ, ◌+◌, ◌≤◌, ◌<◌, true, List, [], ◌∷◌, ◌⊎◌, ◌↔◌, ◌≡◌, eqb, length, get_or}
use Rattle.answer.specs.Answers.{found_in}
use Rattle.std.specs.Prelude.{if◌then◌else◌}
use Rattle.answer.specs.declared.answers.Condition.TheVariants as said
use Rattle.answer.specs.declared.answers.Polarity.TheVariants.{Plain}
use Rattle.decode.specs.Reading.{read_row}
use Rattle.permit.specs.Permission.{may_write}
use Rattle.chip.specs.Slices.{row_at}
use Rattle.chip.specs.declared.state.State.{State}
use Rattle.chip.specs.declared.state.Outcome.{Outcome}
use Rattle.repair.specs.Finding.{found_of, kind_of, report_entry}
use Rattle.repair.specs.Pass.{repair}
use Rattle.repair.specs.declared.finding.Found.{Found}
use Rattle.repair.specs.declared.finding.Found.TheVariants.{Mended}
use Rattle.mended.specs.Rows.{OneBitMore}

-- the listed row at a place
abbrev pub listed_row : List ℕ → ℕ → ℕ
listed_row list i = get_or list i 0

-- and what is found of it
abbrev pub finding_at : List ℕ → State → List ℕ → ℕ → Found
finding_at rows state list i = found_of (may_write state 0 (listed_row list i)) (row_at rows (listed_row list i))

-- a pass is done
abbrev pub Done : List ℕ → State → List ℕ → List ℕ → Type 0
Done rows state list report = (repair rows state list report).left.outcome.answer.number ≡ 0

-- the rows that it leaves
abbrev pub rows_left : List ℕ → State → List ℕ → List ℕ → List ℕ
rows_left rows state list report = (repair rows state list report).left.rows

-- ---- refused

-- a listed row is from 0xf40 up, or not above the row before it
abbrev pub ListWrong : List ℕ → Type 0
ListWrong list = (i : ℕ) × (i < length list) × ((0xf40 ≤ listed_row list i) ⊎ ((k : ℕ) × (k + 1 ≡ i) × (listed_row list i ≤ listed_row list k)))

-- a listed row that Secure may write holds more than 16,777,215
abbrev pub ListedTooLarge : List ℕ → State → List ℕ → Type 0
ListedTooLarge rows state list =
    (i : ℕ) × (i < length list) × (may_write state 0 (listed_row list i) ≡ true) × (16777215 < row_at rows (listed_row list i))

-- on a chip's 4,096 rows a pass is refused exactly if one of the three holds
abbrev pub RepairRefusedExactly : Type 0
RepairRefusedExactly =
    (rows : List ℕ) (state : State) (list report : List ℕ) → length rows ≡ 4096
    → (Done rows state list report → ⊥) ↔ (ListWrong list ⊎ ((length report < length list) ⊎ ListedTooLarge rows state list))

-- a refusal leaves the report as it was, and its place is 0
abbrev pub RepairRefusalKeeps : Type 0
RepairRefusalKeeps =
    (rows : List ℕ) (state : State) (list report : List ℕ) → (Done rows state list report → ⊥)
    → ((repair rows state list report).report ≡ report) × ((repair rows state list report).left.outcome.answer.place ≡ 0)

-- ---- done

-- how many of the listed rows are mended
unfoldable pub mended_of : List ℕ → State → List ℕ → ℕ
mended_of rows state [] = 0
mended_of rows state (row ∷ others) =
    (if eqb (kind_of (found_of (may_write state 0 row) (row_at rows row))) 1 then 1 else 0) + mended_of rows state others

-- value 0, clean, plain, place 0, and the number of rows mended as the pulses
abbrev pub RepairAnswers : Type 0
RepairAnswers =
    (rows : List ℕ) (state : State) (list report : List ℕ) → Done rows state list report
    → ((repair rows state list report).left.outcome.answer.value ≡ 0)
    × ((repair rows state list report).left.outcome.answer.condition ≡ said.Clean)
    × ((repair rows state list report).left.outcome.answer.polarity ≡ Plain)
    × ((repair rows state list report).left.outcome.answer.place ≡ 0)
    × ((repair rows state list report).left.outcome.answer.pulses ≡ mended_of rows state list)

-- the report says of each listed row what is found of it, and its entries past the list stay
abbrev pub ReportSays : Type 0
ReportSays =
    (rows : List ℕ) (state : State) (list report : List ℕ) → Done rows state list report
    → (length (repair rows state list report).report ≡ length report)
    × ((i : ℕ) → i < length list → get_or (repair rows state list report).report i 0 ≡ report_entry (finding_at rows state list i))
    × ((place : ℕ) → length list ≤ place → get_or (repair rows state list report).report place 0 ≡ get_or report place 0)

-- the row is listed, and mended
abbrev pub MendedRow : List ℕ → State → List ℕ → ℕ → Type 0
MendedRow rows state list row =
    (i : ℕ) × (bit : ℕ) × (i < length list) × (listed_row list i ≡ row) × (finding_at rows state list i ≡ Mended bit)

-- only mended rows alter, each by exactly one bit, from 0 to 1: every other of the 4,096 is as it was
abbrev pub OnlyMendedAlter : Type 0
OnlyMendedAlter =
    (rows : List ℕ) (state : State) (list report : List ℕ) → Done rows state list report
    → (length (rows_left rows state list report) ≡ 4096)
    × ((row : ℕ) → (MendedRow rows state list row → ⊥) → row_at (rows_left rows state list report) row ≡ row_at rows row)
    × ((i bit : ℕ) → i < length list → finding_at rows state list i ≡ Mended bit
    → OneBitMore bit (row_at rows (listed_row list i)) (row_at (rows_left rows state list report) (listed_row list i)))

-- and each then reads clean, in the same polarity, with the value that it read before
abbrev pub MendedRowsReadClean : Type 0
MendedRowsReadClean =
    (rows : List ℕ) (state : State) (list report : List ℕ) (i bit : ℕ) → Done rows state list report → i < length list
    → finding_at rows state list i ≡ Mended bit
    → read_row (row_at (rows_left rows state list report) (listed_row list i))
    ≡ found_in (read_row (row_at rows (listed_row list i))).polarity (read_row (row_at rows (listed_row list i))).value said.Clean

-- ---- what the contract allows

-- of the outcome, the rows and the report; and it leaves no room
abbrev pub RepairAllows : List ℕ → State → List ℕ → List ℕ → Outcome → List ℕ → List ℕ → Type 0
RepairAllows rows state list report outcome left entries = (outcome ≡ (repair rows state list report).left.outcome) × (left ≡ (repair rows state list report).left.rows) × (entries ≡ (repair rows state list report).report)

abbrev pub RepairNoRoom : Type 0
RepairNoRoom =
    (rows : List ℕ) (state : State) (list report : List ℕ) (a b : Outcome) (left left' entries entries' : List ℕ)
    → RepairAllows rows state list report a left entries → RepairAllows rows state list report b left' entries'
    → (a ≡ b) × (left ≡ left') × (entries ≡ entries')
