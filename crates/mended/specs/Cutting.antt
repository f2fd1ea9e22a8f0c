-- Request 2026-11: power cut while a repair pass runs, begun as demand 3 begins.
use Rattle.std.specs.Prelude.{ℕ, ◌+◌, ◌≤◌, List, [], ◌∷◌, ◌≡◌, length, take, set}
use Rattle.chip.specs.declared.state.State.{State}
use Rattle.latch.specs.Resetting.{reset_number}
use Rattle.repair.specs.Finding.{left_by}
use Rattle.repair.specs.Pass.{Look, looks, repair}
use Rattle.laws.specs.Writes.{In, newly_set}
use Rattle.cuts.specs.Cuts.{Keyed, ready}
use Rattle.mended.specs.Passes.{Done, rows_left}

-- what a cut may leave, as of a job: the rows before some listed row finished, that row anywhere between its old bits and its finished bits,
-- and later rows as they were
pub data PassCut : List ℕ → List Look → List ℕ → Type 0 where
  within : {rows : List ℕ} {look : Look} {others : List Look} (row : ℕ) → In look.held row → In row (left_by look.found look.held)
      → PassCut rows (look ∷ others) (set rows look.row row)
  past : {rows left : List ℕ} {look : Look} {others : List Look} → PassCut (set rows look.row (left_by look.found look.held)) others left
      → PassCut rows (look ∷ others) left
  at_end : {rows : List ℕ} → PassCut rows [] rows

-- each row takes one pulse, so a cut falls between rows: what it leaves are the rows of a shorter pass, which is done too
abbrev pub CutIsShorter : Type 0
CutIsShorter =
    (rows left : List ℕ) (state : State) (list report : List ℕ) → Done rows state list report → PassCut rows (looks rows state list) left
    → (n : ℕ) × (n ≤ length list) × Done rows state (take n list) report × (left ≡ rows_left rows state (take n list) report)

-- a pass cut any number of times, on a chip just reset with the same key each time, from its first rows to those that the last cut left,
-- for so many pulses in all
pub data PassCuts (key : Keyed) (list : List ℕ) : List ℕ → List ℕ → ℕ → Type 0 where
  none : {rows : List ℕ} → PassCuts key list rows rows 0
  once : {rows between left : List ℕ} {spent : ℕ} (before : State) → PassCut rows (looks rows (ready rows before key) list) between
      → PassCuts key list between left spent → PassCuts key list rows left (newly_set rows between + spent)

-- after cuts, a reset and the same key the reset is done, the pass is done again, it ends in the rows of the uncut one, and the pulses add up
abbrev pub PassCutPower : Type 0
PassCutPower =
    (rows left : List ℕ) (before later : State) (key : Keyed) (list report next : List ℕ) (spent : ℕ)
    → reset_number rows ≡ 0 → Done rows (ready rows before key) list report → length list ≤ length next → PassCuts key list rows left spent
    → (reset_number left ≡ 0)
    × Done left (ready left later key) list next
    × (rows_left left (ready left later key) list next ≡ rows_left rows (ready rows before key) list report)
    × (spent + (repair left (ready left later key) list next).left.outcome.answer.pulses
    ≡ (repair rows (ready rows before key) list report).left.outcome.answer.pulses)
