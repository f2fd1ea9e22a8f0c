-- What a call on rows is refused for before a row is used (document 01, "The numbers we answer with").
use Rattle.std.specs.Prelude.{ℕ, Bool, true, false, not, ◌&&◌, List, [], ◌∷◌, ltb}
use Rattle.answer.specs.Rungs.{Rung, ◌when◌}
use Rattle.chip.specs.Callers.{no_caller}
use Rattle.permit.specs.Keys.{hidden}
use Rattle.chip.specs.Pages.{is_lock_row}
use Rattle.chip.specs.Slices.{not_whole, too_large}
use Rattle.chip.specs.declared.state.State.{State}

-- a row that may or may not be used: a row of a latched valid key, 6; not allowed, 7; its entry too large, 3
unfoldable pub row_rungs : List ℕ → State → Bool → ℕ → List Rung
row_rungs rows state may row = 6 when hidden state row ∷ 7 when not may ∷ 3 when too_large rows row ∷ []

-- what a call on one row says of itself: raw or with ECC, and whether its value is too large, which no read has
abbrev pub raw : Bool
raw = false

abbrev pub ecc : Bool
ecc = true

abbrev pub no_value : Bool
no_value = false

-- a call on one row
unfoldable pub call_rungs : List ℕ → State → ℕ → ℕ → Bool → Bool → Bool → List Rung
call_rungs rows state caller row coded value_too_large may =
    1 when not_whole rows ∷ 4 when no_caller caller ∷ 4 when value_too_large ∷ 2 when ltb 4095 row ∷ 5 when (coded && is_lock_row row)
    ∷ row_rungs rows state may row
