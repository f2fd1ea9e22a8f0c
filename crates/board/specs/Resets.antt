-- The row for which a reset is refused.
use Rattle.std.specs.Prelude.{ℕ, ◌≡◌, ◌<◌, Bool, true, false, List, [], ◌∷◌}
use Rattle.chip.specs.Slices.{row_at}
use Rattle.latch.specs.Resetting.{all_in_range}

-- a row is as the reset asks of all, by the reset's own test
abbrev pub is_in_range : List ℕ → ℕ → Bool
is_in_range rows row = all_in_range (row_at rows row ∷ [])

-- of a chip that has a row that is not: the first such row
abbrev pub FirstTooLarge : List ℕ → ℕ → Type 0
FirstTooLarge rows row =
    (other : ℕ) → other < 4096 → is_in_range rows other ≡ false → (is_in_range rows row ≡ false) × ((k : ℕ) → k < row → is_in_range rows k ≡ true)
