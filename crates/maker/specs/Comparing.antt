-- What one pass over two images keeps: all that the making of a job is refused by (request 2026-04).
use Rattle.std.specs.Prelude.{ℕ, ◌+◌, ◌*◌, ◌||◌, List, [], ◌∷◌, ltb, length}
use Rattle.std.specs.Prelude.{if◌then◌else◌}
use Rattle.answer.specs.Rungs.{◌when◌, first_of}
use Rattle.maker.specs.Images.{either_large, loses_bit, kept_differs, data_differs, some_below, changes_below}
use Rattle.maker.specs.declared.comparing.Compared.{Compared}

-- what the rows below a number show
abbrev pub shown_below : List ℕ → List ℕ → ℕ → Compared
shown_below present wanted row = record {
  large = some_below either_large present wanted row;
  lost = some_below loses_bit present wanted row;
  kept = some_below kept_differs present wanted row;
  changes = length (changes_below present wanted row);
}

-- and with one row more
abbrev pub with_row : Compared → ℕ → ℕ → ℕ → Compared
with_row shown row present wanted = record {
  large = shown.large || either_large row present wanted;
  lost = shown.lost || loses_bit row present wanted;
  kept = shown.kept || kept_differs row present wanted;
  changes = shown.changes + (if data_differs row present wanted then 1 else 0);
}

-- judged, with so many bytes of room: 3, 13, 11, 14, 12
abbrev pub judged_by : Compared → ℕ → ℕ
judged_by shown room =
    first_of
    (3 when shown.large
    ∷ 13 when shown.lost
    ∷ 11 when shown.kept
    ∷ 14 when ltb 512 shown.changes
    ∷ 12 when ltb room (7 + 6 * shown.changes)
    ∷ [])
