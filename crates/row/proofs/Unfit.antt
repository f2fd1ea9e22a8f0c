-- What an ECC write of a row itself refuses: 9, as the rung of the call says it.
-- Assumes nothing.
use mathlib.Core.Bool.{Bool, true, false, not, ◌&&◌}
use mathlib.Core.List.{[], ◌∷◌}
use mathlib.Core.Path.{◌≡◌, refl}
use Prim.Native.Nat.{ℕ}
use Rattle.std.specs.Prelude.{if◌then◌else◌}
use Rattle.row.specs.Code.{plain, inverted}
use Rattle.answer.specs.Rungs.{◌when◌, first_of}
use Rattle.row.specs.Writing.{fits, burnt_over, left_alone, ecc_written, neither_fits}

-- 9 is given exactly where neither polarity fits
pub nine : (old value : ℕ) → (ecc_written old value).number ≡ first_of (9 when neither_fits old value ∷ [])
nine old value = go (fits old (plain value)) (fits old (inverted value))
  where
    go : (p i : Bool)
        → (if p then burnt_over old (plain value) else if i then burnt_over old (inverted value) else left_alone old 9).number
        ≡ (if not p && not i then 9 else 0)
    go true i = refl
    go false true = refl
    go false false = refl
