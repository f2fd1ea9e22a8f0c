-- A report entry says what was found: nothing of it is lost on the way to the screen.
-- Assumes nothing.
use mathlib.Core.Path.{◌≡◌, refl}
use Prim.Native.Nat.{◌+◌, ◌*◌, ◌/◌, ◌%◌}
use native.Mathlib.Omega.{arith}
use Rattle.repair.specs.Finding.{report_entry}
use Rattle.repair.specs.declared.finding.Found.{Found}
use Rattle.repair.specs.declared.finding.Found.TheVariants.{Clean, Mended, Worn, Damaged, NotPermitted}
use Rattle.mending.specs.Finds.{found_by}

pub told : (found : Found) → found_by (report_entry found) ≡ found
unfolding found_by
told Clean = refl
told (Mended bit) =
    let kind : (1 + 256 * bit) % 256 ≡ 1 = omega arith in
    let own : (1 + 256 * bit) / 256 ≡ bit = omega arith in
    rw (kind, own)
told Worn = refl
told Damaged = refl
told NotPermitted = refl
