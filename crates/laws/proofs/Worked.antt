-- The twelve worked rows hold of the definitions: antt computes each.
-- Assumes nothing.
use mathlib.Core.Path.{refl}
use lib.Count.{ones_in}
use Rattle.row.specs.Code.{set_bits, parity, masks, with_check, with_checks, code}
use Rattle.decode.specs.Reading.{repaired_below, decoded}
use Rattle.laws.specs.Worked.{WorkedRows}

pub worked_rows : WorkedRows
unfolding code with_checks with_check masks parity set_bits ones_in repaired_below decoded
worked_rows = record {
  P1 = refl;
  P2 = refl;
  P3 = refl;
  P4 = refl;
  P5 = refl;
  P6 = refl;
  P7 = refl;
  P8 = refl;
  P9 = refl;
  P10 = refl;
  P11 = refl;
  P12 = refl;
}
