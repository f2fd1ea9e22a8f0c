-- `row::coding::set_bits` meets its contract: the language counts the set bits of all 32 places, and only 24 are left to count.
-- Assumes nothing.
use mathlib.Core.Path.{◌∙◌}
use Prim.Native.Nat.{◌%◌, ◌^◌}
use native.Mathlib.Nat.{mod-lt}
use lib.Pow.{pow_pos}
use Rattle.row.specs.Code.{set_bits}
use Rattle.row.proofs.Counts.{ones_counted, ones_low}
use Rattle.row.proofs.coding.set_bits.Goals as goal

pub returns : goal.returns
unfolding set_bits
returns c = ones_counted 24 (c.args.row % 2 ^ 24) (mod-lt c.args.row (pow_pos 24)) ∙ ones_low 24 c.args.row
