-- `row::coding::code` meets its contract: the check bits of the four parts make those of the value.
-- Assumes nothing.
use mathlib.Core.Path.{◌≡◌, ap, ap₂, ◌∙◌}
use Prim.Native.Nat.{ℕ, ◌*◌, ◌%◌, ◌^◌, ◌<◌}
use native.Mathlib.Omega.{arith}
use lib.Bits.{bit_or, bit_xor}
use lib.Dec.{lit≤}
use lib.Pow.{shl_exact}
use Rattle.row.proofs.Checks.{checks, parted, checks_lt, above}
use Rattle.row.proofs.coding.code.Goals as goal

pub returns : goal.returns
returns c =
    let v : ℕ = c.args.value in
    let small : v < 2 ^ 16 = omega arith in
    let first : ℕ = bit_xor c.low_checks.result c.low_checks-2.result in
    let all : bit_xor (bit_xor first c.high_checks.result) c.high_checks-2.result ≡ checks v =
    ap₂ bit_xor (ap₂ bit_xor (ap₂ bit_xor c.low_checks.ensures c.low_checks-2.ensures) c.high_checks.ensures) c.high_checks-2.ensures
    ∙ parted v small in
    ap (bit_or v) (ap (λ (x : ℕ). x * 2 ^ 16 % 2 ^ 32) all ∙ shl_exact 6 16 32 (checks_lt v small) (lit≤ tt)) ∙ above v small
