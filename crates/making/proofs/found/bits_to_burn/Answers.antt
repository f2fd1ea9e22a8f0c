-- `making::found::bits_to_burn` meets its contract: each row adds its bits, which are few.
-- Assumes nothing.
use Rattle.std.proofs.Common.{◌≡◌, ℕ, ◌+◌, ◌≤◌, List, bit_and, refl, ap, ◌∙◌, add-one, arith}
use Rattle.row.specs.Code.{flipped}
use Rattle.row.specs.Writing.{pulses}
use Rattle.chip.specs.Slices.{row_at}
use Rattle.chip.proofs.PageBits.{row_few}
use Rattle.making.specs.Found.{bits_below}
use Rattle.making.proofs.found.bits_to_burn.Goals as goal

pub loop-row-init : goal.loop-row-init
unfolding bits_below
loop-row-init c = (omega arith, refl)

-- a row adds 24 bits at most
few : (old row : ℕ) → pulses old row ≤ 24
unfolding pulses
few old row = row_few (bit_and row (flipped old))

-- the bits of the rows below a number, with one row more
more : (present wanted : List ℕ) (row : ℕ)
    → bits_below present wanted row + pulses (row_at present row) (row_at wanted row) ≡ bits_below present wanted (row + 1)
unfolding bits_below
more present wanted row = rw (add-one row)

pub overflow_add-bits : goal.overflow_add-bits
overflow_add-bits c = omega (arith, few c.row_at.result c.row_at-in-loop-row.result)

pub loop-row-preserved : goal.loop-row-preserved
loop-row-preserved c =
    let a = c.args in
    (omega (arith, few c.row_at.result c.row_at-in-loop-row.result), cc (more a.present.now a.wanted.now c.loop-row.row))

pub returns : goal.returns
returns c =
    let a = c.args in
    let all : c.loop-row.row ≡ 4096 = omega arith in
    c.loop-row.invariant.1 ∙ ap (bits_below a.present.now a.wanted.now) all
