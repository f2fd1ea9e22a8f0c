-- `row::upward::lowest` meets its contract: a place that is taken and one that is left each keep the invariant, and nothing overflows.
-- Assumes nothing.
use mathlib.Core.Path.{◌≡◌, refl, sym, ap, ap₂, ◌∙◌}
use Prim.Native.Nat.{ℕ, ◌+◌, ◌*◌, ◌%◌, ◌^◌, ◌≤◌, ◌<◌}
use native.Mathlib.Nat.{mul-le-mul_right}
use native.Mathlib.Omega.{arith}
use lib.Count.{ones_in}
use lib.Pow.{shl_exact, pow_mono}
use Rattle.row.specs.Code.{bit_at}
use Rattle.row.specs.Upward.{lowest_below}
use Rattle.row.proofs.Counts.{ones_le, ones_more}
use Rattle.row.proofs.Lowest.{lowest_lt, lowest_taken, lowest_left}
use Rattle.row.proofs.Places.{bit_lt}
use Rattle.row.proofs.upward.lowest.Goals as goal
use Rattle.row.proofs.upward.lowest.Goals.{then-passed-n, else-passed-n}

pub loop-place-init : goal.loop-place-init
unfolding lowest_below ones_in
loop-place-init c = (refl, refl)

pub overflow_add-kept : goal.overflow_add-kept
overflow_add-kept c =
    let s = c.args in
    let l = c.loop-place in
    let bit : bit_at l.place s.bits < 2 = bit_lt l.place s.bits in
    let low : l.place < 24 = c.loop-place-test.true in
    let small : lowest_below l.place s.n s.bits < 2 ^ l.place = lowest_lt l.place s.n s.bits in
    let under : 2 ^ l.place ≤ 2 ^ 24 = pow_mono {i = l.place} {j = 24} (omega arith) in
    let exact : (bit_at l.place s.bits * 2 ^ l.place) % 2 ^ 32 ≡ bit_at l.place s.bits * 2 ^ l.place =
    shl_exact 1 l.place 32 bit (omega arith) in
    let weight : bit_at l.place s.bits * 2 ^ l.place ≤ 1 * 2 ^ l.place = mul-le-mul_right (2 ^ l.place) (omega arith) in
    omega arith

pub overflow_add-passed : goal.overflow_add-passed
overflow_add-passed c =
    let s = c.args in
    let l = c.loop-place in
    let few : ones_in l.place s.bits ≤ l.place = ones_le l.place s.bits in
    let bit : bit_at l.place s.bits < 2 = bit_lt l.place s.bits in
    omega arith

pub loop-place-preserved : goal.loop-place-preserved
loop-place-preserved c =
    let s = c.args in
    let l = c.loop-place in (
      elim c.if-passed-n.branch [
        | then-passed-n w ↦
            w.kept-is
            ∙ ap₂ ◌+◌ l.invariant.0 (shl_exact 1 l.place 32 (bit_lt l.place s.bits) (omega arith))
            ∙ sym (lowest_taken l.place s.n s.bits (rw (← l.invariant.1) w.if-passed-n.true))
        | else-passed-n w ↦
            w.kept-is ∙ l.invariant.0 ∙ sym (lowest_left l.place s.n s.bits (rw (← l.invariant.1) w.if-passed-n.false))
      ],
      ap (λ (n : ℕ). n + bit_at l.place s.bits) l.invariant.1 ∙ sym (ones_more l.place s.bits),
    )
