-- `mending::lists::first_out` meets its contract: the rows before a place are in order, and with the one at it they are not.
-- Assumes nothing.
use Rattle.std.proofs.Common.{refl, sym, ap, ◌∙◌, arith}
use mathlib.Core.Bool.{true≢false}
use Rattle.std.proofs.Math.Seq.{take_all}
use Rattle.repair.specs.Pass.{out_of_order}
use Rattle.mending.proofs.lists.first_out.Goals as goal

pub loop-place-init : goal.loop-place-init
unfolding out_of_order
loop-place-init c = refl

pub returns-then-out_of_order : goal.returns-then-out_of_order
returns-then-out_of_order c =
    let out = ap (out_of_order 0) (sym c.first.ensures) ∙ sym c.out_of_order.ensures ∙ c.if-out_of_order.true in
    λ refused. (c.loop-place.invariant, out)

pub loop-place-preserved : goal.loop-place-preserved
loop-place-preserved c = ap (out_of_order 0) (sym c.first.ensures) ∙ sym c.out_of_order.ensures ∙ c.if-out_of_order.false

pub returns : goal.returns
returns c =
    let list = c.args.list.now in
    let l = c.loop-place in
    let order = sym (ap (out_of_order 0) (take_all l.place list (omega arith))) ∙ l.invariant in
    λ refused. absurd (true≢false (sym refused ∙ order))
