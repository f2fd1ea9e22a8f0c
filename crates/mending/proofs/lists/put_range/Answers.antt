-- `mending::lists::put_range` meets its contract: each turn puts one row more.
-- Assumes nothing.
use Rattle.std.proofs.Common.{◌≡◌, ℕ, ◌+◌, ◌-◌, List, set, refl, ap, ◌∙◌, add-one, arith}
use Rattle.mending.specs.Lists.{with_range}
use Rattle.mending.proofs.lists.put_range.Goals as goal

-- one row more
more : (list : List ℕ) (from count : ℕ) → set (with_range list from count) count (from + count) ≡ with_range list from (count + 1)
unfolding with_range
more list from count = rw (add-one count)

pub loop-i-init : goal.loop-i-init
unfolding with_range
loop-i-init c = refl

pub loop-i-preserved : goal.loop-i-preserved
loop-i-preserved c =
    let a = c.args in
    let l = c.loop-i in
    c.put.ensures ∙ ap (λ (own : List ℕ). set own l.i (a.from + l.i)) l.invariant ∙ more a.list.now a.from l.i

pub returns : goal.returns
returns c =
    let a = c.args in
    let all : c.loop-i.i ≡ a.past - a.from = omega arith in
    c.loop-i.invariant ∙ ap (with_range a.list.now a.from) all
