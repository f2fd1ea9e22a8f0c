-- `maker::comparing::all_compared` meets its contract. The invariant: what is kept is what the rows so far show.
-- Assumes nothing.
use Rattle.std.proofs.Common.{ap, ◌∙◌, arith, rules}
use Rattle.chip.specs.Slices.{row_at}
use Rattle.maker.specs.Images.{some_below, changes_below}
use Rattle.maker.specs.Comparing.{with_row}
use Rattle.maker.specs.declared.comparing.Compared.{Compared}
use Rattle.maker.proofs.Changing.{shown_more, few}
use Rattle.maker.proofs.comparing.all_compared.Goals as goal

pub loop-row-init : goal.loop-row-init
unfolding some_below changes_below
loop-row-init c = search rules

-- as many changes as rows at most
pub with_row-shown-requires : goal.with_row-shown-requires
with_row-shown-requires c =
    let l = c.loop-row in
    omega (arith, ap (λ (s : Compared). s.changes) l.invariant, few c.args.present.now c.args.wanted.now l.row)

pub loop-row-preserved : goal.loop-row-preserved
loop-row-preserved c =
    let l = c.loop-row in
    let p = c.args.present.now in
    let w = c.args.wanted.now in
    c.with_row-shown.ensures ∙ ap (λ (s : Compared). with_row s l.row (row_at p l.row) (row_at w l.row)) l.invariant ∙ shown_more p w l.row
