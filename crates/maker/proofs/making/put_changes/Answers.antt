-- `maker::making::put_changes` meets its contract. The invariant: the output has the entries of the rows so far.
-- Assumes nothing.
use mathlib.Core.List.{List}
use mathlib.Core.Path.{◌≡◌, refl, ap, ◌∙◌}
use Prim.Native.Nat.{ℕ, ◌+◌}
use native.Mathlib.Omega.{arith}
use lib.ListN.{length}
use Rattle.chip.specs.Slices.{row_at}
use Rattle.form.specs.Writing.{with_entries}
use Rattle.maker.specs.Images.{change_at, changes_below}
use Rattle.maker.proofs.Changing.{few, change_more, count_more, all_data}
use Rattle.maker.proofs.making.put_changes.Goals as goal

pub loop-row-init : goal.loop-row-init
unfolding changes_below with_entries
loop-row-init c = record { counted = refl; put = refl }

pub put_change-count-requires : goal.put_change-count-requires
put_change-count-requires c =
    let a = c.args in
    record {
      count_bound = omega (arith, c.loop-row.invariant.counted, few a.present.now a.wanted.now c.loop-row.row);
      row_bound = omega arith;
    }

pub loop-row-preserved : goal.loop-row-preserved
loop-row-preserved c =
    let a = c.args in
    let p = a.present.now in
    let w = a.wanted.now in
    let row = c.loop-row.row in
    let change = change_at row (row_at p row) (row_at w row) in
    let put = c.put_change-count.ensures in
    record {
      counted = put.0 ∙ ap (λ (n : ℕ). n + length change) c.loop-row.invariant.counted ∙ count_more p w row;
      put = put.1 ∙ ap (λ (out : List ℕ). with_entries out c.loop-row.count change) c.loop-row.invariant.put
          ∙ ap (λ (n : ℕ). with_entries (with_entries a.out.now 0 (changes_below p w row)) n change) c.loop-row.invariant.counted ∙ change_more p w a.out.now row;
    }

pub returns : goal.returns
returns c =
    let a = c.args in
    let all : c.loop-row.row ≡ 0xf40 = omega arith in
    let every = ap (changes_below a.present.now a.wanted.now) all ∙ all_data a.present.now a.wanted.now in
    c.loop-row.invariant.put ∙ ap (with_entries a.out.now 0) every
