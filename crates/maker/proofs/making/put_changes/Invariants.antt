-- `maker::making::put_changes` meets its contract. The invariant: the output has the entries of the rows so far.
use Rattle.std.proofs.Common.{◌≡◌, length}
use Rattle.form.specs.Writing.{with_entries}
use Rattle.maker.specs.Images.{changes_below}
use Rattle.maker.proofs.making.put_changes.Given as goal

abbrev pub invariant-loop-row : goal.invariant-loop-row
invariant-loop-row l = record {
  counted : l.count ≡ length (changes_below l.present l.wanted l.row);
  put : l.out ≡ with_entries l.initial.out 0 (changes_below l.present l.wanted l.row);
}
