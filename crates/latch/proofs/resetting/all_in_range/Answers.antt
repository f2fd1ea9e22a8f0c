-- `latch::resetting::all_in_range` meets its contract: `all` makes the definition's test of each entry.
-- Assumes nothing.
use mathlib.Core.Path.{refl}
use borrow.Author.Rules.{rules}
use lib.Dec.{leb}
use Rattle.std.proofs.lemmas.List.Recursion.{and_is}
use Rattle.latch.specs.Resetting.{all_in_range}
use Rattle.latch.proofs.resetting.all_in_range.Goals as goal

pub returns : goal.returns
unfolding all_in_range
returns c = and_is all_in_range (λ row. leb row 16777215) refl (λ _ _. refl) c.args.rows.now 0 _ (search rules) (search rules)
