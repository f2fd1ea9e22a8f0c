-- `text::lists::read` meets its contract: the walk over the lines is the one of a list's text.
use Rattle.std.proofs.Common.{◌∙◌}
use Rattle.text.specs.Jobs.{begun, most_lines}
use Rattle.text.proofs.ListLines.{list_walk, list_puts}
use Rattle.text.proofs.lists.read.Goals as goal

pub returns-clause-value : goal.returns-clause-value
returns-clause-value c = c.read.ensures.value ∙ list_walk c.args.text.now c.args.most most_lines begun

pub returns-clause-list_after : goal.returns-clause-list_after
returns-clause-list_after c = c.read.ensures.kept_after ∙ list_puts c.args.text.now c.args.most most_lines begun c.args.list.now
