-- `text::jobs::read` meets its contract: the walk over the lines is the one of a job's text.
use Rattle.std.proofs.Common.{◌∙◌}
use Rattle.text.specs.Jobs.{begun, most_lines}
use Rattle.text.proofs.JobLines.{job_walk, job_puts}
use Rattle.text.proofs.jobs.read.Goals as goal

pub returns-clause-value : goal.returns-clause-value
returns-clause-value c = c.read.ensures.value ∙ job_walk c.args.text.now c.args.most most_lines begun

pub returns-clause-job_after : goal.returns-clause-job_after
returns-clause-job_after c = c.read.ensures.kept_after ∙ job_puts c.args.text.now c.args.most most_lines begun c.args.job.now
