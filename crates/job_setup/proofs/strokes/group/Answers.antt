use Rattle.std.proofs.Common.{rules}
use Rattle.job_setup.proofs.GroupMasks.{is_group_of}
use Rattle.job_setup.proofs.strokes.group.Goals as goal

pub returns-then-setup-clause-value : goal.returns-then-setup-clause-value
returns-then-setup-clause-value c = is_group_of c.args.job.now c.args.mask _ c.args.bend (search rules) (search rules)

pub returns-else-setup-clause-value : goal.returns-else-setup-clause-value
returns-else-setup-clause-value c = is_group_of c.args.job.now c.args.mask _ c.args.bend (search rules) (search rules)
