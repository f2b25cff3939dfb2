use Rattle.stroke_table.proofs.StrokeGroups.{group_is}
use Rattle.stroke_table.proofs.finding.stroke_group.Goals as goal

pub returns-clause-group : goal.returns-clause-group
returns-clause-group c = group_is c.args.job.now c.args.mask c.args.lead c.requires.first c.requires.last c.requires.flat c.group.result c.group.ensures.bends
