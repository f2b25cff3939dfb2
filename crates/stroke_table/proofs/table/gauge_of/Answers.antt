use Rattle.std.proofs.Common.{subst}
use Rattle.job_setup.specs.StrokeGroup.{group_of}
use Rattle.stroke_table.specs.Finding.{IsFoundGauge}
use Rattle.stroke_table.proofs.table.gauge_of.Goals as goal

pub returns-in-Sought : goal.returns-in-Sought
returns-in-Sought c =
    let job = c.args.job.now in
    subst (IsFoundGauge job c.args.mask (group_of job c.args.mask c.args.lead) c.args.back) c.in-Sought.is c.requires.found
