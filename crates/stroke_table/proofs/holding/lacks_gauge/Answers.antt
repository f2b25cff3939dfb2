use Rattle.job_setup.specs.StrokeGroup.{group_of}
use Rattle.handling_cost.specs.Plan.{IsReasonFor}
use Rattle.stroke_table.proofs.Firsts.{no_gauge_is}
use Rattle.stroke_table.proofs.holding.lacks_gauge.Goals as goal

pub returns : goal.returns
unfolding IsReasonFor
returns c =
    let action = c.args.action in
    no_gauge_is c.args.job.now c.args.mask (group_of c.args.job.now c.args.mask action.bend) action.back action.stage c.find_gauge.result c.is_none.result c.is_none.ensures (c.find_gauge.ensures action.stage c.requires.stage)
