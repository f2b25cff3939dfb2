use Rattle.std.proofs.Common.{arith}
use Rattle.handling_cost.specs.Plan.{start}
use Rattle.setup_sheet.proofs.OrderSteps.{steps_act}
use Rattle.setup_sheet.proofs.OrderCosts.{steps_small}
use Rattle.setup_sheet.proofs.order.order_sheet.Goals as goal

pub plan_cost-requires : goal.plan_cost-requires
plan_cost-requires c = steps_act c.args.job.now start c.args.steps.now c.requires

pub put_total-requires : goal.put_total-requires
put_total-requires c =
    let small = steps_small c.args.job.now c.bends.ensures.valid c.args.steps.now (steps_act c.args.job.now start c.args.steps.now c.requires) in
    let is = c.plan_cost.ensures in
    omega (arith, small, is)
