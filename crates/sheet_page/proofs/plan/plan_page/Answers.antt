use Rattle.std.proofs.Common.{arith}
use Rattle.handling_cost.specs.Plan.{start}
use Rattle.setup_sheet.proofs.OrderCosts.{steps_small}
use Rattle.setup_sheet.proofs.OrderSteps.{steps_act}
use Rattle.setup_sheet.proofs.PlanTold.{rest_told}
use Rattle.sheet_page.proofs.FewSteps.{steps_few}
use Rattle.sheet_page.proofs.plan.plan_page.Goals as goal

pub told_page-requires-clause-steps : goal.told_page-requires-clause-steps
told_page-requires-clause-steps c = rest_told c.args.job.now start c.args.steps.now c.requires.plan

pub told_page-requires-clause-few : goal.told_page-requires-clause-few
told_page-requires-clause-few c =
    steps_few c.args.job.now c.recall_valid.ensures c.args.steps.now (steps_act c.args.job.now start c.args.steps.now (rest_told c.args.job.now start c.args.steps.now c.requires.plan))

pub told_page-requires-clause-cost : goal.told_page-requires-clause-cost
told_page-requires-clause-cost c =
    let small = steps_small c.args.job.now c.recall_valid.ensures c.args.steps.now (steps_act c.args.job.now start c.args.steps.now (rest_told c.args.job.now start c.args.steps.now c.requires.plan)) in
    omega (arith, small, c.requires.cost)
