use Rattle.std.proofs.Common.{sym, subst}
use Rattle.brake_base.specs.declared.stroke.Worth.{Worth}
use Rattle.cert_check.specs.Steps.{StepsAnswer}
use Rattle.cert_check.proofs.StepLemmas.{steps_answer, few_steps}
use Rattle.cert_check.proofs.steps.check_steps.Goals as goal

pub follow-requires-clause-few : goal.follow-requires-clause-few
follow-requires-clause-few c = few_steps c.args.job.now c.args.claim c.args.steps.now c.recall_valid.ensures c.requires.count

pub returns-in-Cost : goal.returns-in-Cost
returns-in-Cost c =
    subst (λ (claim : Worth). StepsAnswer c.args.job.now claim c.args.steps.now c.check_cost.result) (sym c.in-Cost.is)
    (steps_answer c.args.job.now c.in-Cost.claimed c.args.steps.now c.in_ok-last.last c.in_ok-last.cost c.check_cost.result c.in_ok-last.ensures.answer.0 c.in_ok-last.ensures.answer.1 c.check_cost.ensures)
