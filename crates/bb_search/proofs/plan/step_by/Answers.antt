use Rattle.std.proofs.Common.{sym, subst}
use Rattle.brake_base.specs.declared.stroke.Action.{Action}
use Rattle.handling_cost.specs.Plan.{IsReasonFor}
use Rattle.handling_cost.proofs.Legal.{reason_is_not_legal}
use Rattle.bb_search.proofs.plan.step_by.Goals as goal

pub returns-in-Refused-clause-none : goal.returns-in-Refused-clause-none
returns-in-Refused-clause-none c =
    λ step rest same on.
    reason_is_not_legal c.args.job.now c.args.key.now step c.in-Refused._reason
    (subst (λ (a : Action). IsReasonFor c.args.job.now c.args.key.now.mask a c.in-Refused._reason) (sym same) c.in-Refused.ensures.tested) on.legal
