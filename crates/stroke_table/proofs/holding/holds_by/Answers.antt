use Rattle.std.proofs.Common.{refl, subst}
use Rattle.brake_base.specs.declared.reason.Reason.{Reason}
use Rattle.job_setup.specs.StrokeGroup.{group_of}
use Rattle.job_setup.specs.Reasons.{IsReason}
use Rattle.handling_cost.specs.Plan.{IsReasonFor}
use Rattle.stroke_table.proofs.holding.holds_by.Goals as goal

pub returns-then-is_same : goal.returns-then-is_same
unfolding IsReasonFor
returns-then-is_same c =
    let group = group_of c.args.job.now c.args.mask c.args.action.bend in
    (λ _. subst (λ (reason : Reason). IsReason c.args.job.now c.args.mask group c.args.action.back c.args.action.stage reason) (c.is_same.ensures.0 c.if-is_same.true) c.requires.reason.holds, λ _. refl)

pub returns-then-is_before : goal.returns-then-is_before
unfolding IsReasonFor
returns-then-is_before c = (λ yes. absurd cc, λ holds. absurd (c.requires.reason.first c.args.reason holds (c.is_before.ensures.0 c.if-is_before.true)))
