use Rattle.std.proofs.Common.{subst}
use Rattle.job_setup.specs.StrokeGroup.{group_of}
use Rattle.handling_cost.specs.Plan.{IsReasonFor}
use Rattle.stroke_table.specs.Strokes.{IsFirstAt}
use Rattle.stroke_table.proofs.table.StrokeTable.holds.Goals as goal

pub holds_by-requires-clause-reason : goal.holds_by-requires-clause-reason
holds_by-requires-clause-reason c =
    let job = c.args.job.now in
    let action = c.args.action in
    subst (IsFirstAt job c.args.mask (group_of job c.args.mask action.bend) action.back action.stage) c.in-Some.is c.reason_at.ensures.reason

pub returns-in-None-clause-holds : goal.returns-in-None-clause-holds
unfolding IsReasonFor
returns-in-None-clause-holds c =
    let job = c.args.job.now in
    let action = c.args.action in
    let none = subst (IsFirstAt job c.args.mask (group_of job c.args.mask action.bend) action.back action.stage) c.in-None.is c.reason_at.ensures.reason in
    (λ yes. absurd cc, λ holds. absurd (none c.args.reason holds))
