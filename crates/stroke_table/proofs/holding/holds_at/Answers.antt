use Rattle.std.proofs.Common.{◌↔◌, IsTrue, subst}
use Rattle.brake_base.specs.declared.mask.Mask.{Mask}
use Rattle.fold_boxes.specs.Pose.{pose_data}
use Rattle.job_setup.specs.Reasons.{IsPoseAt, IsReason}
use Rattle.handling_cost.specs.Plan.{IsReasonFor}
use Rattle.stroke_table.proofs.holding.holds_at.Goals as goal

pub returns : goal.returns
unfolding IsReasonFor
returns c =
    let job = c.args.job.now in
    let action = c.args.action in
    let stroke : IsPoseAt job action.stage (pose_data c.pose_at-pose.result) = record {
      mask = c.args.mask;
      group = c.stroke_group-group.result;
      back = action.back;
      stroke = c.stroke_group-group.ensures.group;
      within = c.requires.stage;
      value = c.pose_at-pose.ensures.value;
    } in
    subst (λ (group : Mask). IsTrue c.holds.result ↔ IsReason job c.args.mask group action.back action.stage c.args.reason) c.stroke_group-group.ensures.value (c.holds.ensures.exact stroke)
