use Rattle.std.proofs.Common.{arith}
use Rattle.brake_base.specs.Masks.{has}
use Rattle.fold_boxes.specs.declared.posed_part.PoseBox.{PoseBox}
use Rattle.fold_boxes.specs.Pose.{pose_data}
use Rattle.sheet_views.specs.Marked.{marked}
use Rattle.sheet_views.proofs.Kept.{mapped_more}
use Rattle.sheet_views.proofs.part_views.marked_before.Goals as goal

pub loop-pose_box-preserved : goal.loop-pose_box-preserved
loop-pose_box-preserved c = record {
  count = omega (arith, c.push.ensures.len, c.loop-pose_box.invariant.count);
  value = mapped_more (λ (b : PoseBox). marked (has c.args.beyond) (pose_data c.args.pose.now) b.id b.body) c.args.boxes.now c.loop-pose_box.pose_box-index _ c.marked.result _ _ c.loop-pose_box-test.true c.marked.ensures c.push.ensures.items c.loop-pose_box.invariant.value;
}
