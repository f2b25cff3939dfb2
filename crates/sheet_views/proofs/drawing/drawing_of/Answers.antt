use Rattle.std.proofs.Common.{◌^◌, ◌<◌, length, get_or, sym, subst}
use Rattle.brake_base.specs.Vectors.{IsWithin}
use Rattle.brake_base.specs.Turns.{stay}
use Rattle.fold_boxes.specs.Pose.{PoseData}
use Rattle.sheet_views.proofs.Poses.{held_near}
use Rattle.sheet_views.proofs.drawing.drawing_of.Goals as goal

pub returns-clause-near : goal.returns-clause-near
returns-clause-near c =
    let posed = sym c.pose_before-pose.ensures.value in
    let held = held_near c.args.job.now c.pose_before-pose.ensures.valid c.args.key.now c.args.action c.requires in
    record {
      pose = c.pose_before-pose.ensures.near;
      places = subst (λ (p : PoseData). 0 < length p.places) posed held.0;
      held = subst (λ (p : PoseData). IsWithin (2 ^ 40) (get_or p.places 0 stay).shift) posed held.1;
      from = c.bend_line-line.ensures.from;
      to = c.bend_line-line.ensures.to;
      before = c.boxes_before-before.ensures.near;
      after = c.boxes_after-after.ensures.near;
    }
