use Rattle.std.proofs.Common.{◌≡◌, length, take}
use Rattle.brake_base.specs.Masks.{has}
use Rattle.fold_boxes.specs.Pose.{pose_data}
use Rattle.sheet_views.specs.Marked.{marked_before}
use Rattle.sheet_views.proofs.part_views.marked_before.Given as goal

abbrev pub invariant-loop-pose_box : goal.invariant-loop-pose_box
invariant-loop-pose_box l = record {
  count : length l.drawn.items ≡ l.pose_box-index;
  value : l.drawn.items ≡ marked_before (has l.beyond) (pose_data l.pose) (take l.pose_box-index l.boxes);
}
