use Rattle.std.proofs.Common.{◌≡◌, length, take}
use Rattle.brake_base.specs.Masks.{has}
use Rattle.brake_base.specs.Turns.{map_of}
use Rattle.fold_boxes.specs.Pose.{pose_data}
use Rattle.sheet_views.specs.Marked.{marked_after}
use Rattle.sheet_views.specs.Near.{AreNearBoxes}
use Rattle.sheet_views.proofs.part_views.marked_after.Given as goal

abbrev pub invariant-loop-part_box : goal.invariant-loop-part_box
invariant-loop-part_box l = record {
  count : length l.drawn.items ≡ l.part_box-index;
  value : l.drawn.items ≡ marked_after (has l.beyond) (pose_data l.pose) (map_of l.place) (take l.part_box-index l.boxes);
  near : AreNearBoxes l.drawn.items;
}
