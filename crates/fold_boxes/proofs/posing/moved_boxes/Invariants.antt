use Rattle.std.proofs.Common.{◌≡◌, map, take, length, All}
use Rattle.brake_base.specs.Turns.{map_of}
use Rattle.brake_base.specs.Masks.{has}
use Rattle.fold_boxes.specs.Posing.{moved_box, IsNearPoseBox}
use Rattle.fold_boxes.proofs.posing.moved_boxes.Given as goal

abbrev pub invariant-loop-part_box : goal.invariant-loop-part_box
invariant-loop-part_box l = record {
  value : l.moved.items ≡ map (moved_box (map_of l.to_machine) (has l.beyond) l.back) (take l.part_box-index l.boxes);
  near : All IsNearPoseBox l.moved.items;
  count : length l.moved.items ≡ l.part_box-index;
}
