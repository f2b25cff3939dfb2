use Rattle.std.proofs.Common.{◌≡◌, ◌+◌, ◌-◌, ◌≤◌, ◌++◌, length, map, filter, All}
use Rattle.std.specs.List.{range_with_len}
use Rattle.brake_base.specs.Masks.{has}
use Rattle.fold_boxes.specs.Folded.{corner_box, IsNearBox, IsBoxId}
use Rattle.fold_boxes.proofs.part_boxes.put_corner_boxes.Given as goal

abbrev pub invariant-loop-bend : goal.invariant-loop-bend
invariant-loop-bend l = record {
  room : length l.boxes.items ≤ 12 + l.bend;
  value : l.boxes.items ≡ l.initial.boxes.items ++ map (corner_box l.shape l.mask) (filter (has l.mask) (range_with_len 1 (l.bend - 1)));
  near : All IsNearBox l.boxes.items;
  ids : All IsBoxId l.boxes.items;
}
