use Rattle.std.proofs.Common.{◌≡◌, length, map, All}
use Rattle.std.specs.List.{range_with_len}
use Rattle.fold_boxes.specs.Folded.{face_box, IsNearBox, IsBoxId}
use Rattle.fold_boxes.proofs.part_boxes.face_boxes.Given as goal

abbrev pub invariant-loop-face : goal.invariant-loop-face
invariant-loop-face l = record {
  count : length l.boxes.items ≡ l.face;
  value : l.boxes.items ≡ map (face_box l.shape l.fn.mask) (range_with_len 0 l.face);
  near : All IsNearBox l.boxes.items;
  ids : All IsBoxId l.boxes.items;
}
