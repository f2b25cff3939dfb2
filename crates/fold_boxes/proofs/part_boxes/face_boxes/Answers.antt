use Rattle.std.proofs.Common.{arith}
use Rattle.unfolder.proofs.Listing.{push_next, all_pushed}
use Rattle.fold_boxes.specs.Folded.{face_box, IsNearBox, IsBoxId}
use Rattle.fold_boxes.proofs.part_boxes.face_boxes.Goals as goal

pub loop-face-preserved : goal.loop-face-preserved
loop-face-preserved c = record {
  count = omega (arith, c.push.ensures.len, c.loop-face.invariant.count);
  value = push_next (face_box c.args.shape.now c.args.mask) 0 c.loop-face.face c.loop-face.face _ _ _ c.push.ensures.items c.loop-face.invariant.value c.face_box.ensures.value (omega arith);
  near = all_pushed IsNearBox _ _ _ c.push.ensures.items c.loop-face.invariant.near c.face_box.ensures.near;
  ids = all_pushed IsBoxId _ _ _ c.push.ensures.items c.loop-face.invariant.ids c.face_box.ensures.id;
}
