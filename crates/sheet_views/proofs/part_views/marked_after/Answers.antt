use Rattle.std.proofs.Common.{◌^◌, ◌+◌, sym, subst, arith}
use Rattle.std.proofs.lemmas.List.Elements.{All-push}
use Rattle.brake_base.specs.Boxes.{image, IsBoxWithin}
use Rattle.brake_base.specs.Masks.{has}
use Rattle.brake_base.specs.Turns.{map_of}
use Rattle.brake_base.proofs.Vectors.{within_more, box_within_more}
use Rattle.fold_boxes.specs.declared.part_boxes.PartBox.{PartBox}
use Rattle.fold_boxes.specs.Pose.{pose_data}
use Rattle.sheet_views.specs.declared.part_views.DrawnBox.{DrawnBox}
use Rattle.sheet_views.specs.Marked.{marked}
use Rattle.sheet_views.specs.Near.{AreNearBoxes}
use Rattle.sheet_views.proofs.Kept.{mapped_more}
use Rattle.sheet_views.proofs.Numbers.{marked_image}
use Rattle.sheet_views.proofs.part_views.marked_after.Goals as goal

pub map_box-body-requires-clause-at : goal.map_box-body-requires-clause-at
map_box-body-requires-clause-at c = within_more (2 ^ 39) (2 ^ 40) _ (omega arith) c.requires.place

pub map_box-body-requires-clause-body : goal.map_box-body-requires-clause-body
map_box-body-requires-clause-body c = box_within_more (2 ^ 39) (2 ^ 40) _ (omega arith) (c.requires.near c.loop-part_box.part_box-index _ c.loop-part_box-test.true)

pub loop-part_box-preserved : goal.loop-part_box-preserved
loop-part_box-preserved c =
    let set = has c.args.beyond in
    let pose = pose_data c.args.pose.now in
    let m = map_of c.args.place.now in
    let near = c.requires.near c.loop-part_box.part_box-index _ c.loop-part_box-test.true in
    let body = box_within_more (2 ^ 39 + 2 ^ 39) (2 ^ 40) _ (omega arith) (c.map_box-body.ensures.within (2 ^ 39) (2 ^ 39) c.requires.place near) in
    let drawn = subst (λ (b : DrawnBox). IsBoxWithin (2 ^ 40) b.body) (sym c.marked.ensures) body in
    record {
      count = omega (arith, c.push.ensures.len, c.loop-part_box.invariant.count);
      value = mapped_more (λ (b : PartBox). marked set pose b.id (image m b.body)) c.args.boxes.now c.loop-part_box.part_box-index _ c.marked.result _ _ c.loop-part_box-test.true
          (marked_image set pose m _ _ _ _ c.marked.ensures c.map_box-body.ensures.value) c.push.ensures.items c.loop-part_box.invariant.value;
      near = subst AreNearBoxes (sym c.push.ensures.items) (All-push (λ (b : DrawnBox). IsBoxWithin (2 ^ 40) b.body) c.loop-part_box.drawn.items c.marked.result c.loop-part_box.invariant.near drawn);
    }
