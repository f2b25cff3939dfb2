use Rattle.std.proofs.Common.{◌<◌, length, arith}
use Rattle.fold_boxes.specs.Places.{IsPlaceOf}
use Rattle.fold_boxes.proofs.Folding.{place_at, box_near_at}
use Rattle.fold_boxes.proofs.part_boxes.corner_box.Goals as goal

pub returns-clause-near : goal.returns-clause-near
returns-clause-near c =
    let shape = c.args.shape.now in
    let kept = c.hinge-hinge.result.now in
    let place = c.index-places-from.result in
    let inside : kept.parent < length c.args.places.now = omega (arith, c.requires.bend, c.hinge-hinge.ensures.earlier, c.requires.count) in
    let is : IsPlaceOf shape c.args.mask kept.parent place = place_at shape c.args.mask c.args.places.now c.from.result kept.parent place c.requires.places c.index-places-from.is c.from.ensures inside in
    box_near_at shape c.args.mask kept.parent place kept.corner c.map_box.result (omega (arith, c.requires.bend, c.hinge-hinge.ensures.earlier, c.requires.few)) is c.hinge-hinge.ensures.value.corner_near c.map_box.ensures.within
