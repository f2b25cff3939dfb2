use Rattle.std.proofs.Common.{◌<◌, length, arith}
use Rattle.brake_base.proofs.Vectors.{box_within_more}
use Rattle.fold_boxes.specs.Places.{IsPlaceOf}
use Rattle.fold_boxes.proofs.Folding.{place_at, box_near_at}
use Rattle.fold_boxes.proofs.part_boxes.face_box.Goals as goal

pub returns-clause-near : goal.returns-clause-near
returns-clause-near c =
    let shape = c.args.shape.now in
    let place = c.index-places-from.result in
    let inside : c.args.face < length c.args.places.now = omega (arith, c.requires.face, c.requires.count) in
    let is : IsPlaceOf shape c.args.mask c.args.face place = place_at shape c.args.mask c.args.places.now c.from.result c.args.face place c.requires.places c.index-places-from.is c.from.ensures inside in
    box_near_at shape c.args.mask c.args.face place c.core_box.result c.map_box.result (omega (arith, c.requires.face, c.requires.few)) is (box_within_more 21000000 22000000 _ (omega arith) c.core_box.ensures.near) c.map_box.ensures.within
