use Rattle.brake_base.specs.declared.space.Place.{Place}
use Rattle.brake_base.specs.Vectors.{origin}
use Rattle.fold_boxes.proofs.Corners.{corners_touch}
use Rattle.fold_boxes.proofs.part_boxes.boxes.Goals as goal

pub returns-clause-corners : goal.returns-clause-corners
returns-clause-corners c =
    let places = c.place_faces-places.ensures in
    let none : Place = record { at = origin; turn = 0 } in
    corners_touch c.args.shape.now places.rules c.args.mask c.place_faces-places.result.items none places.each places.count (λ f within. places.turns f none within)
