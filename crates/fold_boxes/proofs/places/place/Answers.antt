use Rattle.fold_boxes.proofs.Folding.{places_listed}
use Rattle.fold_boxes.proofs.places.place.Goals as goal

pub returns-clause-value : goal.returns-clause-value
returns-clause-value c = places_listed c.args.shape.now c.args.mask c.place_faces.result.items c.place_faces.ensures.count c.place_faces.ensures.each
