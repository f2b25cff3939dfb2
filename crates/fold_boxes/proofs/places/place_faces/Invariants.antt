use Rattle.std.proofs.Common.{◌≡◌, ◌<◌, length}
use Rattle.std.specs.Prelude.{All}
use Rattle.brake_base.specs.declared.space.Place.{Place}
use Rattle.fold_boxes.specs.Places.{ArePlaces}
use Rattle.fold_boxes.proofs.places.place_faces.Given as goal

abbrev pub invariant-loop-bend : goal.invariant-loop-bend
invariant-loop-bend l = record {
  count : length l.places.items ≡ l.bend;
  each : ArePlaces l.shape l.mask l.places.items;
  turns : All (λ (place : Place). place.turn < 24) l.places.items;
}
