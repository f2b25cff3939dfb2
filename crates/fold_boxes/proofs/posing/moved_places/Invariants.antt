use Rattle.std.proofs.Common.{◌≡◌, map, take, length}
use Rattle.brake_base.specs.Turns.{map_of, after}
use Rattle.fold_boxes.proofs.posing.moved_places.Given as goal

abbrev pub invariant-loop-place : goal.invariant-loop-place
invariant-loop-place l = record {
  value : map map_of l.moved.items ≡ map (λ place. after (map_of l.to_machine) (map_of place)) (take l.place-index l.places);
  count : length l.moved.items ≡ l.place-index;
}
