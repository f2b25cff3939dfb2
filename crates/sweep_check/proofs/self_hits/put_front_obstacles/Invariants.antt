use Rattle.std.proofs.Common.{◌≡◌, ◌≤◌, [], ◌∷◌, length, take}
use Rattle.std.specs.Prelude.{flat_map}
use Rattle.sweep_check.specs.Pieces.{if_front, front_obstacle}
use Rattle.sweep_check.proofs.self_hits.put_front_obstacles.Given as goal

abbrev pub invariant-loop-body : goal.invariant-loop-body
invariant-loop-body l = record {
  few : length l.obstacles.items ≤ l.body-index;
  value : l.obstacles.items ≡ flat_map (λ box. if_front box.half (front_obstacle l.job box ∷ [])) (take l.body-index l.boxes);
}
