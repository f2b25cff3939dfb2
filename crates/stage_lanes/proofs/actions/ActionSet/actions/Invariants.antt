use Rattle.std.proofs.Common.{◌≡◌, ◌≤◌, map, filter, All}
use Rattle.arrayvec.specs.ArrayVec.{array_vec_len}
use Rattle.brake_base.specs.Actions.{IsActionAmong}
use Rattle.stage_lanes.specs.ActionSets.{has_place, place_of, numbers_below}
use Rattle.stage_lanes.proofs.actions.ActionSet.actions.Given as goal

abbrev pub invariant-loop-place : goal.invariant-loop-place
invariant-loop-place l = record {
  places : map place_of l.actions.items ≡ filter (has_place l.self) (numbers_below l.place);
  among : All (IsActionAmong 12 8) l.actions.items;
  room : array_vec_len l.actions ≤ l.place;
}
