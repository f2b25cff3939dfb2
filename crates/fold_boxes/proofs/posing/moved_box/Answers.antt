use Rattle.std.proofs.Common.{sym, subst}
use Rattle.brake_base.specs.declared.space.Box3.{Box3}
use Rattle.brake_base.specs.Turns.{map_of}
use Rattle.brake_base.proofs.TurnTable.{turn_of_is_turn}
use Rattle.fold_boxes.specs.Posing.{IsNearCorner}
use Rattle.fold_boxes.proofs.Turning.{near_image}
use Rattle.fold_boxes.proofs.posing.moved_box.Goals as goal

pub returns-clause-near : goal.returns-clause-near
returns-clause-near c =
    let place = c.args.to_machine.now in
    let corners = near_image (map_of place) c.args.part_box.now.body (turn_of_is_turn place.turn c.requires.turn) c.requires.to_machine c.requires.near in
    let is = sym c.map_box.ensures.value in
    record { lo = subst (λ (b : Box3). IsNearCorner b.lo) is corners.0; hi = subst (λ (b : Box3). IsNearCorner b.hi) is corners.1 }
