use Rattle.std.proofs.Common.{◌≡◌, ◌∙◌, ◌*◌, ◌^◌, ap, sym, subst, map, All, to_z, of_z, w64, arith}
use Rattle.std.proofs.lemmas.Int.{ints}
use Rattle.brake_base.specs.Turns.{map_of}
use Rattle.brake_base.specs.Masks.{has}
use Rattle.brake_base.proofs.Vectors.{within_more}
use Rattle.fold_boxes.specs.Folded.{IsNearBox, IsBoxId}
use Rattle.fold_boxes.specs.Pose.{pose_map}
use Rattle.fold_boxes.specs.Posing.{moved_box}
use Rattle.fold_boxes.proofs.Folding.{places_listed}
use Rattle.fold_boxes.proofs.PoseLists.{boxes_moved, places_moved}
use Rattle.fold_boxes.proofs.PoseEffect.{pose_effect}
use Rattle.fold_boxes.proofs.SolePose.{sole_map}
use Rattle.fold_boxes.proofs.posing.pose_from.Goals as goal

pub moved_boxes-requires-clause-near : goal.moved_boxes-requires-clause-near
moved_boxes-requires-clause-near c = subst (All IsNearBox) (sym c.as_slice.ensures.value) c.boxes_at-boxes.ensures.near

pub moved_boxes-requires-clause-ids : goal.moved_boxes-requires-clause-ids
moved_boxes-requires-clause-ids c = subst (All IsBoxId) (sym c.as_slice.ensures.value) c.boxes_at-boxes.ensures.ids

pub moved_places-requires-clause-near : goal.moved_places-requires-clause-near
moved_places-requires-clause-near c = λ k d inside.
    let few = c.machine_map-to_machine.ensures.rules.part.few_faces in
    let is = c.requires.places k d inside in
    within_more (k * 21000000) (2 ^ 40) _ (omega (arith, few, inside, c.requires.count)) is.near

pub moved_places-requires-clause-few : goal.moved_places-requires-clause-few
moved_places-requires-clause-few c = omega (arith, c.requires.count, c.machine_map-to_machine.ensures.rules.part.few_faces)

pub returns-clause-value : goal.returns-clause-value
returns-clause-value c =
    let shape = c.args.shape.now in
    let mask = c.args.mask in
    let group = c.args.group in
    let back = c.args.back in
    let places = c.args.places.now in
    let from = c.requires.from in
    let to = c.requires.to in
    let x0 : to_z w64 (of_z w64 c.args.x0) ≡ c.args.x0 = omega (arith, ints, from.low, from.high) in
    let x1 : to_z w64 (of_z w64 c.args.x1) ≡ c.args.x1 = omega (arith, ints, to.low, to.high) in
    let m = map_of c.machine_map-to_machine.result in
    let m_is : m ≡ pose_map shape mask group back c.args.x0 c.args.x1 = c.machine_map-to_machine.ensures.value ∙ (λ i. pose_map shape mask group back (x0 i) (x1 i)) in
    let few = c.machine_map-to_machine.ensures.rules.part.few_faces in
    let boxes = c.moved_boxes.ensures.value ∙ ap (map (moved_box m (has c.faces_beyond.result) back)) (c.as_slice.ensures.value ∙ c.boxes_at-boxes.ensures.value)
    ∙ boxes_moved shape mask group back c.args.x0 c.args.x1 m (has c.faces_beyond.result) few m_is c.faces_beyond.ensures.faces in
    let listed = places_listed shape mask places c.requires.count c.requires.places in
    let moved = c.moved_places.ensures ∙ places_moved shape mask group back c.args.x0 c.args.x1 m places listed m_is in
    λ i. record { bend = c.lead_of.ensures.value i; group = group; boxes = boxes i; places = moved i; x0 = x0 i; x1 = x1 i }

pub returns-clause-effect : goal.returns-clause-effect
returns-clause-effect c = pose_effect c.args.shape.now c.machine_map-to_machine.ensures.rules c.args.mask c.args.group c.requires.group c.args.back c.args.x0 c.args.x1

pub returns-clause-sole : goal.returns-clause-sole
returns-clause-sole c = sole_map c.args.shape.now c.machine_map-to_machine.ensures.rules c.args.mask c.args.group c.requires.group c.args.back c.args.x0 c.args.x1
