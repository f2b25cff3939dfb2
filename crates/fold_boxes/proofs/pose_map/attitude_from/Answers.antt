use Rattle.std.proofs.Common.{◌≡◌, ◌∙◌, ◌<◌, ap, sym, List, length, arith}
use Rattle.brake_base.specs.Turns.{Map, turn_of, multiply, transpose}
use Rattle.part_file.specs.Part.{PartData, FaceData}
use Rattle.unfolder.specs.Cores.{joint_of}
use Rattle.fold_boxes.specs.Folded.{place_of}
use Rattle.fold_boxes.specs.Places.{IsPlaceOf}
use Rattle.fold_boxes.specs.Pose.{parent_place, frame_turn, attitude_turn}
use Rattle.fold_boxes.proofs.Folding.{place_at}
use Rattle.fold_boxes.proofs.Numbered.{turn_number_is}
use Rattle.fold_boxes.proofs.SolePose.{held_as}
use Rattle.fold_boxes.proofs.pose_map.attitude_from.Goals as goal

pub returns-clause-turn : goal.returns-clause-turn
unfolding attitude_turn
returns-clause-turn c =
    let shape = c.args.shape.now in
    let mask = c.args.mask in
    let bend = c.args.bend in
    let back = c.args.back in
    let kept = c.hinge.result.now in
    let place = c.index-places-from.result in
    let inside : kept.parent < length c.args.places.now = omega (arith, c.requires.bend, c.hinge.ensures.earlier, c.requires.count) in
    let is : IsPlaceOf shape mask kept.parent place = place_at shape mask c.args.places.now c.from.result kept.parent place c.requires.places c.index-places-from.is c.from.ensures inside in
    let parent : turn_of place.turn ≡ (parent_place shape mask bend).turn =
    ap (λ (m : Map). m.turn) is.map ∙ ap (λ on. (place_of shape mask on).turn) c.hinge.ensures.value.parent in
    let faces_are = ap (λ (p : PartData). p.faces) c.part.ensures.value in
    let joint : c.joint_of.result ≡ joint_of shape.part.faces bend = c.joint_of.ensures.value ∙ ap (λ (fs : List FaceData). joint_of fs bend) faces_are in
    c.pose_turn.ensures.value ∙ (λ i. multiply (frame_turn (joint i).side (joint i).dir back) (transpose (parent i)))

pub returns-clause-value : goal.returns-clause-value
returns-clause-value c = turn_number_is c.pose_turn.result (attitude_turn c.args.shape.now c.args.mask c.args.bend c.args.back) c.pose_turn.ensures.below (returns-clause-turn c)

pub returns-clause-held : goal.returns-clause-held
returns-clause-held c = λ group x0 x1 is_group member. held_as c.args.shape.now c.args.mask group is_group c.args.back x0 x1 c.args.bend member ∙ sym (returns-clause-turn c)
