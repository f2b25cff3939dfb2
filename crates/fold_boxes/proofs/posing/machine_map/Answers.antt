use Rattle.std.proofs.Common.{◌≡◌, ◌∙◌, ◌<◌, ◌*◌, ap, length, to_z, of_z, w64, arith}
use Rattle.std.proofs.lemmas.Int.{ints}
use Rattle.brake_base.specs.Turns.{map_of, after}
use Rattle.brake_base.proofs.Vectors.{within_more}
use Rattle.fold_boxes.specs.Folded.{place_of}
use Rattle.fold_boxes.specs.Places.{IsPlaceOf}
use Rattle.fold_boxes.specs.Pose.{lead_of, parent_place, posed_frame, inverse_of}
use Rattle.fold_boxes.proofs.Folding.{place_at}
use Rattle.fold_boxes.proofs.PoseEffect.{pose_map_is}
use Rattle.fold_boxes.proofs.posing.machine_map.Goals as goal

pub pose_map-requires-clause-parent : goal.pose_map-requires-clause-parent
pose_map-requires-clause-parent c =
    let kept = c.hinge.result.now in
    let place = c.index-places-from.result in
    let few = c.hinge.ensures.rules.part.few_faces in
    let inside : kept.parent < length c.args.places.now = omega (arith, c.hinge.ensures.earlier, c.lead_of-lead.ensures.bend, c.requires.count) in
    let is : IsPlaceOf c.args.shape.now c.args.stroke.now.mask kept.parent place = place_at c.args.shape.now c.args.stroke.now.mask c.args.places.now c.from.result kept.parent place c.requires.places c.index-places-from.is c.from.ensures inside in
    within_more (kept.parent * 21000000) 252000000 place.at (omega (arith, few, c.hinge.ensures.earlier, c.lead_of-lead.ensures.bend)) is.near

pub returns-clause-value : goal.returns-clause-value
returns-clause-value c =
    let shape = c.args.shape.now in
    let stroke = c.args.stroke.now in
    let mask = stroke.mask in
    let group = stroke.group in
    let kept = c.hinge.result.now in
    let place = c.index-places-from.result in
    let from = c.requires.from in
    let to = c.requires.to in
    let x0 : to_z w64 (of_z w64 stroke.x0) ≡ stroke.x0 = omega (arith, ints, from.low, from.high) in
    let x1 : to_z w64 (of_z w64 stroke.x1) ≡ stroke.x1 = omega (arith, ints, to.low, to.high) in
    let inside : kept.parent < length c.args.places.now = omega (arith, c.hinge.ensures.earlier, c.lead_of-lead.ensures.bend, c.requires.count) in
    let is : IsPlaceOf shape mask kept.parent place = place_at shape mask c.args.places.now c.from.result kept.parent place c.requires.places c.index-places-from.is c.from.ensures inside in
    let parent : map_of place ≡ parent_place shape mask (lead_of shape group) = is.map ∙ ap (place_of shape mask) c.hinge.ensures.value.parent ∙ ap (parent_place shape mask) c.lead_of-lead.ensures.value in
    let m = map_of c.pose_map.result in
    let made : m ≡ after (posed_frame shape group stroke.back stroke.x0 stroke.x1) (inverse_of (map_of place)) =
    c.pose_map.ensures.value ∙ (λ i. after (posed_frame shape group stroke.back (x0 i) (x1 i)) (inverse_of (map_of place))) in
    pose_map_is shape mask group stroke.back stroke.x0 stroke.x1 m (map_of place) made parent
