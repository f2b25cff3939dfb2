use Rattle.std.proofs.Common.{◌≡◌, ◌∙◌, ◌^◌, ap, sym, ◌-ℤ◌, to_z, of_z, w64, List, arith}
use Rattle.std.proofs.lemmas.Int.{ints}
use Rattle.brake_base.specs.Turns.{Map, map_of, turn_of, multiply, transpose, apply, mapped}
use Rattle.brake_base.proofs.Vectors.{same_point, within_more}
use Rattle.brake_base.proofs.Maps.{after-turn}
use Rattle.part_file.specs.Part.{PartData, FaceData}
use Rattle.unfolder.specs.Cores.{joint_of}
use Rattle.unfolder.specs.Blank.{flat_step}
use Rattle.unfolder.specs.Fold.{minus}
use Rattle.fold_boxes.specs.Pose.{frame_turn, posed, posed_frame, inverse_of}
use Rattle.fold_boxes.proofs.PoseEffect.{mapped_posed, shift_is}
use Rattle.fold_boxes.proofs.pose_map.pose_map.Goals as goal

pub apply-corner-requires : goal.apply-corner-requires
apply-corner-requires c = within_more 273000000 (2 ^ 40) _ (omega arith) (c.map.ensures.within 252000000 21000000 c.requires.parent c.hinge.ensures.value.flat_near)

pub returns-clause-value : goal.returns-clause-value
returns-clause-value c =
    let shape = c.args.shape.now in
    let group = c.args.group in
    let back = c.args.back in
    let lead = c.args.lead in
    let place = map_of c.args.parent.now in
    let frame = posed_frame shape group back c.args.x0 c.args.x1 in
    let faces_are = ap (λ (p : PartData). p.faces) c.part.ensures.value in
    let joint_is = c.joint_of.ensures.value ∙ ap (λ (fs : List FaceData). joint_of fs lead) faces_are ∙ ap (joint_of shape.part.faces) c.requires.lead in
    let turn : turn_of c.pose_turn-turn.result ≡ multiply frame.turn (transpose place.turn) =
    c.pose_turn-turn.ensures.value ∙ (λ i. multiply (frame_turn (joint_is i).side (joint_is i).dir back) (transpose (turn_of c.args.parent.now.turn))) in
    let w = (flat_step shape.part.faces shape.q lead).shift in
    let flat = ap (λ (m : Map). m.shift) c.hinge.ensures.value.flat in
    let seen : c.apply-corner.result ≡ apply (multiply frame.turn (transpose place.turn)) (mapped place w) =
    c.apply-corner.ensures.value ∙ (λ i. apply (turn i) ((c.map.ensures.value ∙ ap (mapped place) flat) i)) in
    let from = c.requires.from in
    let to = c.requires.to in
    let x0 : to_z w64 (of_z w64 c.args.x0) ≡ c.args.x0 = omega (arith, ints, from.low, from.high) in
    let x1 : to_z w64 (of_z w64 c.args.x1) ≡ c.args.x1 = omega (arith, ints, to.low, to.high) in
    let there : c.posed_corner-posed.result ≡ mapped frame w = c.posed_corner-posed.ensures.value ∙ (λ i. posed shape group back (x0 i) (x1 i) w) ∙ sym (mapped_posed shape group back c.args.x0 c.args.x1 w) in
    let corner = c.apply-corner.ensures.within 273000000 (c.map.ensures.within 252000000 21000000 c.requires.parent c.hinge.ensures.value.flat_near) in
    let px = c.posed_corner-posed.ensures.near_x in
    let py = c.posed_corner-posed.ensures.near_y in
    let pz = c.posed_corner-posed.ensures.near_z in
    let at : record {
      x = to_z w64 (of_z w64 (to_z w64 (of_z w64 c.posed_corner-posed.result.x) -ℤ to_z w64 (of_z w64 c.apply-corner.result.x)));
      y = to_z w64 (of_z w64 (to_z w64 (of_z w64 c.posed_corner-posed.result.y) -ℤ to_z w64 (of_z w64 c.apply-corner.result.y)));
      z = to_z w64 (of_z w64 (to_z w64 (of_z w64 c.posed_corner-posed.result.z) -ℤ to_z w64 (of_z w64 c.apply-corner.result.z)));
    } ≡ minus c.posed_corner-posed.result c.apply-corner.result =
    same_point _ _ (omega (arith, ints, px.low, px.high, corner.x)) (omega (arith, ints, py.low, py.high, corner.y)) (omega (arith, ints, pz.low, pz.high, corner.z)) in
    let shift = at ∙ (λ i. minus (there i) (seen i)) ∙ sym (shift_is frame place c.pose_turn-turn.ensures.undone w) in
    λ i. record { turn = (turn ∙ sym (after-turn frame (inverse_of place))) i; shift = shift i }

pub returns-clause-near : goal.returns-clause-near
returns-clause-near c =
    let corner = c.apply-corner.ensures.within 273000000 (c.map.ensures.within 252000000 21000000 c.requires.parent c.hinge.ensures.value.flat_near) in
    let px = c.posed_corner-posed.ensures.near_x in
    let py = c.posed_corner-posed.ensures.near_y in
    let pz = c.posed_corner-posed.ensures.near_z in
    record { x = omega (arith, ints, px.low, px.high, corner.x); y = omega (arith, ints, py.low, py.high, corner.y); z = omega (arith, ints, pz.low, pz.high, corner.z) }
