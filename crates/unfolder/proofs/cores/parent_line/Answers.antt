use Rattle.std.proofs.Common.{◌≡◌, pos, ◌+ℤ◌, ◌-ℤ◌, List, map, ap, w64, SFits, arith, rules}
use Rattle.std.proofs.lemmas.Int.{ints, to_z-of_z}
use Rattle.brake_base.specs.Vectors.{vector}
use Rattle.part_file.specs.declared.part.Side.TheVariants.{E, W}
use Rattle.part_file.specs.Part.{FaceData, face_data, face_at, is_bent}
use Rattle.unfolder.specs.Cores.{side_point, if_bent}
use Rattle.unfolder.proofs.Lines.{parent_line_is}
use Rattle.unfolder.proofs.cores.parent_line.Goals as goal

pub side_point-requires-2-clause-distance : goal.side_point-requires-2-clause-distance
side_point-requires-2-clause-distance c =
    let faces : List FaceData = map face_data c.args.part.now.faces.items in
    let end = c.joint_of-joint.ensures.end in
    let low = end.low in
    let high = end.high in
    let within = c.lost-2.ensures.within in
    let wide : c.face_of-child.result.now.width ≡ (face_at faces c.args.bend).width = ap (λ (face : FaceData). face.width) c.face_of-child.ensures.value in
    record { low = omega (arith, ints); high = omega (arith, ints) }

pub returns-clause-value : goal.returns-clause-value
returns-clause-value c =
    let q_fits = c.ranges.q in
    let faces : List FaceData = map face_data c.args.part.now.faces.items in
    let b = c.args.bend in
    let joint = c.joint_of-joint.result in
    let child = c.face_of-child.result.now in
    let at_fits : SFits w64 joint.at = search rules in
    let wide_fits : SFits w64 child.width = search rules in
    let west_fits : SFits w64 c.lost.result = search rules in
    let east_fits : SFits w64 c.lost-2.result = search rules in
    let wide : child.width ≡ (face_at faces b).width = ap (λ (face : FaceData). face.width) c.face_of-child.ensures.value in
    let at_within = c.joint_of-joint.ensures.at in
    let end_within = c.joint_of-joint.ensures.end in
    let west_within = c.lost.ensures.within in
    let east_within = c.lost-2.ensures.within in
    let start_fits : SFits w64 (joint.at +ℤ c.lost.result) = omega (arith, ints) in
    let sum_fits : SFits w64 (joint.at +ℤ child.width) = omega (arith, ints) in
    let end_fits : SFits w64 ((joint.at +ℤ child.width) -ℤ c.lost-2.result) = omega (arith, ints) in
    let west : c.lost.result ≡ if_bent (is_bent faces b W) c.args.q = simp to_z-of_z at c.lost.ensures.value in
    let east : c.lost-2.result ≡ if_bent (is_bent faces b E) c.args.q = simp to_z-of_z at c.lost-2.ensures.value in
    let from : vector c.side_point.result.0 c.side_point.result.1 (pos 0) ≡ side_point joint.side (face_data c.face_of-parent.result.now) (joint.at +ℤ c.lost.result) c.args.q = simp to_z-of_z at c.side_point.ensures.value in
    let to : vector c.side_point-2.result.0 c.side_point-2.result.1 (pos 0) ≡ side_point joint.side (face_data c.face_of-parent.result.now) ((joint.at +ℤ child.width) -ℤ c.lost-2.result) c.args.q = simp to_z-of_z at c.side_point-2.ensures.value in
    parent_line_is faces c.args.q b joint _ _ _ _ _ _ c.joint_of-joint.ensures.value c.face_of-parent.ensures.value c.face_of-child.ensures.value west east from to
