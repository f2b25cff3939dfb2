use Rattle.std.proofs.Common.{◌≡◌, pos, ◌*ℤ◌, List, map, w64, SFits, arith, rules}
use Rattle.std.proofs.lemmas.Int.{ints, to_z-of_z}
use Rattle.brake_base.specs.Vectors.{vector}
use Rattle.part_file.specs.Part.{FaceData, face_data}
use Rattle.unfolder.specs.Cores.{side_point}
use Rattle.unfolder.proofs.FrameLemmas.{flat_step_is}
use Rattle.unfolder.proofs.frame.frame_on_parent.Goals as goal

pub returns-clause-value : goal.returns-clause-value
returns-clause-value c =
    let q_fits = c.ranges.q in
    let faces : List FaceData = map face_data c.args.part.now.faces.items in
    let joint = c.joint_of-joint.result in
    let at_fits : SFits w64 joint.at = search rules in
    let double_fits : SFits w64 (pos 2 *ℤ c.args.q) = omega (arith, ints) in
    let a_fits : SFits w64 c.side_point-x.result.0 = search rules in
    let b_fits : SFits w64 c.side_point-x.result.1 = search rules in
    let point : vector c.side_point-x.result.0 c.side_point-x.result.1 (pos 0) ≡ side_point joint.side (face_data c.face_of-parent.result.now) joint.at (pos 2 *ℤ c.args.q) = simp to_z-of_z at c.side_point-x.ensures.value in
    simp to_z-of_z (flat_step_is faces c.args.q c.args.bend joint _ _ _ _ c.joint_of-joint.ensures.value c.face_of-parent.ensures.value c.quarter_turns_of.ensures.value point)
