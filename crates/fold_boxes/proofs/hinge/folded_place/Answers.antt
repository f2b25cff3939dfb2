use Rattle.std.proofs.Common.{◌≡◌, ◌∙◌, ap, rules, arith, pos, ◌-ℤ◌, ◌*ℤ◌, neg_ℤ, List, map, to_z, of_z, w64, SFits}
use Rattle.std.proofs.lemmas.Int.{ints, to_z-of_z}
use Rattle.brake_base.specs.Vectors.{vector}
use Rattle.part_file.specs.Part.{FaceData, face_data, part_data, half_thickness}
use Rattle.unfolder.specs.Cores.{side_point}
use Rattle.unfolder.specs.Design.{fold_sign}
use Rattle.fold_boxes.proofs.Columns.{folded_shift, design_step_is}
use Rattle.fold_boxes.proofs.hinge.folded_place.Goals as goal

pub returns-clause-value : goal.returns-clause-value
returns-clause-value c =
    let faces : List FaceData = map face_data c.args.part.now.faces.items in
    let joint = c.joint_of-joint.result in
    let parent = face_data c.face_of-parent.result.now in
    let tau = half_thickness (part_data c.args.part.now) in
    let tau_is = c.half_thickness-tau.ensures.value in
    let low = c.half_thickness-tau.ensures.low in
    let high = c.half_thickness-tau.ensures.high in
    let at_fits : SFits w64 joint.at = search rules in
    let tau_fits : SFits w64 c.half_thickness-tau.result = search rules in
    let x_fits : SFits w64 c.side_point-x.result.0 = search rules in
    let y_fits : SFits w64 c.side_point-x.result.1 = search rules in
    let z_fits : SFits w64 c.along_normal.result = search rules in
    let point : vector c.side_point-x.result.0 c.side_point-x.result.1 (pos 0) ≡ side_point joint.side parent joint.at c.half_thickness-tau.result = simp to_z-of_z at c.side_point-x.ensures.value in
    let down : to_z w64 (of_z w64 (pos 0 -ℤ to_z w64 (of_z w64 c.half_thickness-tau.result))) ≡ neg_ℤ tau = omega (arith, ints) in
    let height : c.along_normal.result ≡ fold_sign joint.dir *ℤ neg_ℤ tau = c.along_normal.ensures.value ∙ ap (λ x. fold_sign joint.dir *ℤ x) down in
    let x = to_z-of_z w64 c.side_point-x.result.0 x_fits in
    let y = to_z-of_z w64 c.side_point-x.result.1 y_fits in
    let z = to_z-of_z w64 c.along_normal.result z_fits in
    let shift = folded_shift joint.dir c.side_point-x.result.0 c.side_point-x.result.1 c.along_normal.result tau _ (point ∙ ap (side_point joint.side parent joint.at) tau_is) height in
    let step = design_step_is faces tau c.args.bend joint parent _ c.joint_of-joint.ensures.value c.face_of-parent.ensures.value shift in
    (λ i. record { turn = c.folded_turn.ensures i; shift = vector (x i) (y i) (z i) }) ∙ step

pub returns-clause-near : goal.returns-clause-near
returns-clause-near c =
    let x = c.side_point-x.ensures.near_x in
    let y = c.side_point-x.ensures.near_y in
    let z = c.along_normal.ensures.near in
    record { x = omega (arith, ints, x.low, x.high); y = omega (arith, ints, y.low, y.high); z = omega (arith, ints, z.low, z.high) }
