use Rattle.std.proofs.Common.{◌≡◌, ◌∙◌, ap, rules, List, map, w64, SFits}
use Rattle.std.proofs.lemmas.Int.{to_z-of_z}
use Rattle.brake_base.specs.Turns.{map_of}
use Rattle.part_file.specs.declared.part.Joint.{Joint}
use Rattle.part_file.specs.Part.{FaceData, face_data, part_data}
use Rattle.unfolder.specs.Blank.{flat_step}
use Rattle.fold_boxes.specs.Shapes.{ShapeData}
use Rattle.fold_boxes.specs.Hinges.{column_over}
use Rattle.fold_boxes.proofs.Columns.{column_is}
use Rattle.fold_boxes.proofs.hinge.Hinge.new.Goals as goal

pub returns : goal.returns
returns c =
    let q_fits = c.ranges.q in
    let tau_fits : SFits w64 c.half_thickness.result = search rules in
    let faces : List FaceData = map face_data c.args.part.now.faces.items in
    let shape : ShapeData = record { part = part_data c.args.part.now; q = c.args.q } in
    let joint = c.joint_of-joint.result in
    let corner : c.corner.result ≡ column_over joint.side c.args.line.now c.args.q c.half_thickness.result = simp to_z-of_z at c.corner.ensures.value in
    let flat : map_of c.flat_place.result ≡ flat_step faces c.args.q c.args.bend = simp to_z-of_z at c.flat_place.ensures.value in
    let column = column_is shape c.args.bend c.args.line.now joint c.half_thickness.result c.requires.line c.joint_of-joint.ensures.value c.half_thickness.ensures.value in
    record {
      parent = ap (λ (j : Joint). j.on) c.joint_of-joint.ensures.value;
      earlier = c.joint_of-joint.ensures.rules.earlier;
      flat = flat;
      folded = c.folded_place.ensures.value;
      corner = corner ∙ column;
      flat_near = c.flat_place.ensures.near;
      folded_near = c.folded_place.ensures.near;
      corner_near = c.corner.ensures.near;
    }
