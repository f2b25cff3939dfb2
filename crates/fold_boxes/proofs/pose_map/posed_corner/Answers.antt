use Rattle.std.proofs.Common.{◌≡◌, ◌∙◌, ap, ◌+ℤ◌, ◌-ℤ◌, ◌*ℤ◌, pos, neg_ℤ, to_z, of_z, w64, SFits, List, rules, arith}
use Rattle.std.specs.Prelude.{if◌then◌else◌}
use Rattle.std.proofs.lemmas.Int.{ints, to_z-of_z}
use Rattle.part_file.specs.Part.{PartData, FaceData, half_thickness}
use Rattle.unfolder.specs.Cores.{joint_of}
use Rattle.fold_boxes.specs.Pose.{start_of_span, back_sign}
use Rattle.fold_boxes.proofs.PoseEffect.{corner_is}
use Rattle.fold_boxes.proofs.pose_map.posed_corner.Goals as goal

pub returns-clause-value : goal.returns-clause-value
returns-clause-value c =
    let shape = c.args.shape.now in
    let lead = c.args.lead in
    let joint = c.joint_of-joint.result in
    let lines = c.span-lines.result in
    let right = c.runs_right.result in
    let faces_are = ap (λ (p : PartData). p.faces) c.part.ensures.value in
    let joint_is : joint ≡ joint_of shape.part.faces lead = c.joint_of-joint.ensures.value ∙ ap (λ (fs : List FaceData). joint_of fs lead) faces_are in
    let begin = c.start_of_span.ensures.near in
    let along = c.from_left.ensures.near in
    let across = c.from_lines.ensures.near in
    let x : to_z w64 (of_z w64 (to_z w64 (of_z w64 c.start_of_span.result) +ℤ to_z w64 (of_z w64 c.from_left.result))) ≡ c.start_of_span.result +ℤ c.from_left.result =
    omega (arith, ints, begin.low, begin.high, along.low, along.high) in
    let y : to_z w64 (of_z w64 c.from_lines.result) ≡ c.from_lines.result = omega (arith, ints, across.low, across.high) in
    let z : to_z w64 (of_z w64 (pos 0 -ℤ to_z w64 (of_z w64 c.half_thickness.result))) ≡ neg_ℤ c.half_thickness.result = omega (arith, ints, c.half_thickness.ensures.low, c.half_thickness.ensures.high) in
    let from = c.requires.from in
    let to = c.requires.to in
    let along_side = c.joint_of-joint.ensures.at in
    let x0 : to_z w64 (of_z w64 c.args.x0) ≡ c.args.x0 = omega (arith, ints, from.low, from.high) in
    let x1 : to_z w64 (of_z w64 c.args.x1) ≡ c.args.x1 = omega (arith, ints, to.low, to.high) in
    let at : to_z w64 (of_z w64 joint.at) ≡ joint.at = omega (arith, ints, along_side.low, along_side.high) in
    let q_fits : SFits w64 c.q.result = search rules in
    let q : to_z w64 (of_z w64 c.q.result) ≡ c.q.result = to_z-of_z w64 c.q.result q_fits in
    corner_is shape c.args.group c.args.back c.args.x0 c.args.x1 lead joint lines right _ _ _ c.requires.lead joint_is c.span-lines.ensures.value c.span-lines.ensures.near.in_order c.runs_right.ensures
    (x ∙ (λ i. c.start_of_span.ensures.value i +ℤ c.from_left.ensures.value i) ∙ (λ i. start_of_span lines (x0 i) (x1 i) +ℤ (if right then at i -ℤ lines.0 else lines.1 -ℤ at i)))
    (y ∙ c.from_lines.ensures.value ∙ ap (λ d. back_sign c.args.back *ℤ neg_ℤ d) (q ∙ c.q.ensures.value))
    (z ∙ ap neg_ℤ (c.half_thickness.ensures.value ∙ ap half_thickness c.part-2.ensures.value))

pub returns-clause-near_x : goal.returns-clause-near_x
returns-clause-near_x c =
    let begin = c.start_of_span.ensures.near in
    let along = c.from_left.ensures.near in
    record { low = omega (arith, ints, begin.low, begin.high, along.low, along.high); high = omega (arith, ints, begin.low, begin.high, along.low, along.high) }

pub returns-clause-near_z : goal.returns-clause-near_z
returns-clause-near_z c =
    let low = c.half_thickness.ensures.low in
    let high = c.half_thickness.ensures.high in
    record { low = omega (arith, ints, low, high); high = omega (arith, ints, low, high) }
