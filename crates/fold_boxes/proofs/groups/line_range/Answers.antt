use Rattle.std.proofs.Common.{◌≡◌, ◌∙◌, ap, sym, subst, List, pos, ◌-ℤ◌, ◌≤ℤ◌, arith}
use Rattle.std.proofs.lemmas.Int.{ints}
use Rattle.part_file.specs.Part.{PartData, FaceData}
use Rattle.unfolder.specs.declared.blank.FlatRect.{FlatRect}
use Rattle.unfolder.specs.Cores.{joint_of}
use Rattle.unfolder.proofs.FoldLaws.{core_is_wide}
use Rattle.fold_boxes.proofs.Folding.{cores_of_shape}
use Rattle.fold_boxes.proofs.Spans.{line_from_is, line_to_is}
use Rattle.fold_boxes.proofs.groups.line_range.Goals as goal

pub returns-clause-from : goal.returns-clause-from
returns-clause-from c =
    let shape = c.args.shape.now in
    let faces_are = ap (λ (p : PartData). p.faces) c.part.ensures.value in
    let joint : c.joint_of-joint.result ≡ joint_of shape.part.faces c.args.bend = c.joint_of-joint.ensures.value ∙ ap (λ (fs : List FaceData). joint_of fs c.args.bend) faces_are in
    let plain = line_from_is shape c.args.bend c.joint_of-joint.result c.core-core.result.now joint c.core-core.ensures.value in
    let near = c.core-core.ensures.near in
    let x0 = near.x0 in
    omega (arith, ints, plain, x0.low, x0.high, c.joint_of-joint.ensures.at)

pub returns-clause-to : goal.returns-clause-to
returns-clause-to c =
    let shape = c.args.shape.now in
    let faces_are = ap (λ (p : PartData). p.faces) c.part.ensures.value in
    let joint : c.joint_of-joint.result ≡ joint_of shape.part.faces c.args.bend = c.joint_of-joint.ensures.value ∙ ap (λ (fs : List FaceData). joint_of fs c.args.bend) faces_are in
    let plain = line_to_is shape c.args.bend c.joint_of-joint.result c.core-core.result.now joint c.core-core.ensures.value in
    let near = c.core-core.ensures.near in
    let x1 = near.x1 in
    omega (arith, ints, plain, x1.low, x1.high, c.joint_of-joint.ensures.at)

pub returns-clause-near : goal.returns-clause-near
returns-clause-near c =
    let shape = c.args.shape.now in
    let core_is = c.core-core.ensures.value in
    let near = c.core-core.ensures.near in
    let x0 = near.x0 in
    let x1 = near.x1 in
    let at = c.joint_of-joint.ensures.at in
    let cores = cores_of_shape shape c.core-core.ensures.rules in
    let wide : pos 1 ≤ℤ (c.core-core.result.now.x1 -ℤ c.core-core.result.now.x0) =
    subst (λ (r : FlatRect). pos 1 ≤ℤ (r.x1 -ℤ r.x0)) (sym core_is) (core_is_wide shape.part.faces shape.q c.args.bend (cores.fits c.args.bend c.requires.bend)) in
    record {
      from = record { low = omega (arith, ints, x0.low, x0.high, at.low, at.high); high = omega (arith, ints, x0.low, x0.high, at.low, at.high) };
      to = record { low = omega (arith, ints, x1.low, x1.high, at.low, at.high); high = omega (arith, ints, x1.low, x1.high, at.low, at.high) };
      in_order = omega (arith, ints, wide, x0.low, x0.high, x1.low, x1.high, at.low, at.high);
    }
