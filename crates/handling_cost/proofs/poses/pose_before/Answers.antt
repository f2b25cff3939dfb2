use Rattle.std.proofs.Common.{length, ap, sym, subst, arith}
use Rattle.fold_boxes.specs.Shapes.{ShapeData}
use Rattle.fold_boxes.specs.Pose.{IsGroup, pose_data}
use Rattle.job_setup.specs.Setup.{shape_of}
use Rattle.handling_cost.proofs.Actions.{few_bends}
use Rattle.handling_cost.proofs.ActionGroups.{action_groups}
use Rattle.handling_cost.proofs.PosedFaces.{faces_boxed}
use Rattle.handling_cost.proofs.poses.pose_before.Goals as goal

pub pose-requires-clause-group : goal.pose-requires-clause-group
pose-requires-clause-group c =
    let job = c.args.job.now in
    let key = c.args.key.now in
    subst (λ (s : ShapeData). IsGroup s key.mask c.group-group.result) (sym c.shape.ensures.value)
    (subst (IsGroup (shape_of job) key.mask) (sym c.group-group.ensures.value) (action_groups job (few_bends job c.shape.ensures.valid) key c.args.action c.requires))

pub returns-clause-faces : goal.returns-clause-faces
returns-clause-faces c =
    let boxed = faces_boxed c.shape.result.now _ _ _ _ _ (pose_data c.pose.result) c.pose.ensures.value in
    let same = ap (λ (s : ShapeData). length s.part.faces) c.shape.ensures.value in
    omega (arith, boxed, same)
