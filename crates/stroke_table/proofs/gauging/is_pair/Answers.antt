use Rattle.std.proofs.Common.{subst, sym}
use Rattle.std.specs.Prelude.{All}
use Rattle.fold_boxes.specs.Pose.{pose_data}
use Rattle.fold_boxes.specs.Posing.{IsNearPoseBox}
use Rattle.sweep_check.proofs.Tests.{clash}
use Rattle.stroke_table.proofs.LegalBoxes.{legal_boxes, near_among, right_may_be}
use Rattle.stroke_table.proofs.gauging.is_pair.Goals as goal

pub are_legal-requires-clause-left : goal.are_legal-requires-clause-left
are_legal-requires-clause-left c = near_among c.args.boxes.now (subst (All IsNearPoseBox) (sym c.requires.boxes) c.requires.near) c.args.left.now c.requires.left

pub are_legal-requires-clause-right : goal.are_legal-requires-clause-right
are_legal-requires-clause-right c = near_among c.args.boxes.now (subst (All IsNearPoseBox) (sym c.requires.boxes) c.requires.near) c.args.right.now c.requires.right

pub returns-then-may_be_right : goal.returns-then-may_be_right
returns-then-may_be_right c =
    let same = legal_boxes c.args.job.now (pose_data c.args.pose.now) c.args.boxes.now c.requires.boxes c.requires.ascend c.args.left.now c.args.right.now c.requires.left c.requires.right in
    (λ yes. same.0 (c.are_legal.ensures.0 yes), λ pair. c.are_legal.ensures.1 (same.1 pair))

pub returns-else-may_be_right : goal.returns-else-may_be_right
returns-else-may_be_right c = (
  λ yes. absurd (cc),
  λ legal. absurd (clash c.may_be_right.result c.if-may_be_right.false (c.may_be_right.ensures.1 (right_may_be c.args.job.now (pose_data c.args.pose.now) c.args.boxes.now c.requires.boxes c.requires.ascend c.args.left.now c.args.right.now c.requires.left c.requires.right legal))),
)
