use Rattle.std.proofs.Common.{refl}
use Rattle.fold_boxes.specs.Pose.{pose_data}
use Rattle.sweep_check.proofs.Tests.{clash}
use Rattle.sweep_check.proofs.FirstHits.{each_more, each_all, least_at}
use Rattle.stroke_table.specs.Gauging.{MakesPair}
use Rattle.stroke_table.proofs.LegalBoxes.{among_at, left_may_be}
use Rattle.stroke_table.proofs.gauging.first_right.Goals as goal

pub returns-then-not-may_be_left : goal.returns-then-not-may_be_left
returns-then-not-may_be_left c = λ k d inside legal.
    clash c.may_be_left.result c.if-not-may_be_left.true (c.may_be_left.ensures.1 (left_may_be c.args.job.now (pose_data c.args.pose.now) c.args.boxes.now c.requires.boxes c.requires.ascend c.args.left.now c.requires.left _ refl legal))

pub is_pair-requires-clause-right : goal.is_pair-requires-clause-right
is_pair-requires-clause-right c = among_at c.args.boxes.now c.loop-right.right-index _ c.loop-right-test.true

pub returns-then-is_pair : goal.returns-then-is_pair
returns-then-is_pair c =
    least_at (λ body. body.id) (MakesPair c.args.job.now (pose_data c.args.pose.now) c.args.left.now) c.args.boxes.now c.loop-right.right-index _ c.loop-right-test.true c.requires.ascend (c.is_pair.ensures.0 c.if-is_pair.true) c.loop-right.invariant

pub loop-right-preserved : goal.loop-right-preserved
loop-right-preserved c =
    each_more (λ right. MakesPair c.args.job.now (pose_data c.args.pose.now) c.args.left.now right → ⊥) c.args.boxes.now c.loop-right.right-index _ c.loop-right-test.true (λ legal. clash c.is_pair.result c.if-is_pair.false (c.is_pair.ensures.1 legal)) c.loop-right.invariant

pub returns : goal.returns
returns c = each_all (λ right. MakesPair c.args.job.now (pose_data c.args.pose.now) c.args.left.now right → ⊥) c.args.boxes.now c.loop-right.right-index c.loop-right-test.false c.loop-right.invariant
