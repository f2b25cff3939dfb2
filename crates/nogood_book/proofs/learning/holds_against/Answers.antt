use Rattle.fold_boxes.specs.Pose.{pose_data}
use Rattle.nogood_book.proofs.Posed.{pose_at_key, told_for}
use Rattle.nogood_book.proofs.learning.holds_against.Goals as goal

pub holds-requires-clause-pose : goal.holds-requires-clause-pose
holds-requires-clause-pose c = pose_at_key c.args.job.now c.pose_before.ensures.valid c.args.key.now c.args.action c.requires.action (pose_data c.pose_before.result) c.pose_before.ensures.value

pub returns : goal.returns
returns c =
    told_for c.args.job.now c.args.key.now.mask c.args.action c.args.reason c.holds.result
    (c.holds.ensures.exact (pose_at_key c.args.job.now c.pose_before.ensures.valid c.args.key.now c.args.action c.requires.action (pose_data c.pose_before.result) c.pose_before.ensures.value))
