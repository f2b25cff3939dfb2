use Rattle.std.proofs.Common.{get_or}
use Rattle.fold_boxes.specs.Pose.{pose_data}
use Rattle.sweep_check.proofs.FirstHits.{each_more, each_all, least_at}
use Rattle.stroke_table.proofs.LegalBoxes.{among_at, HasPair, no_pair, none_legal, first_legal, some_pair}
use Rattle.stroke_table.proofs.gauging.first_pair.Goals as goal

pub first_right-requires-clause-left : goal.first_right-requires-clause-left
first_right-requires-clause-left c = among_at c.args.boxes.now c.loop-left.left-index _ c.loop-left-test.true

pub returns-in-Some : goal.returns-in-Some
returns-in-Some c =
    let job = c.args.job.now in
    let pose = pose_data c.args.pose.now in
    let boxes = c.args.boxes.now in
    let i = c.loop-left.left-index in
    let first = least_at (λ body. body.id) (HasPair job pose) boxes c.loop-left.left-index _ c.loop-left-test.true c.requires.ascend (some_pair job pose boxes c.requires.boxes (get_or boxes i _) _ c.in-Some.ensures) c.loop-left.invariant in
    first_legal job pose boxes c.requires.boxes (get_or boxes i _) _ c.in-Some.ensures first.1

pub loop-left-preserved : goal.loop-left-preserved
loop-left-preserved c =
    let job = c.args.job.now in
    let pose = pose_data c.args.pose.now in
    let boxes = c.args.boxes.now in
    let i = c.loop-left.left-index in
    each_more (λ left. HasPair job pose left → ⊥) boxes i _ c.loop-left-test.true (no_pair job pose boxes c.requires.boxes (get_or boxes i _) c.first_right.result c.in_default.is c.first_right.ensures) c.loop-left.invariant

pub returns : goal.returns
returns c =
    let job = c.args.job.now in
    let pose = pose_data c.args.pose.now in
    none_legal job pose c.args.boxes.now c.requires.boxes (each_all (λ left. HasPair job pose left → ⊥) c.args.boxes.now c.loop-left.left-index c.loop-left-test.false c.loop-left.invariant)
