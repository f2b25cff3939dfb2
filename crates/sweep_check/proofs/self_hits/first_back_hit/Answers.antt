use Rattle.std.proofs.Common.{get_or}
use Rattle.sweep_check.proofs.FirstHits.{each_more, each_all}
use Rattle.sweep_check.proofs.BackHits.{AreUnmet, none_met, all_unmet, first_box}
use Rattle.sweep_check.proofs.self_hits.first_back_hit.Goals as goal

pub returns-in-Some : goal.returns-in-Some
returns-in-Some c = first_box c.args.job.now c.args.boxes.now c.args.obstacles.now c.loop-body.body-index _ _ c.loop-body-test.true c.requires.boxes.ascend c.in-Some.ensures c.loop-body.invariant

pub loop-body-preserved : goal.loop-body-preserved
loop-body-preserved c =
    let job = c.args.job.now in
    let obstacles = c.args.obstacles.now in
    let boxes = c.args.boxes.now in
    let i = c.loop-body.body-index in
    each_more (AreUnmet job obstacles) boxes i _ c.loop-body-test.true (none_met job obstacles (get_or boxes i _) c.first_of_back.result c.in_default.is c.first_of_back.ensures) c.loop-body.invariant

pub returns : goal.returns
returns c = all_unmet c.args.job.now c.args.boxes.now c.args.obstacles.now (each_all (AreUnmet c.args.job.now c.args.obstacles.now) c.args.boxes.now c.loop-body.body-index c.loop-body-test.false c.loop-body.invariant)
