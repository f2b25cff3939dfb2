use Rattle.std.proofs.Common.{arith}
use Rattle.sweep_check.specs.FirstReasons.{pose_of_boxes}
use Rattle.sweep_check.proofs.Orders.{lifted, joined}
use Rattle.sweep_check.proofs.kinds.first_of_boxes.Goals as goal

pub returns-in-Some : goal.returns-in-Some
returns-in-Some c = λ back.
    let stage = c.args.around.now.stage in
    lifted c.args.job.now (pose_of_boxes c.args.boxes.now) back stage 3 3 6 c.in-Some.reason (omega arith) (c.in-Some.ensures back stage)

pub returns-in-None : goal.returns-in-None
returns-in-None c = λ back.
    let stage = c.args.around.now.stage in
    joined c.args.job.now (pose_of_boxes c.args.boxes.now) back stage 3 3 6 c.first_sweep.result (omega arith) (c.in-None.ensures back stage) (c.first_sweep.ensures back)
