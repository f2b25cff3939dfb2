use Rattle.sweep_check.specs.FirstReasons.{pose_of_boxes}
use Rattle.sweep_check.proofs.Sweeps.{self_none, self_some}
use Rattle.sweep_check.proofs.kinds.first_of_halves.Goals as goal

pub returns-in-Some : goal.returns-in-Some
returns-in-Some c = λ back stage.
    let job = c.args.job.now in
    let boxes = c.args.boxes.now in
    self_some job (pose_of_boxes boxes) back stage c.in-Some.hit c.in-Some.ensures

pub returns-in-None : goal.returns-in-None
returns-in-None c = λ back stage. self_none c.args.job.now (pose_of_boxes c.args.boxes.now) back stage c.in-None.ensures
