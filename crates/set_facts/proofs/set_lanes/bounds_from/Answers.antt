use Rattle.std.proofs.Common.{◌≡◌, arith}
use Rattle.job_setup.specs.Setup.{stage_count}
use Rattle.set_facts.proofs.SetLaneSteps.{bounds_by_stage}
use Rattle.set_facts.proofs.set_lanes.bounds_from.Goals as goal

pub returns : goal.returns
returns c =
    let all : c.loop-stage.stage ≡ stage_count c.args.job.now = omega (arith, c.loop-stage-test.false, c.loop-stage.auto.stage-end, c.stages-stage-end.ensures.value) in
    bounds_by_stage c.args.job.now c.args.mask c.loop-stage.bounds c.loop-stage.stage all c.loop-stage.invariant.each c.loop-stage.invariant.past
