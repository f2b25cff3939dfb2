use Rattle.std.proofs.Common.{◌∙◌, ◌<◌, ℕ, Bool, false, length, length-set, arith}
use Rattle.brake_base.specs.Masks.{has}
use Rattle.job_setup.specs.StrokeGroup.{in_group}
use Rattle.job_setup.specs.StageOf.{stage_of}
use Rattle.job_setup.specs.Reasons.{meets}
use Rattle.set_facts.proofs.LaneTables.{set_more}
use Rattle.set_facts.proofs.set_lanes.meeting_of.Goals as goal

pub loop-stage-preserved : goal.loop-stage-preserved
loop-stage-preserved c =
    let job = c.args.job.now in
    let meets_here : ℕ → Bool = λ stage. meets job (in_group job (has c.args.mask) c.args.bend) (stage_of job stage) in
    let inside : c.loop-stage.stage < length c.loop-stage.meeting = omega (arith, c.loop-stage.invariant.count, c.loop-stage-test.true, c.stages-stage-end.ensures.few) in
    record {
      count = length-set c.loop-stage.meeting c.from.result c.meets_at.result ∙ c.loop-stage.invariant.count;
      each = λ stage below. rw c.from.ensures (set_more meets_here c.loop-stage.meeting c.loop-stage.stage c.meets_at.result false inside c.meets_at.ensures c.loop-stage.invariant.each stage below);
    }
