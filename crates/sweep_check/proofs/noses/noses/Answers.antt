use Rattle.std.proofs.Common.{◌∙◌, ap, arith}
use Rattle.job_setup.specs.declared.setup.Stage.{Stage}
use Rattle.job_setup.proofs.BoxByBox.{numbered_more}
use Rattle.sweep_check.specs.Hits.{stage_nose}
use Rattle.sweep_check.proofs.noses.noses.Goals as goal

pub loop-stage-preserved : goal.loop-stage-preserved
loop-stage-preserved c = record {
  count = omega (arith, c.push.ensures.len, c.loop-stage.invariant.count);
  value = numbered_more stage_nose c.args.stages.now c.loop-stage.stage-index c.len.result _ c.nose_of.result _ _ c.loop-stage-test.true (omega (arith, c.len.ensures.value, c.loop-stage.invariant.count))
      (c.nose_of.ensures ∙ ap (λ (s : Stage). stage_nose (c.len.result, s)) c.stage-item.is) c.push.ensures.items c.loop-stage.invariant.value;
}
