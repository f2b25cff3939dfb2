use Rattle.std.proofs.Common.{arith}
use Rattle.job_setup.proofs.BoxByBox.{numbered_more}
use Rattle.sheet_views.specs.Stations.{tool_of}
use Rattle.sheet_views.proofs.stations.numbered.Goals as goal

pub loop-body-preserved : goal.loop-body-preserved
loop-body-preserved c = record {
  count = omega (arith, c.push.ensures.len, c.loop-body.invariant.count);
  value = numbered_more tool_of c.args.boxes.now c.loop-body.body-index c.len.result _ c.tool_of.result _ _ c.loop-body-test.true (omega (arith, c.len.ensures.value, c.loop-body.invariant.count)) c.tool_of.ensures c.push.ensures.items c.loop-body.invariant.value;
}
