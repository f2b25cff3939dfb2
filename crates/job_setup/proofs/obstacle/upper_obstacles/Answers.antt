use Rattle.std.proofs.Common.{to_z, of_z, w64, arith}
use Rattle.job_setup.specs.Obstacles.{upper_obstacle}
use Rattle.job_setup.proofs.BoxByBox.{numbered_more}
use Rattle.job_setup.proofs.obstacle.upper_obstacles.Goals as goal

pub loop-fixed-preserved : goal.loop-fixed-preserved
loop-fixed-preserved c = record {
  count = omega (arith, c.push.ensures.len, c.loop-fixed.invariant.count);
  value = numbered_more upper_obstacle c.args.boxes.now c.loop-fixed.fixed-index c.len.result _ c.upper_obstacle.result _ _ c.loop-fixed-test.true (omega (arith, c.len.ensures.value, c.loop-fixed.invariant.count)) c.upper_obstacle.ensures c.push.ensures.items c.loop-fixed.invariant.value;
}
