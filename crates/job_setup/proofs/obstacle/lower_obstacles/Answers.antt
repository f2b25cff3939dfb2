use Rattle.std.proofs.Common.{to_z, of_z, w64, arith}
use Rattle.job_setup.specs.Obstacles.{lower_obstacle}
use Rattle.job_setup.proofs.BoxByBox.{numbered_more}
use Rattle.job_setup.proofs.obstacle.lower_obstacles.Goals as goal

pub loop-fixed-preserved : goal.loop-fixed-preserved
loop-fixed-preserved c = record {
  count = omega (arith, c.push.ensures.len, c.loop-fixed.invariant.count);
  value = numbered_more (lower_obstacle (to_z w64 (of_z w64 c.args.thickness)) (to_z w64 (of_z w64 c.args.half_opening))) c.args.boxes.now c.loop-fixed.fixed-index c.len.result _ c.lower_obstacle.result _ _ c.loop-fixed-test.true (omega (arith, c.len.ensures.value, c.loop-fixed.invariant.count)) c.lower_obstacle.ensures c.push.ensures.items c.loop-fixed.invariant.value;
}
