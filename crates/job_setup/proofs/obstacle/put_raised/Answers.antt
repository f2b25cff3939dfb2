use Rattle.std.proofs.Common.{to_z, of_z, w64, arith}
use Rattle.job_setup.specs.Obstacles.{raised_box}
use Rattle.job_setup.proofs.BoxByBox.{mapped_more}
use Rattle.job_setup.proofs.obstacle.put_raised.Goals as goal

pub loop-one-preserved : goal.loop-one-preserved
loop-one-preserved c = record {
  count = omega (arith, c.push.ensures.len, c.loop-one.invariant.count);
  value = mapped_more (raised_box (to_z w64 (of_z w64 c.args.by))) c.args.fixed.now c.loop-one.one-index _ c.raised_box.result _ _ _ c.loop-one-test.true c.raised_box.ensures c.push.ensures.items c.loop-one.invariant.value;
}
