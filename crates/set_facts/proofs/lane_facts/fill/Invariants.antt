use Rattle.std.proofs.Common.{◌^◌, ◌≤◌}
use Rattle.job_setup.specs.Setup.{bend_count}
use Rattle.set_facts.specs.LaneFacts.{AreFilled}
use Rattle.set_facts.proofs.lane_facts.fill.Given as goal

abbrev pub invariant-loop-left : goal.invariant-loop-left
invariant-loop-left l = record {
  within : l.left ≤ 2 ^ bend_count l.job;
  few : l.left ≤ 4096;
  filled : AreFilled l.job l.left l.sets.items;
}

abbrev pub decreases-loop-left : goal.decreases-loop-left
decreases-loop-left l = l.left
