-- The cost so far and that of the steps left are the cost of all, and the steps left are actions at the key so far.
use Rattle.std.proofs.Common.{◌≡◌, ◌+◌, ◌*◌, ◌≤◌, ◌<◌, drop}
use Rattle.job_setup.specs.ValidJob.{IsJob}
use Rattle.job_setup.specs.Setup.{stage_count}
use Rattle.handling_cost.specs.StepCost.{IsKeyOf, left}
use Rattle.handling_cost.specs.Plan.{start, total, AreActions}
use Rattle.handling_cost.proofs.costs.plan_cost.Given as goal

abbrev pub invariant-loop-step : goal.invariant-loop-step
invariant-loop-step l = record {
  actions : AreActions l.job l.key (drop l.step-index l.steps);
  range : 0 < stage_count l.job → IsKeyOf l.job l.key;
  cost : l.cost + total l.job l.key (drop l.step-index l.steps) ≡ total l.job start l.steps;
  small : IsJob l.job → l.cost + left l.job l.key * 8000000 ≤ 96000000;
}
