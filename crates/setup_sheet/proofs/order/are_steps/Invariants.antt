-- The steps are told where those left are, from the key so far.
use Rattle.std.proofs.Common.{◌<◌, drop}
use Rattle.job_setup.specs.Setup.{stage_count}
use Rattle.handling_cost.specs.StepCost.{IsKeyOf}
use Rattle.handling_cost.specs.Plan.{start}
use Rattle.setup_sheet.specs.OrderSheet.{AreSteps}
use Rattle.setup_sheet.proofs.order.are_steps.Given as goal

abbrev pub invariant-loop-step : goal.invariant-loop-step
invariant-loop-step l = record {
  range : 0 < stage_count l.job → IsKeyOf l.job l.key;
  whole : AreSteps l.job l.key (drop l.step-index l.steps) → AreSteps l.job start l.steps;
  left : AreSteps l.job start l.steps → AreSteps l.job l.key (drop l.step-index l.steps);
}
