-- The text so far goes on with the lines of the steps left.
use Rattle.std.proofs.Common.{◌≡◌, ◌+◌, ◌<◌, ◌++◌, drop}
use Rattle.job_setup.specs.Setup.{stage_count}
use Rattle.handling_cost.specs.StepCost.{IsKeyOf}
use Rattle.handling_cost.specs.Plan.{start}
use Rattle.setup_sheet.specs.OrderSheet.{AreSteps, step_lines}
use Rattle.setup_sheet.proofs.order.put_steps.Given as goal

abbrev pub invariant-loop-i : goal.invariant-loop-i
invariant-loop-i l = record {
  range : 0 < stage_count l.job → IsKeyOf l.job l.key;
  left : AreSteps l.job l.key (drop l.i l.steps);
  text : l.out.items ++ step_lines l.job (l.i + 1) l.key (drop l.i l.steps) ≡ l.initial.out.items ++ step_lines l.job 1 start l.steps;
}
