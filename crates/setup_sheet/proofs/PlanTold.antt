-- The order sheet can tell every plan.
use Rattle.std.proofs.Common.{List, [], ◌∷◌}
use Rattle.brake_base.specs.declared.stroke.Key.{Key}
use Rattle.brake_base.specs.declared.stroke.Step.{Step}
use Rattle.job_setup.specs.Setup.{JobData}
use Rattle.handling_cost.specs.StepCost.{key_after}
use Rattle.handling_cost.specs.Plan.{IsLegal, IsRest}
use Rattle.handling_cost.proofs.Legal.{gauge_within}
use Rattle.setup_sheet.specs.OrderSheet.{IsStepAt, AreSteps}

-- a legal step is one that the sheet can tell
pub legal_told : (job : JobData) (key : Key) (step : Step) → IsLegal job key step → IsStepAt job key step
legal_told job key step legal =
    let there = gauge_within job key.mask step.action step.gauge legal.gauge in
    record { action = legal.action; left = there.0; right = there.1 }

pub rest_told : (job : JobData) (key : Key) (steps : List Step) → IsRest job key steps → AreSteps job key steps
rest_told job key [] rest = tt
rest_told job key (step ∷ steps) rest = (legal_told job key step rest.0, rest_told job (key_after job key step.action) steps rest.1)
