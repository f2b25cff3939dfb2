-- A plan has few steps.
use Rattle.std.proofs.Common.{◌≤◌, List, [], ◌∷◌, length, arith}
use Rattle.brake_base.specs.declared.stroke.Key.{Key}
use Rattle.brake_base.specs.declared.stroke.Step.{Step}
use Rattle.job_setup.specs.Setup.{JobData}
use Rattle.job_setup.specs.ValidJob.{IsJob}
use Rattle.handling_cost.specs.StepCost.{left, key_after}
use Rattle.handling_cost.specs.Plan.{AreActions, start}
use Rattle.handling_cost.proofs.Actions.{few_bends, few_left, fewer_left}

module _ (job : JobData) (is_job : IsJob job) where
  actions_few : (key : Key) (steps : List Step) → AreActions job key steps → length steps ≤ left job key
  actions_few key [] are = omega arith
  actions_few key (step ∷ steps) are =
      let less = fewer_left job (few_bends job is_job) key step.action are.0 in
      let others = actions_few (key_after job key step.action) steps are.1 in
      omega (arith, less, others)

  pub steps_few : (steps : List Step) → AreActions job start steps → length steps ≤ 12
  steps_few steps are =
      let all = actions_few start steps are in
      let few = few_left job is_job start in
      omega (arith, all, few)
