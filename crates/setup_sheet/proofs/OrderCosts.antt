-- How much the steps of an order sheet cost at most, in tenths of a second.
use Rattle.std.proofs.Common.{ℕ, ◌*◌, ◌≤◌, List, [], ◌∷◌, arith}
use Rattle.brake_base.specs.declared.stroke.Key.{Key}
use Rattle.brake_base.specs.declared.stroke.Step.{Step}
use Rattle.job_setup.specs.Setup.{JobData}
use Rattle.job_setup.specs.ValidJob.{IsJob}
use Rattle.handling_cost.specs.StepCost.{IsKeyOf, left, key_after}
use Rattle.handling_cost.specs.Plan.{AreActions, total, start}
use Rattle.handling_cost.proofs.Actions.{few_bends, few_left, fewer_left}
use Rattle.handling_cost.proofs.Keys.{next_in_range, start_in_range}
use Rattle.handling_cost.proofs.Small.{cost_small}

module _ (job : JobData) (is_job : IsJob job) where
  actions_small : (key : Key) (steps : List Step) → IsKeyOf job key → AreActions job key steps → total job key steps ≤ left job key * 8000000
  actions_small key [] in_range are = omega arith
  actions_small key (step ∷ steps) in_range are =
      let less = fewer_left job (few_bends job is_job) key step.action are.0 in
      let first = cost_small job is_job key step.action in_range are.0 in
      let others = actions_small (key_after job key step.action) steps (next_in_range job is_job key step.action in_range are.0) are.1 in
      omega (arith, less, first, others)

  pub steps_small : (steps : List Step) → AreActions job start steps → total job start steps ≤ 96000000
  steps_small steps are =
      let all = actions_small start steps (start_in_range job is_job) are in
      let few = few_left job is_job start in
      omega (arith, all, few)
