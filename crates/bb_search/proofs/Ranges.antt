-- The numbers in the steps of a plan are within the ranges of a certificate.
use Rattle.std.proofs.Common.{◌≤◌, List, [], ◌∷◌, length, not, arith}
use Rattle.std.specs.Prelude.{All}
use Rattle.std.proofs.lemmas.List.Elements.{All-nil, All-cons}
use Rattle.brake_base.specs.declared.stroke.Key.{Key}
use Rattle.brake_base.specs.declared.stroke.Step.{Step}
use Rattle.brake_base.specs.Masks.{has}
use Rattle.job_setup.specs.Setup.{JobData, bend_count}
use Rattle.job_setup.specs.ValidJob.{IsJob}
use Rattle.handling_cost.specs.StepCost.{left, key_after}
use Rattle.handling_cost.specs.Plan.{IsLegal, IsRest}
use Rattle.handling_cost.proofs.Actions.{few_bends, fewer_left}
use Rattle.handling_cost.proofs.Legal.{gauge_within}
use Rattle.handling_cost.proofs.Counts.{at_most_all}
use Rattle.plan_lines.specs.LinesFit.{IsStep}

step_ranged : (job : JobData) (key : Key) (step : Step) → IsLegal job key step → IsStep job step
step_ranged job key step legal =
    let faces = gauge_within job key.mask step.action step.gauge legal.gauge in
    record {
      action = record { first = legal.action.first; last = legal.action.last; stage = legal.action.stage };
      left = omega (arith, faces.0);
      right = omega (arith, faces.1);
    }

-- the steps of a rest are within the ranges of a certificate
pub steps_ranged : (job : JobData) (key : Key) (steps : List Step) → IsRest job key steps → All (IsStep job) steps
steps_ranged job key [] rest = All-nil (IsStep job)
steps_ranged job key (step ∷ steps) rest = All-cons (IsStep job) step steps (step_ranged job key step rest.0) (steps_ranged job (key_after job key step.action) steps rest.1)

-- each step of a rest folds a bend
steps_few : (job : JobData) → IsJob job → (key : Key) (steps : List Step) → IsRest job key steps → length steps ≤ left job key
steps_few job is_job key [] rest = omega arith
steps_few job is_job key (step ∷ steps) rest =
    let less = fewer_left job (few_bends job is_job) key step.action rest.0.action in
    let others = steps_few job is_job (key_after job key step.action) steps rest.1 in
    omega (arith, less, others)

all_left : (job : JobData) (key : Key) → left job key ≤ bend_count job
unfolding left
all_left job key = at_most_all (λ c. not (has key.mask c)) 1 (bend_count job)

-- a rest has at most a step for each bend
pub steps_most : (job : JobData) → IsJob job → (key : Key) (steps : List Step) → IsRest job key steps → length steps ≤ bend_count job
steps_most job is_job key steps rest = let few = steps_few job is_job key steps rest in let all = all_left job key in omega (arith, few, all)
