use Rattle.std.proofs.Common.{◌≡◌, ◌<◌, ap, sym, subst, arith}
use Rattle.brake_base.specs.declared.stroke.Key.{Key}
use Rattle.handling_cost.specs.StepCost.{IsKeyOf, left}
use Rattle.handling_cost.specs.Plan.{start, total, AreActions}
use Rattle.handling_cost.proofs.Actions.{few_left, few_bends, fewer_left}
use Rattle.handling_cost.proofs.Keys.{start_ranged}
use Rattle.handling_cost.proofs.PlanSteps.{no_step, first_action, next_actions, next_total}
use Rattle.handling_cost.proofs.costs.plan_cost.Goals as goal

pub loop-step-init : goal.loop-step-init
loop-step-init c =
    let job = c.args.job.now in
    let key = c.start_key-key.result in
    let begins : key ≡ start = c.start_key-key.ensures in
    let same = ap (λ (k : Key). total job k c.args.steps.now) begins in
    record {
      actions = subst (λ (k : Key). AreActions job k c.args.steps.now) (sym begins) c.requires;
      range = λ some. subst (IsKeyOf job) (sym begins) (start_ranged job some);
      cost = omega (arith, same);
      small = λ is_job. let few = few_left job is_job key in omega (arith, few);
    }

pub step_cost_at-cost-requires-clause-key : goal.step_cost_at-cost-requires-clause-key
step_cost_at-cost-requires-clause-key c =
    let actions = c.loop-step.invariant.actions in
    let at = first_action c.args.job.now c.loop-step.key c.args.steps.now c.loop-step.step-index no_step c.loop-step-test.true actions in
    c.loop-step.invariant.range (omega (arith, at.stage))

pub loop-step-preserved : goal.loop-step-preserved
loop-step-preserved c =
    let job = c.args.job.now in
    let key = c.loop-step.key in
    let steps = c.args.steps.now in
    let i = c.loop-step.step-index in
    let within = c.loop-step-test.true in
    let next = c.next_key_at-key.result in
    let is = c.next_key_at-key.ensures.value in
    let actions = c.loop-step.invariant.actions in
    let sum = next_total job key steps i _ within next is in
    let cost = c.step_cost_at-cost.ensures.value in
    let so_far = c.loop-step.invariant.cost in
    record {
      actions = next_actions job key steps i _ within actions next is;
      range = λ some. c.next_key_at-key.ensures.range;
      cost = omega (arith, sum, cost, so_far);
      small = λ is_job.
          let before = c.loop-step.invariant.small is_job in
          let small = c.step_cost_at-cost.ensures.small in
          let less : left job next < left job key = rw is (fewer_left job (few_bends job is_job) key _ (first_action job key steps i _ within actions)) in
          omega (arith, before, small, less);
    }
