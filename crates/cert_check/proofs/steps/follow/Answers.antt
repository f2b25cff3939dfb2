use Rattle.std.proofs.Common.{sym, ap, subst, arith}
use Rattle.brake_base.specs.declared.stroke.Key.{Key}
use Rattle.handling_cost.specs.StepCost.{IsKeyOf}
use Rattle.handling_cost.specs.Plan.{start, total}
use Rattle.handling_cost.proofs.Keys.{start_in_range}
use Rattle.handling_cost.proofs.PlanSteps.{next_total}
use Rattle.cert_check.proofs.StepLemmas.{Leads, leads_start, leads_on, bad_here}
use Rattle.cert_check.proofs.steps.follow.Goals as goal

pub loop-index-init : goal.loop-index-init
loop-index-init c =
    let job = c.args.job.now in
    let steps = c.args.steps.now in
    let same = ap (λ (k : Key). total job k steps) c.start_key-key.ensures in
    record {
      leads = subst (Leads job start steps 0) (sym c.start_key-key.ensures) (leads_start job start steps);
      range = subst (IsKeyOf job) (sym c.start_key-key.ensures) (start_in_range job c.recall_valid.ensures);
      cost = omega (arith, same);
      small = omega arith;
    }

pub returns-in-Some-clause-answer : goal.returns-in-Some-clause-answer
returns-in-Some-clause-answer c =
    bad_here c.args.job.now start c.loop-index.key c.args.steps.now c.loop-index.index _ c.loop-index-test.true c.loop-index.invariant.leads c.in-Some.fault c.in-Some.ensures.fault

pub loop-index-preserved : goal.loop-index-preserved
loop-index-preserved c =
    let job = c.args.job.now in
    let key = c.loop-index.key in
    let steps = c.args.steps.now in
    let i = c.loop-index.index in
    let sum = next_total job key steps i _ c.loop-index-test.true c.next_key-key.result c.next_key-key.ensures.value in
    let cost = c.step_cost-cost.ensures.value in
    let so_far = c.loop-index.invariant.cost in
    let small = c.loop-index.invariant.small in
    let step = c.step_cost-cost.ensures.small in
    record {
      leads = leads_on job start key steps i _ c.loop-index-test.true c.loop-index.invariant.leads c.next_key-key.result c.next_key-key.ensures.value c.in_default.ensures.legal;
      range = c.next_key-key.ensures.range;
      cost = omega (arith, sum, cost, so_far);
      small = omega (arith, small, step);
    }
