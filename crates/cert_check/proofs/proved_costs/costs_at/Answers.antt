use Rattle.std.proofs.Common.{◌<◌, ◌∙◌, arith, sym, ap, subst}
use Rattle.brake_base.specs.declared.stroke.Key.{Key}
use Rattle.job_setup.specs.Setup.{JobData, stage_count}
use Rattle.handling_cost.specs.Bound.{bound_of}
use Rattle.handling_cost.proofs.Small.{bound_small}
use Rattle.set_facts.specs.LaneFacts.{key_at}
use Rattle.cert_check.specs.ProvedCosts.{IsProvedCost}
use Rattle.cert_check.proofs.ProvedLemmas.{bound_lane, bound_held, lanes_on}
use Rattle.cert_check.proofs.proved_costs.costs_at.Goals as goal

pub cost_at-cost-requires-clause-bound : goal.cost_at-cost-requires-clause-bound
cost_at-cost-requires-clause-bound c =
    let job = c.args.job.now in
    let mask = c.args.mask in
    let stage = c.loop-stage.stage in
    let few = c.recall_valid.ensures.setup.stages.few_stages in
    let test = c.loop-stage-test.true in
    let end = c.stages-stage-end.ensures.value in
    let low : stage < stage_count job = omega (arith, test, end) in
    c.cost.ensures
    ∙ (bound_lane job c.args.facts.now mask stage c.bounds-bounds.result.0 c.requires.facts c.bounds-bounds.ensures.lanes low (omega (arith, few))
    ∙ (bound_held job mask c.args.attitude stage ∙ ap (λ (j : JobData). bound_of j (record { mask = mask; attitude = c.args.attitude; stage = stage })) (sym c.requires.rows)))

pub cost_at-cost-requires-clause-small : goal.cost_at-cost-requires-clause-small
cost_at-cost-requires-clause-small c =
    let job = c.args.job.now in
    let mask = c.args.mask in
    let stage = c.loop-stage.stage in
    let few = c.recall_valid.ensures.setup.stages.few_stages in
    let test = c.loop-stage-test.true in
    let end = c.stages-stage-end.ensures.value in
    let low : stage < stage_count job = omega (arith, test, end) in
    let bound = bound_lane job c.args.facts.now mask stage c.bounds-bounds.result.0 c.requires.facts c.bounds-bounds.ensures.lanes low (omega (arith, few)) in
    let small = bound_small job c.recall_valid.ensures (key_at mask stage) (record { mask = c.requires.mask; attitude = omega arith; stage = low }) in
    let is = c.cost.ensures in
    omega (arith, is, bound, small)

pub loop-stage-init : goal.loop-stage-init
loop-stage-init c = record {
  each = λ stage less. absurd (omega (arith, less));
  small = λ stage wide. let few = c.bounds-bounds.ensures.small stage wide in omega (arith, few);
}

pub loop-stage-preserved : goal.loop-stage-preserved
loop-stage-preserved c =
    let job = c.args.job.now in
    let mask = c.args.mask in
    let rows = c.args.rows.now.rows in
    let stage = c.loop-stage.stage in
    let key : Key = record { mask = mask; attitude = c.args.attitude; stage = stage } in
    let few = c.recall_valid.ensures.setup.stages.few_stages in
    let test = c.loop-stage-test.true in
    let end = c.stages-stage-end.ensures.value in
    lanes_on job rows mask c.args.attitude stage c.cost_at-cost.result c.loop-stage.costs.0 c.with-costs.result.0 c.loop-stage.invariant
    (subst (λ (j : JobData). IsProvedCost j rows key c.cost_at-cost.result) c.requires.rows c.cost_at-cost.ensures)
    c.with-costs.ensures.lanes (omega (arith, few, test, end))

pub returns : goal.returns
returns c = record {
  each = λ stage low. c.loop-stage.invariant.each stage (let test = c.loop-stage-test.false in let end = c.stages-stage-end.ensures.value in omega (arith, low, test, end));
  small = c.loop-stage.invariant.small;
}
