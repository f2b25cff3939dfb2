use Rattle.std.proofs.Common.{◌∙◌, ◌+◌, ◌≤◌, ap, arith}
use Rattle.job_setup.specs.Setup.{SetupData}
use Rattle.handling_cost.specs.StepCost.{change, change_cost, cost_to}
use Rattle.handling_cost.proofs.Small.{prices, change_small}
use Rattle.handling_cost.proofs.costs.cost_to.Goals as goal

pub overflow_add-result : goal.overflow_add-result
overflow_add-result c =
    let costs = ap (λ (s : SetupData). s.cost.stroke) c.setup.ensures.value in
    let stroke = (prices c.args.job.now.setup.cost c.setup.ensures.valid.setup.rules.cost).stroke in
    let turn : c.change_cost.result ≤ 1000000 = rw (c.change_cost.ensures, ap (λ (s : SetupData). s.cost) c.setup.ensures.value) (change_small c.args.job.now.setup.cost c.setup.ensures.valid.setup.rules.cost (change c.args.key.now.attitude c.args.attitude)) in
    omega (arith, costs, stroke, turn)

pub overflow_add-result-2 : goal.overflow_add-result-2
overflow_add-result-2 c =
    let costs = ap (λ (s : SetupData). s.cost.stroke) c.setup.ensures.value in
    let stroke = (prices c.args.job.now.setup.cost c.setup.ensures.valid.setup.rules.cost).stroke in
    let turn : c.change_cost.result ≤ 1000000 = rw (c.change_cost.ensures, ap (λ (s : SetupData). s.cost) c.setup.ensures.value) (change_small c.args.job.now.setup.cost c.setup.ensures.valid.setup.rules.cost (change c.args.key.now.attitude c.args.attitude)) in
    let way = c.stage_cost.ensures.small in
    omega (arith, costs, stroke, turn, way)

pub returns-clause-value : goal.returns-clause-value
unfolding cost_to
returns-clause-value c =
    let costs = ap (λ (s : SetupData). s.cost) c.setup.ensures.value in
    let turn = c.change_cost.ensures ∙ ap (λ k. change_cost k (change c.args.key.now.attitude c.args.attitude)) costs in
    λ i. (costs i).stroke + turn i + c.stage_cost.ensures.value i

pub returns-clause-small : goal.returns-clause-small
returns-clause-small c =
    let costs = ap (λ (s : SetupData). s.cost.stroke) c.setup.ensures.value in
    let stroke = (prices c.args.job.now.setup.cost c.setup.ensures.valid.setup.rules.cost).stroke in
    let turn : c.change_cost.result ≤ 1000000 = rw (c.change_cost.ensures, ap (λ (s : SetupData). s.cost) c.setup.ensures.value) (change_small c.args.job.now.setup.cost c.setup.ensures.valid.setup.rules.cost (change c.args.key.now.attitude c.args.attitude)) in
    let way = c.stage_cost.ensures.small in
    omega (arith, costs, stroke, turn, way)
