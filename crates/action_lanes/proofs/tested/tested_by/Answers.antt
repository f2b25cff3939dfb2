use Rattle.action_lanes.specs.Costs.{sum_costs}
use Rattle.action_lanes.proofs.SumLemmas.{above_first}
use Rattle.action_lanes.proofs.tested.tested_by.Goals as goal

pub returns-clause-tested : goal.returns-clause-tested
returns-clause-tested c =
    (c.tested_until.ensures (sum_costs c.args.sums.now c.args.slack.now) (above_first c.args.leads c.args.sums.now c.args.slack.now)
    c.requires.best c.equal_sum-giving.ensures.places).tested

pub returns-clause-rest : goal.returns-clause-rest
returns-clause-rest c =
    (c.tested_until.ensures (sum_costs c.args.sums.now c.args.slack.now) (above_first c.args.leads c.args.sums.now c.args.slack.now)
    c.requires.best c.equal_sum-giving.ensures.places).rest

pub returns-clause-most : goal.returns-clause-most
returns-clause-most c =
    (c.tested_until.ensures (sum_costs c.args.sums.now c.args.slack.now) (above_first c.args.leads c.args.sums.now c.args.slack.now)
    c.requires.best c.equal_sum-giving.ensures.places).most
