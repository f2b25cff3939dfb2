use Rattle.action_lanes.proofs.CostLemmas.{all_costs}
use Rattle.action_lanes.proofs.costs.ActionCosts.all.Goals as goal

pub returns : goal.returns
returns c = record { costs = all_costs c.all.result c.args.cost c.all.ensures.lanes }
