use Rattle.std.proofs.Common.{rules}
use Rattle.action_lanes.proofs.CostLemmas.{set_costs}
use Rattle.action_lanes.proofs.costs.ActionCosts.set_lanes.Goals as goal

pub returns : goal.returns
returns c = record { costs = rw c.from.ensures (set_costs c.args.self.now c.args.side c.args.costs (search rules) (search rules)) }
