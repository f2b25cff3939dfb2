use Rattle.action_lanes.proofs.CostLemmas.{lane_is}
use Rattle.action_lanes.proofs.costs.ActionCosts.lanes.Goals as goal

pub returns : goal.returns
returns c = record { lanes = rw c.from.ensures (lane_is c.args.self.now c.args.side) }
