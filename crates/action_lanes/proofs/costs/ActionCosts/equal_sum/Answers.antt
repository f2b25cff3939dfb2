use Rattle.std.proofs.Common.{◌&&◌, ◌==◌}
use Rattle.action_lanes.specs.Costs.{cost_at, sum_costs, is_of}
use Rattle.action_lanes.proofs.WordLemmas.{words_are}
use Rattle.action_lanes.proofs.costs.ActionCosts.equal_sum.Goals as goal

pub returns : goal.returns
returns c = record {
  places = words_are c.equal_sum_in.result c.equal_sum_in-2.result c.equal_sum_in-3.result (λ place. is_of c.args.bends place && (cost_at (sum_costs c.args.self.now c.args.other.now) place == c.args.cost))
      c.equal_sum_in.ensures.bits c.equal_sum_in-2.ensures.bits c.equal_sum_in-3.ensures.bits;
}
