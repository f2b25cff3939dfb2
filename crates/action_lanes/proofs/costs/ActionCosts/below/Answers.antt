use Rattle.std.proofs.Common.{◌&&◌, nat_lt}
use Rattle.action_lanes.specs.Costs.{cost_at, is_of}
use Rattle.action_lanes.proofs.WordLemmas.{words_are}
use Rattle.action_lanes.proofs.costs.ActionCosts.below.Goals as goal

pub returns : goal.returns
returns c = record {
  places = words_are c.below_in.result c.below_in-2.result c.below_in-3.result (λ place. is_of c.args.bends place && nat_lt (cost_at c.args.self.now place) c.args.cost)
      c.below_in.ensures.bits c.below_in-2.ensures.bits c.below_in-3.ensures.bits;
}
