use Rattle.std.proofs.Common.{◌&&◌, ◌==◌}
use Rattle.action_lanes.specs.Costs.{cost_at, is_of}
use Rattle.action_lanes.proofs.WordLemmas.{words_are}
use Rattle.action_lanes.proofs.costs.ActionCosts.equal.Goals as goal

pub returns : goal.returns
returns c = record {
  places = words_are c.equal_in.result c.equal_in-2.result c.equal_in-3.result (λ place. is_of c.args.bends place && (cost_at c.args.self.now place == c.args.cost))
      c.equal_in.ensures.bits c.equal_in-2.ensures.bits c.equal_in-3.ensures.bits;
}
