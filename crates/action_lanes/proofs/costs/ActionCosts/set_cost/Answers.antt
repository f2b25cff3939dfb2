use Rattle.std.proofs.Common.{◌+◌, ◌*◌, sym, ap, ◌∙◌}
use Rattle.action_lanes.proofs.CostLemmas.{place_is, set_one}
use Rattle.stage_lanes.specs.ActionSets.{place_of}
use Rattle.action_lanes.proofs.costs.ActionCosts.set_cost.Goals as goal

pub returns : goal.returns
returns c =
    let action = c.args.action in
    record {
      costs = set_one c.args.self.now c.set_lanes.new.self c.lanes.result.0 c.with-costs.result.0 c.side-side.result action.stage c.args.cost (place_of action)
          c.requires.stage (place_is action ∙ sym (ap (λ side. 8 * side + action.stage) c.side-side.ensures.value))
          c.lanes.ensures.lanes c.with-costs.ensures.lanes c.set_lanes.ensures.costs;
    }
