use Rattle.std.proofs.Common.{◌+◌, ◌*◌, sym, ap, ◌∙◌}
use Rattle.action_lanes.specs.Costs.{cost_at}
use Rattle.action_lanes.proofs.CostLemmas.{place_is}
use Rattle.action_lanes.proofs.costs.ActionCosts.cost.Goals as goal

pub returns : goal.returns
returns c =
    let stage = c.args.action.stage in
    c.cost.ensures ∙ c.lanes.ensures.lanes stage c.requires.stage
    ∙ ap (cost_at c.args.self.now) (ap (λ side. 8 * side + stage) c.side.ensures.value ∙ sym (place_is c.args.action))
