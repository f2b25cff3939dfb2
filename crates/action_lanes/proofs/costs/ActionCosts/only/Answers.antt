use Rattle.action_lanes.proofs.CheapestLemmas.{side_only}
use Rattle.action_lanes.proofs.costs.ActionCosts.only.Goals as goal

pub loop-side-preserved : goal.loop-side-preserved
loop-side-preserved c =
    side_only c.args.self.now c.args.set c.loop-side.side c.stages_at-stages.result c.loop-side.costs c.set_lanes.new.self c.all.result.0 c.only-lanes.result.0 c.lanes.result.0
    c.stages_at-stages.ensures.stages c.lanes.ensures.lanes c.all.ensures.lanes c.only-lanes.ensures.lanes c.set_lanes.ensures.costs c.loop-side.invariant
