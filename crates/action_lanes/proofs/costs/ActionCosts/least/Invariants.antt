use Rattle.action_lanes.proofs.CostLemmas.{AreLow}
use Rattle.action_lanes.proofs.costs.ActionCosts.least.Given as goal

abbrev pub invariant-loop-side : goal.invariant-loop-side
invariant-loop-side l = AreLow l.bends l.self l.side l.low.0
