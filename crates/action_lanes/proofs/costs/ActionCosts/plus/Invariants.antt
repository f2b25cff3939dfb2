use Rattle.action_lanes.proofs.CostLemmas.{AreSummed}
use Rattle.action_lanes.proofs.costs.ActionCosts.plus.Given as goal

abbrev pub invariant-loop-side : goal.invariant-loop-side
invariant-loop-side l = AreSummed l.bends l.self l.other l.side l.sums
