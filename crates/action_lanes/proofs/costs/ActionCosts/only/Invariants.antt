use Rattle.action_lanes.proofs.CheapestLemmas.{AreOnlyTo}
use Rattle.action_lanes.proofs.costs.ActionCosts.only.Given as goal

abbrev pub invariant-loop-side : goal.invariant-loop-side
invariant-loop-side l = AreOnlyTo l.self l.set l.side l.costs
