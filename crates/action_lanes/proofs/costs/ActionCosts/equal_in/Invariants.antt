use Rattle.std.proofs.Common.{◌==◌}
use Rattle.action_lanes.specs.Costs.{cost_at}
use Rattle.action_lanes.proofs.WordLemmas.{HasBefore}
use Rattle.action_lanes.proofs.costs.ActionCosts.equal_in.Given as goal

abbrev pub invariant-loop-eighth : goal.invariant-loop-eighth
invariant-loop-eighth l = HasBefore l.bends (λ place. cost_at l.self place == l.cost) l.word l.eighth l.bits
