use Rattle.std.proofs.Common.{◌==◌}
use Rattle.action_lanes.specs.Costs.{cost_at, sum_costs}
use Rattle.action_lanes.proofs.WordLemmas.{HasBefore}
use Rattle.action_lanes.proofs.costs.ActionCosts.equal_sum_in.Given as goal

abbrev pub invariant-loop-eighth : goal.invariant-loop-eighth
invariant-loop-eighth l = HasBefore l.bends (λ place. cost_at (sum_costs l.self l.other) place == l.cost) l.word l.eighth l.bits
