use Rattle.std.proofs.Common.{◌≤◌, ◌-◌, ◌*◌}
use Rattle.action_lanes.specs.Costs.{sum_costs}
use Rattle.action_lanes.proofs.CostLemmas.{AreLow}
use Rattle.bb_search.proofs.totals.least_total.Given as goal

abbrev pub invariant-loop-bend : goal.invariant-loop-bend
invariant-loop-bend l = record {
  first : 1 ≤ l.bend;
  low : AreLow l.bends (sum_costs l.sums l.slack) (2 * (l.bend - 1)) l.low.0;
}
