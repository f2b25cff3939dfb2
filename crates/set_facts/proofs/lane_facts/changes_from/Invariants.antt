use Rattle.std.proofs.Common.{◌≡◌, ◌<◌, ℕ, length, get_or}
use Rattle.handling_cost.specs.StepCost.{change, change_cost}
use Rattle.set_facts.proofs.lane_facts.changes_from.Given as goal

abbrev pub invariant-loop-to : goal.invariant-loop-to
invariant-loop-to l = record {
  count : length l.changes ≡ 24;
  each : (to d : ℕ) → to < l.to → get_or l.changes to d ≡ change_cost l.costs (change l.from to);
}
