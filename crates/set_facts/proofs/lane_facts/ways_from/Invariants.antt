use Rattle.std.proofs.Common.{◌≡◌, ◌*◌, ◌<◌, ◌≤◌, ℕ, length, get_or}
use Rattle.handling_cost.specs.StepCost.{distance}
use Rattle.set_facts.proofs.lane_facts.ways_from.Given as goal

abbrev pub invariant-loop-to : goal.invariant-loop-to
invariant-loop-to l = record {
  count : length l.ways ≡ 8;
  each : (to d : ℕ) → to < l.to → get_or l.ways to d ≡ l.cost * distance l.from to;
  past : (to d : ℕ) → l.to ≤ to → to < 8 → get_or l.ways to d ≡ 536870912;
}
