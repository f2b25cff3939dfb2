use Rattle.std.proofs.Common.{◌≡◌, ◌<◌, ◌≤◌, ℕ, length, get_or}
use Rattle.handling_cost.specs.Bound.{leads_left, farthest, bound_with}
use Rattle.set_facts.proofs.set_lanes.bounds_from.Given as goal

abbrev pub invariant-loop-stage : goal.invariant-loop-stage
invariant-loop-stage l = record {
  count : length l.bounds ≡ 8;
  each : (stage d : ℕ) → stage < l.stage → get_or l.bounds stage d ≡ bound_with l.job l.mask (length (leads_left l.job l.mask)) (farthest l.job l.mask stage);
  past : (stage d : ℕ) → l.stage ≤ stage → stage < 8 → get_or l.bounds stage d ≡ 536870912;
}
