use Rattle.std.proofs.Common.{◌≡◌, ◌<◌, ℕ, length, get_or}
use Rattle.handling_cost.specs.Bound.{nearest, meeting_stages}
use Rattle.set_facts.proofs.set_lanes.ways_from_each.Given as goal

abbrev pub invariant-loop-stage : goal.invariant-loop-stage
invariant-loop-stage l = record {
  count : length l.ways ≡ 6;
  each : (stage d : ℕ) → stage < l.stage → get_or l.ways stage d ≡ nearest stage (meeting_stages l.job l.fn.mask l.bend);
}
