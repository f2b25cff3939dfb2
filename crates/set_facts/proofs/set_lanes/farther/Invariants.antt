use Rattle.std.proofs.Common.{◌≡◌, ◌<◌, ℕ, length, get_or}
use Rattle.std.specs.Prelude.{max, slice_index_or}
use Rattle.set_facts.proofs.set_lanes.farther.Given as goal

abbrev pub invariant-loop-stage : goal.invariant-loop-stage
invariant-loop-stage l = record {
  count : length l.farther ≡ 6;
  each : (stage d : ℕ) → stage < l.stage → get_or l.farther stage d ≡ max (slice_index_or l.first stage d) (slice_index_or l.second stage d);
}
