use Rattle.std.proofs.Common.{ℕ, ◌<◌, ◌≤◌}
use Rattle.std.specs.Prelude.{slice_index}
use Rattle.cert_merge.specs.SetWorths.{IsLeastSum, cost_of_change, lane_at}
use Rattle.cert_merge.proofs.set_worths.changed_from.Given as goal

-- at each stage the least over the first so many attitudes
abbrev pub invariant-loop-to : goal.invariant-loop-to
invariant-loop-to l = record {
  sums : (stage : ℕ) → stage < 8 → IsLeastSum l.to (cost_of_change l.facts l.from) (λ to. lane_at l.proved to stage) (slice_index l.least.0 stage);
  small : (stage : ℕ) → stage < 8 → slice_index l.least.0 stage ≤ 1500000000;
}
