use Rattle.std.proofs.Common.{ℕ, ◌-◌, ◌<◌, ◌≤◌, ◌≡◌, length, slice_index_or}
use Rattle.bb_search.specs.Groups.{IsFoldedBy}
use Rattle.bb_search.proofs.search_table.groups_of.Given as goal

abbrev pub invariant-loop-bend : goal.invariant-loop-bend
invariant-loop-bend l = record {
  first : 1 ≤ l.bend;
  long : length l.groups ≡ 12;
  below : (bend : ℕ) → 1 ≤ bend → bend < l.bend
      → IsFoldedBy l.job bend (slice_index_or l.groups (bend - 1) (record { 0 = 0 }));
}
