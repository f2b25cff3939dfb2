use Rattle.std.proofs.Common.{◌≤◌}
use Rattle.bb_search.specs.LaneSums.{AreSumsBelow}
use Rattle.bb_search.proofs.search_table.SearchTable.put_all_sums.Given as goal

abbrev pub invariant-loop-bend : goal.invariant-loop-bend
invariant-loop-bend l = record {
  first : 1 ≤ l.bend;
  below : AreSumsBelow l.job l.key l.bend l.sums;
}
