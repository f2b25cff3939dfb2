use Rattle.std.proofs.Common.{◌≡◌, ◌≤◌, nat_le, filter, length, take}
use Rattle.sheet_views.proofs.stations.numbered_from.Given as goal

abbrev pub invariant-loop-tool : goal.invariant-loop-tool
invariant-loop-tool l = record {
  count : length l.kept.items ≤ l.tool-index;
  value : l.kept.items ≡ filter (λ tool. nat_le l.fn.first tool.index) (take l.tool-index l.tools);
}
