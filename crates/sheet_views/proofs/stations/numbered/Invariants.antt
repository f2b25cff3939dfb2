use Rattle.std.proofs.Common.{◌≡◌, length, take}
use Rattle.sheet_views.specs.Stations.{numbered}
use Rattle.sheet_views.proofs.stations.numbered.Given as goal

abbrev pub invariant-loop-body : goal.invariant-loop-body
invariant-loop-body l = record {
  count : length l.tools.items ≡ l.body-index;
  value : l.tools.items ≡ numbered (take l.body-index l.boxes);
}
