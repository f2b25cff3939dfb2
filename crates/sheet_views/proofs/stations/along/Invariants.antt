use Rattle.std.proofs.Common.{◌≡◌, ◌≤◌, filter, length, take}
use Rattle.job_setup.specs.Setup.{stage_data}
use Rattle.sheet_views.specs.Stations.{is_along}
use Rattle.sheet_views.proofs.stations.along.Given as goal

abbrev pub invariant-loop-tool : goal.invariant-loop-tool
invariant-loop-tool l = record {
  count : length l.kept.items ≤ l.tool-index;
  value : l.kept.items ≡ filter (is_along (stage_data l.stage)) (take l.tool-index l.tools);
}
