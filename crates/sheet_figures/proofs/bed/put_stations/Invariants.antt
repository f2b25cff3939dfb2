use Rattle.std.proofs.Common.{◌≡◌, ◌++◌, take}
use Rattle.std.specs.List.{flat_map}
use Rattle.sheet_figures.specs.Beds.{station_line}
use Rattle.sheet_figures.proofs.bed.put_stations.Given as goal

abbrev pub invariant-loop-stage : goal.invariant-loop-stage
invariant-loop-stage l = l.out.items ≡ l.initial.out.items ++ flat_map (station_line l.window) (take l.stage l.job.setup.stages)
