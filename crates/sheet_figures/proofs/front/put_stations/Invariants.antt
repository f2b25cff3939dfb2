use Rattle.std.proofs.Common.{◌≡◌, ◌++◌, take}
use Rattle.std.specs.List.{flat_map}
use Rattle.sheet_figures.specs.Fronts.{front_station}
use Rattle.sheet_figures.proofs.front.put_stations.Given as goal

abbrev pub invariant-loop-stage : goal.invariant-loop-stage
invariant-loop-stage l = l.out.items ≡ l.initial.out.items ++ flat_map (front_station l.window) (take l.stage l.job.setup.stages)
