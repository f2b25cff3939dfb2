use Rattle.std.proofs.Common.{◌≡◌, ◌+◌, ◌≤◌, ◌++◌, length}
use Rattle.std.specs.List.{flat_map, range_with_len}
use Rattle.sheet_views.specs.declared.hazards.Hazard.TheVariants.{Die}
use Rattle.sheet_views.specs.Hazards.{warning_of}
use Rattle.sheet_views.proofs.hazards.put_dies.Given as goal

abbrev pub invariant-loop-station : goal.invariant-loop-station
invariant-loop-station l = record {
  few : length l.found.items ≤ length l.initial.found.items + l.station;
  value : l.found.items ≡ l.initial.found.items ++ flat_map (λ i. warning_of l.job l.fingers (Die i)) (range_with_len 0 l.station);
}
