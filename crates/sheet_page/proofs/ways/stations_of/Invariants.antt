use Rattle.std.proofs.Common.{◌≡◌, ◌≤◌, false, get_or}
use Rattle.arrayvec.specs.ArrayVec.{array_vec_len}
use Rattle.sheet_page.specs.Ways.{stations_below}
use Rattle.sheet_page.proofs.ways.stations_of.Given as goal

-- the stations so far
abbrev pub invariant-loop-station : goal.invariant-loop-station
invariant-loop-station l = record {
  value : l.stations.items ≡ stations_below (λ station. get_or l.list station false) l.station;
  room : array_vec_len l.stations ≤ l.station;
}
