-- The sets of the places so far.
use Rattle.std.proofs.Common.{◌≡◌, ◌≤◌, length, vec_capacity}
use Rattle.stroke_table.proofs.DecidingBends.{AreFirst}
use Rattle.stroke_table.proofs.deciding.deciding_bends.Given as goal

abbrev pub invariant-loop-place : goal.invariant-loop-place
invariant-loop-place l = record {
  count : length l.deciding.items ≡ l.place;
  room : 325 ≤ vec_capacity l.deciding;
  each : AreFirst l.job l.deciding.items l.place;
}
