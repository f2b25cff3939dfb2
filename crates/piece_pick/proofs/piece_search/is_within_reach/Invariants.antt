use Rattle.std.proofs.Common.{◌≡◌, ◌≤◌, pos, ◌+ℤ◌, ◌<ℤ◌, take}
use Rattle.piece_pick.specs.Choice.{total}
use Rattle.piece_pick.proofs.piece_search.is_within_reach.Given as goal

abbrev pub invariant-loop-i : goal.invariant-loop-i
invariant-loop-i l = record {
  sum : (total (take l.i l.supply) +ℤ l.left) ≡ l.rest;
  some : pos 0 <ℤ l.left;
  few : l.i ≤ l.room;
}
