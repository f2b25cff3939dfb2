use Rattle.std.proofs.Common.{◌≡◌, ◌≤◌, ◌-◌, length, drop}
use Rattle.piece_pick.specs.Search.{shorter}
use Rattle.piece_pick.proofs.piece_search.next_shorter.Given as goal

abbrev pub invariant-loop-next : goal.invariant-loop-next
invariant-loop-next l = record {
  skipped : shorter l.piece (drop l.next l.supply) ≡ shorter l.piece (drop l.fn.from l.supply);
  after : l.fn.from ≤ l.next;
  within : l.next ≤ length l.supply;
}

abbrev pub decreases-loop-next : goal.decreases-loop-next
decreases-loop-next l = length l.supply - l.next
