use Rattle.std.proofs.Common.{◌≡◌, ◌+◌, ◌≤◌, ◌++◌, length, reverse}
use Rattle.part_file.proofs.tree.connected.Given as goal

abbrev pub invariant-loop-bend : goal.invariant-loop-bend
invariant-loop-bend l = record {
  room : length l.bends.items + length l.onward.items ≤ 12;
  same : l.bends.items ++ reverse l.onward.items ≡ l.initial.bends.items ++ reverse l.initial.onward.items;
}

abbrev pub decreases-loop-bend : goal.decreases-loop-bend
decreases-loop-bend l = length l.onward.items
