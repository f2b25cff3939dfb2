use Rattle.std.proofs.Common.{◌≡◌, length}
use Rattle.cert_merge.specs.Settling.{AreSettled}
use Rattle.cert_merge.proofs.settled.settle_sets.Given as goal

-- the sets of the first so many masks from the highest are settled
abbrev pub invariant-loop-below : goal.invariant-loop-below
invariant-loop-below l = record {
  high : l.settled.high ≡ l.high;
  count : length l.settled.sets.items ≡ l.below;
  settled : AreSettled l.job l.base l.settled;
  strokes : l.strokes ≡ l.job;
}
