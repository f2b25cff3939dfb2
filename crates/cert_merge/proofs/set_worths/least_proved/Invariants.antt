use Rattle.cert_merge.specs.SetWorths.{AreLaneRows}
use Rattle.cert_merge.proofs.LaneWorths.{AreProvedBelow}
use Rattle.cert_merge.proofs.set_worths.least_proved.Given as goal

-- the next keys of the first so many actions are looked at
abbrev pub invariant-loop-number : goal.invariant-loop-number
invariant-loop-number l = record {
  rows : AreLaneRows l.proved;
  below : AreProvedBelow l.nexts l.number l.proved;
}
