use Rattle.std.proofs.Common.{◌≡◌, length}
use Rattle.cert_check.proofs.ActionLemmas.{AreNextBelow}
use Rattle.cert_check.proofs.set_actions.all_next.Given as goal

abbrev pub invariant-loop-number : goal.invariant-loop-number
invariant-loop-number l = record {
  count : length l.next ≡ 144;
  below : AreNextBelow l.job l.mask l.number l.next;
}
