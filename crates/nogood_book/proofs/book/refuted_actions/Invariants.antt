-- What is told is told of the nogoods so far.
use Rattle.std.proofs.Common.{◌≡◌, length, take}
use Rattle.nogood_book.specs.Refuted.{AreTold}
use Rattle.nogood_book.proofs.book.refuted_actions.Given as goal

abbrev pub invariant-loop-nogood : goal.invariant-loop-nogood
invariant-loop-nogood l = record {
  count : length l.refuted ≡ 144;
  told : AreTold l.stages (take l.nogood-index l.nogoods) l.mask 0 l.refuted;
}
