-- None of the nogoods so far refutes the action.
use Rattle.nogood_book.proofs.Refuting.{NoneSoFar}
use Rattle.nogood_book.proofs.book.Book.refutes.Given as goal

abbrev pub invariant-loop-number : goal.invariant-loop-number
invariant-loop-number l = NoneSoFar l.self.nogoods l.mask l.action l.number
