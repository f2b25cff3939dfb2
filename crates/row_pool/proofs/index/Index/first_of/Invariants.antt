use Rattle.row_pool.specs.Index.{HaveNoRows}
use Rattle.row_pool.proofs.index.Index.first_of.Given as goal

abbrev pub invariant-loop-set : goal.invariant-loop-set
invariant-loop-set l = HaveNoRows l.self l.from l.set
