use Rattle.nogood_book.proofs.Growth.{nogood_law}
use Rattle.nogood_book.proofs.book.Book.of.Goals as goal

pub returns-clause-law : goal.returns-clause-law
returns-clause-law c = nogood_law c.args.job.now c.copy.ensures.valid c.in_ok-nogoods.nogoods.items c.in_ok-nogoods.ensures
