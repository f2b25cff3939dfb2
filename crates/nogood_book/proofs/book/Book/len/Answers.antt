use Rattle.std.proofs.Common.{arith}
use Rattle.nogood_book.proofs.Growth.{book_fits}
use Rattle.nogood_book.proofs.book.Book.len.Goals as goal

pub overflow_cast-result : goal.overflow_cast-result
overflow_cast-result c =
    let fits = book_fits c.self.inside.job c.self.invariant.0 c.self.inside.nogoods.items c.self.invariant.1 in
    omega (arith, fits, c.len.ensures)
