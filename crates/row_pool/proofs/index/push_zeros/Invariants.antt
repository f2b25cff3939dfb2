use Rattle.std.proofs.Common.{◌≡◌, ◌++◌, replicate, vec_capacity}
use Rattle.row_pool.proofs.index.push_zeros.Given as goal

abbrev pub invariant-loop : goal.invariant-loop
invariant-loop l = (l.ends.items ≡ l.fn.ends.items ++ replicate l.counter 0) × (vec_capacity l.ends ≡ vec_capacity l.fn.ends)
