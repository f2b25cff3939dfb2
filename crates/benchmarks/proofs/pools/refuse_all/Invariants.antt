use Rattle.std.proofs.Common.{◌≡◌, length}
use Rattle.benchmarks.proofs.pools.refuse_all.Given as goal

abbrev pub invariant-loop-row : goal.invariant-loop-row
invariant-loop-row l = (length l.pool.rows ≡ length l.fn.pool.rows) × (l.pool.actions ≡ l.fn.pool.actions)
