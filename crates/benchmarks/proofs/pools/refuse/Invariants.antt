use Rattle.std.proofs.Common.{◌≡◌, length}
use Rattle.benchmarks.proofs.pools.refuse.Given as goal

abbrev pub invariant-loop-action : goal.invariant-loop-action
invariant-loop-action l = (length l.pool.rows ≡ length l.fn.pool.rows) × (l.pool.actions ≡ l.fn.pool.actions)
