use Rattle.std.proofs.Common.{◌≡◌}
use Rattle.benchmarks.proofs.pools.settle_all.Given as goal

abbrev pub invariant-loop-key : goal.invariant-loop-key
invariant-loop-key l = l.pool.actions ≡ l.fn.pool.actions
