use Rattle.std.proofs.Common.{◌≡◌, false}
use Rattle.sweep_check.specs.Along.{is_along}
use Rattle.sweep_check.proofs.FirstHits.{EachBefore}
use Rattle.sweep_check.proofs.self_hits.is_apart.Given as goal

abbrev pub invariant-loop-obstacle : goal.invariant-loop-obstacle
invariant-loop-obstacle l = EachBefore (λ obstacle. is_along l.body obstacle ≡ false) l.obstacles l.obstacle-index
