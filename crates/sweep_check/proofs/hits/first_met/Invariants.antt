use Rattle.sweep_check.specs.Hits.{IsPieceMet}
use Rattle.sweep_check.proofs.FirstHits.{EachBefore}
use Rattle.sweep_check.proofs.hits.first_met.Given as goal

abbrev pub invariant-loop-obstacle : goal.invariant-loop-obstacle
invariant-loop-obstacle l = EachBefore (λ obstacle. IsPieceMet l.piece obstacle → ⊥) l.obstacles l.obstacle-index
