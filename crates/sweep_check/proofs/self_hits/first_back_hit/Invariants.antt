use Rattle.sweep_check.proofs.FirstHits.{EachBefore}
use Rattle.sweep_check.proofs.BackHits.{AreUnmet}
use Rattle.sweep_check.proofs.self_hits.first_back_hit.Given as goal

abbrev pub invariant-loop-body : goal.invariant-loop-body
invariant-loop-body l = EachBefore (AreUnmet l.job l.obstacles) l.boxes l.body-index
