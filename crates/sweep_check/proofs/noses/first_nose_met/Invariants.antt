use Rattle.sweep_check.specs.Hits.{IsNoseMet}
use Rattle.sweep_check.proofs.FirstHits.{EachBefore}
use Rattle.sweep_check.proofs.noses.first_nose_met.Given as goal

abbrev pub invariant-loop-nose : goal.invariant-loop-nose
invariant-loop-nose l = EachBefore (λ nose. IsNoseMet l.piece nose → ⊥) l.noses l.nose-index
