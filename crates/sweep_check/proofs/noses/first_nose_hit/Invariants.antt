use Rattle.std.specs.Prelude.{All}
use Rattle.sweep_check.specs.Hits.{IsNoseMet}
use Rattle.sweep_check.proofs.FirstHits.{EachBefore}
use Rattle.sweep_check.proofs.noses.first_nose_hit.Given as goal

abbrev pub invariant-loop-piece : goal.invariant-loop-piece
invariant-loop-piece l = EachBefore (λ piece. All (λ nose. IsNoseMet piece nose → ⊥) l.noses) l.pieces l.piece-index
