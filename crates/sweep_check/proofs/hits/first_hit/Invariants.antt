use Rattle.std.specs.Prelude.{All}
use Rattle.sweep_check.specs.Hits.{IsPieceMet}
use Rattle.sweep_check.proofs.FirstHits.{EachBefore}
use Rattle.sweep_check.proofs.hits.first_hit.Given as goal

abbrev pub invariant-loop-piece : goal.invariant-loop-piece
invariant-loop-piece l = EachBefore (λ piece. All (λ obstacle. IsPieceMet piece obstacle → ⊥) l.obstacles) l.pieces l.piece-index
