use Rattle.std.specs.Prelude.{All}
use Rattle.sweep_check.specs.Hits.{IsPieceMet}
use Rattle.sweep_check.proofs.FirstHits.{each_more, each_all, none_least, first_at}
use Rattle.sweep_check.proofs.hits.first_hit.Goals as goal

pub returns-in-Some : goal.returns-in-Some
returns-in-Some c = first_at (λ obstacle. obstacle.index) IsPieceMet c.args.pieces.now c.args.obstacles.now c.loop-piece.piece-index _ _ c.loop-piece-test.true c.requires.pieces_ascend c.in-Some.ensures c.loop-piece.invariant

pub loop-piece-preserved : goal.loop-piece-preserved
loop-piece-preserved c =
    each_more (λ piece. All (λ obstacle. IsPieceMet piece obstacle → ⊥) c.args.obstacles.now) c.args.pieces.now c.loop-piece.piece-index _ c.loop-piece-test.true (none_least (λ obstacle. obstacle.index) (IsPieceMet _) c.args.obstacles.now c.first_met.result c.in_default.is c.first_met.ensures) c.loop-piece.invariant

pub returns : goal.returns
returns c = each_all (λ piece. All (λ obstacle. IsPieceMet piece obstacle → ⊥) c.args.obstacles.now) c.args.pieces.now c.loop-piece.piece-index c.loop-piece-test.false c.loop-piece.invariant
