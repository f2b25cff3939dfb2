use Rattle.sweep_check.specs.Hits.{IsPieceMet}
use Rattle.sweep_check.proofs.Tests.{clash}
use Rattle.sweep_check.proofs.FirstHits.{each_more, each_all, least_at}
use Rattle.sweep_check.proofs.hits.first_met.Goals as goal

pub returns-then-is_met : goal.returns-then-is_met
returns-then-is_met c = least_at (λ obstacle. obstacle.index) (IsPieceMet c.args.piece.now) c.args.obstacles.now c.loop-obstacle.obstacle-index _ c.loop-obstacle-test.true c.requires.ascend (c.is_met.ensures.0 c.if-is_met.true) c.loop-obstacle.invariant

pub loop-obstacle-preserved : goal.loop-obstacle-preserved
loop-obstacle-preserved c = each_more (λ obstacle. IsPieceMet c.args.piece.now obstacle → ⊥) c.args.obstacles.now c.loop-obstacle.obstacle-index _ c.loop-obstacle-test.true (λ met. clash c.is_met.result c.if-is_met.false (c.is_met.ensures.1 met)) c.loop-obstacle.invariant

pub returns : goal.returns
returns c = each_all (λ obstacle. IsPieceMet c.args.piece.now obstacle → ⊥) c.args.obstacles.now c.loop-obstacle.obstacle-index c.loop-obstacle-test.false c.loop-obstacle.invariant
