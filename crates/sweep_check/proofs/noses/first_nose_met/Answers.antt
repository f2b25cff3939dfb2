use Rattle.sweep_check.specs.Hits.{IsNoseMet}
use Rattle.sweep_check.proofs.Tests.{clash}
use Rattle.sweep_check.proofs.FirstHits.{each_more, each_all, least_at}
use Rattle.sweep_check.proofs.noses.first_nose_met.Goals as goal

pub returns-then-is_nose_met : goal.returns-then-is_nose_met
returns-then-is_nose_met c = least_at (λ nose. nose.stage) (IsNoseMet c.args.piece.now) c.args.noses.now c.loop-nose.nose-index _ c.loop-nose-test.true c.requires.ascend (c.is_nose_met.ensures.0 c.if-is_nose_met.true) c.loop-nose.invariant

pub loop-nose-preserved : goal.loop-nose-preserved
loop-nose-preserved c = each_more (λ nose. IsNoseMet c.args.piece.now nose → ⊥) c.args.noses.now c.loop-nose.nose-index _ c.loop-nose-test.true (λ met. clash c.is_nose_met.result c.if-is_nose_met.false (c.is_nose_met.ensures.1 met)) c.loop-nose.invariant

pub returns : goal.returns
returns c = each_all (λ nose. IsNoseMet c.args.piece.now nose → ⊥) c.args.noses.now c.loop-nose.nose-index c.loop-nose-test.false c.loop-nose.invariant
