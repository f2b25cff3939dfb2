use Rattle.std.specs.Prelude.{Any}
use Rattle.job_setup.specs.Reasons.{MeetsAlong}
use Rattle.sweep_check.proofs.Tests.{clash}
use Rattle.sweep_check.proofs.FirstHits.{each_more, each_all, least_at}
use Rattle.sweep_check.proofs.frames.first_in_frame.Goals as goal

pub returns-then-is_in_frame : goal.returns-then-is_in_frame
returns-then-is_in_frame c =
    least_at (λ body. body.id) (λ body. Any (MeetsAlong body) c.args.frames.now) c.args.boxes.now c.loop-body.body-index _ c.loop-body-test.true c.requires.ascend (c.is_in_frame.ensures.0 c.if-is_in_frame.true) c.loop-body.invariant

pub loop-body-preserved : goal.loop-body-preserved
loop-body-preserved c =
    each_more (λ body. Any (MeetsAlong body) c.args.frames.now → ⊥) c.args.boxes.now c.loop-body.body-index _ c.loop-body-test.true (λ some. clash c.is_in_frame.result c.if-is_in_frame.false (c.is_in_frame.ensures.1 some)) c.loop-body.invariant

pub returns : goal.returns
returns c = each_all (λ body. Any (MeetsAlong body) c.args.frames.now → ⊥) c.args.boxes.now c.loop-body.body-index c.loop-body-test.false c.loop-body.invariant
