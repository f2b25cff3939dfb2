use Rattle.std.proofs.Common.{◌≡◌, ◌∙◌, false, true≢false, refl, sym}
use Rattle.sweep_check.specs.Along.{is_along}
use Rattle.sweep_check.proofs.FirstHits.{each_more, each_all}
use Rattle.sweep_check.proofs.self_hits.is_apart.Goals as goal

pub returns-then-is_along : goal.returns-then-is_along
returns-then-is_along c = (
  λ no. absurd (true≢false (sym no)),
  λ all. absurd (true≢false (sym c.if-is_along.true ∙ c.is_along.ensures ∙ all c.loop-obstacle.obstacle-index _ c.loop-obstacle-test.true)),
)

pub loop-obstacle-preserved : goal.loop-obstacle-preserved
loop-obstacle-preserved c =
    each_more (λ obstacle. is_along c.args.body.now obstacle ≡ false) c.args.obstacles.now c.loop-obstacle.obstacle-index _ c.loop-obstacle-test.true
    (sym c.is_along.ensures ∙ c.if-is_along.false) c.loop-obstacle.invariant

pub returns : goal.returns
returns c = (
  λ yes. each_all (λ obstacle. is_along c.args.body.now obstacle ≡ false) c.args.obstacles.now c.loop-obstacle.obstacle-index c.loop-obstacle-test.false c.loop-obstacle.invariant,
  λ all. refl,
)
