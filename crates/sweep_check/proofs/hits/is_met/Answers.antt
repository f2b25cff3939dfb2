use Rattle.sweep_check.specs.Hits.{IsPieceFree}
use Rattle.sweep_check.proofs.Tests.{refused, passed}
use Rattle.sweep_check.proofs.hits.is_met.Goals as goal

pub returns-then-is_near : goal.returns-then-is_near
returns-then-is_near c =
    let Free = IsPieceFree c.args.piece.now c.args.obstacle.now in (
      λ away. record { near = c.is_near.ensures.0 c.if-is_near.true; swept = refused c.is_free.result Free c.is_free.ensures away },
      λ met. passed c.is_free.result Free c.is_free.ensures met.swept,
    )
