use Rattle.std.proofs.Common.{◌∙◌, sym}
use Rattle.sector_geom.specs.Clear.{IsClearOfNose}
use Rattle.sweep_check.proofs.Tests.{refused, passed}
use Rattle.sweep_check.proofs.noses.is_nose_met.Goals as goal

pub returns-then-is_along : goal.returns-then-is_along
returns-then-is_along c =
    let Clear = IsClearOfNose c.args.piece.now.cover c.args.nose.now.size in (
      λ away. record { along = sym c.is_along.ensures ∙ c.if-is_along.true; swept = refused c.is_clear.result Clear c.is_clear.ensures away },
      λ met. passed c.is_clear.result Clear c.is_clear.ensures met.swept,
    )
