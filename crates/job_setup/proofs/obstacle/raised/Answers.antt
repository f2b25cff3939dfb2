use Rattle.std.proofs.Common.{to_z-of_z, FitsSigned, rules, w64, arith}
use Rattle.std.proofs.lemmas.Int.{ints}
use Rattle.sector_geom.proofs.PieceLaws.{same_rect}
use Rattle.job_setup.proofs.obstacle.raised.Goals as goal

pub returns : goal.returns
returns c =
    let r = c.args.rect.now in
    let y0 : FitsSigned w64 r.y0 = search rules in
    let y1 : FitsSigned w64 r.y1 = search rules in
    let low = c.requires.low in
    let high = c.requires.high in
    let by = c.requires.by in
    same_rect _ _ _ _ _ _ _ _ (to_z-of_z y0) (to_z-of_z y1) (omega (arith, ints, low.0, low.1, by.0, by.1)) (omega (arith, ints, high.0, high.1, by.0, by.1))
