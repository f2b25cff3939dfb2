use Rattle.sector_geom.proofs.Comparisons.{and_then}
use Rattle.sector_geom.proofs.special_points.crossings_meet.Goals as goal

pub returns-then-ray_meets : goal.returns-then-ray_meets
returns-then-ray_meets c =
    record { exact = and_then c.ray_meets.result c.ray_meets-then-ray_meets.result c.if-ray_meets.true c.ray_meets.ensures.exact c.ray_meets-then-ray_meets.ensures.exact }
