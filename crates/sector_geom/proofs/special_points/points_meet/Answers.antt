use Rattle.sector_geom.proofs.Comparisons.{and_then, and_else}
use Rattle.sector_geom.proofs.special_points.points_meet.Goals as goal

pub returns-then-corners_meet : goal.returns-then-corners_meet
returns-then-corners_meet c =
    record { exact = and_then c.corners_meet.result c.axis_points_meet.result c.if-corners_meet.true c.corners_meet.ensures.exact c.axis_points_meet.ensures.exact }

pub returns-else-corners_meet : goal.returns-else-corners_meet
returns-else-corners_meet c = record { exact = and_else c.corners_meet.result c.if-corners_meet.false c.corners_meet.ensures.exact }
