use Rattle.sector_geom.proofs.Comparisons.{and_else}
use Rattle.sector_geom.proofs.special_points.axis_points_meet.Goals as goal

pub returns-else-feet_meet : goal.returns-else-feet_meet
returns-else-feet_meet c = record { exact = and_else c.feet_meet.result c.if-feet_meet.false c.feet_meet.ensures.exact }
