use Rattle.std.proofs.Common.{◌↔◌, ◌*ℤ◌, ◌≤ℤ◌, IsTrue, to_z-of_z}
use Rattle.sheet_paper.proofs.scale.has_room.Goals as goal

pub returns-then-is_within : goal.returns-then-is_within
returns-then-is_within c =
    let wide : IsTrue c.is_within.result ↔ (c.args.width ≤ℤ (c.args.across *ℤ c.args.scale)) = simp (to_z-of_z c.ranges.width, to_z-of_z c.ranges.across, to_z-of_z c.ranges.scale) at c.is_within.ensures in
    let high : IsTrue c.is_within-then-is_within.result ↔ (c.args.height ≤ℤ (c.args.upright *ℤ c.args.scale)) = simp (to_z-of_z c.ranges.height, to_z-of_z c.ranges.upright, to_z-of_z c.ranges.scale) at c.is_within-then-is_within.ensures in
    (λ both. (wide.0 c.if-is_within.true, high.0 both), λ room. high.1 room.1)
