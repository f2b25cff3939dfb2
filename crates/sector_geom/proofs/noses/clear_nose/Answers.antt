use Rattle.std.proofs.Common.{to_z-of_z, FitsSigned, rules}
use mir.Syntax.{w128}
use lib.Signed.{le_z}
use Rattle.sector_geom.proofs.NoseLaw.{nose_law, nose_radius}
use Rattle.sector_geom.proofs.Comparisons.{or_then, or_else}
use Rattle.sector_geom.proofs.noses.clear_nose.Goals as goal

pub returns-then-s-squared_distance-clause-exact : goal.returns-then-s-squared_distance-clause-exact
returns-then-s-squared_distance-clause-exact c =
    let f : FitsSigned w128 c.squared_distance.result = search rules in
    let g : FitsSigned w128 c.args.s.now.near2 = search rules in
    let e = simp (to_z-of_z c.ranges.nose) at c.squared_distance.ensures.value in
    let t = simp (to_z-of_z f, to_z-of_z g) at c.if-s-squared_distance.true in
    simp (to_z-of_z f, to_z-of_z g) (or_then (le_z c.squared_distance.result c.args.s.now.near2) t (nose_radius c.squared_distance.result c.args.nose c.args.s.now.near2 e))

pub returns-then-s-squared_distance-clause-law : goal.returns-then-s-squared_distance-clause-law
returns-then-s-squared_distance-clause-law c = λ t. nose_law c.args.s.now c.requires.cover c.args.nose ((returns-then-s-squared_distance-clause-exact c).0 t)

pub returns-else-s-squared_distance-clause-exact : goal.returns-else-s-squared_distance-clause-exact
returns-else-s-squared_distance-clause-exact c =
    let f : FitsSigned w128 c.squared_distance.result = search rules in
    let g : FitsSigned w128 c.args.s.now.near2 = search rules in
    let e = simp (to_z-of_z c.ranges.nose) at c.squared_distance.ensures.value in
    let t = simp (to_z-of_z f, to_z-of_z g) at c.if-s-squared_distance.false in
    or_else (le_z c.squared_distance.result c.args.s.now.near2) c.is_past_nose.result t (nose_radius c.squared_distance.result c.args.nose c.args.s.now.near2 e) c.is_past_nose.ensures.exact

pub returns-else-s-squared_distance-clause-law : goal.returns-else-s-squared_distance-clause-law
returns-else-s-squared_distance-clause-law c = λ t. nose_law c.args.s.now c.requires.cover c.args.nose ((returns-else-s-squared_distance-clause-exact c).0 t)
