use Rattle.std.proofs.Common.{sym, subst, ◌∙◌, to_z-of_z, FitsSigned}
use mir.Syntax.{w128}
use Rattle.sector_geom.specs.Plane.{IsCornerInRange}
use Rattle.sector_geom.specs.SpecialPoints.{IsNoFarther}
use Rattle.sector_geom.proofs.Fits.{rect_fits, corner_fits, norm_fits}
use Rattle.sector_geom.proofs.Radii.{no_farther}
use Rattle.sector_geom.proofs.clearance.farthest2.Goals as goal

pub returns : goal.returns
returns c =
    let r = c.args.r.now in
    let f = rect_fits r c.requires.in_range in
    let y = simp (to_z-of_z f.y0, to_z-of_z f.y1) at c.reach.ensures.value in
    let z = simp (to_z-of_z f.z0, to_z-of_z f.z1) at c.reach-2.ensures.value in
    let g : IsCornerInRange (c.reach.result, c.reach-2.result) = record { y = c.reach.ensures.in_range; z = c.reach-2.ensures.in_range } in
    let p = corner_fits (c.reach.result, c.reach-2.result) g in
    let e = simp (to_z-of_z p.y, to_z-of_z p.z) at c.squared_distance.ensures.value in
    let w : FitsSigned w128 c.squared_distance.result = rw e (norm_fits (c.reach.result, c.reach-2.result) g) in
    record { bound = subst (λ n. IsNoFarther r n) (sym (to_z-of_z w ∙ e)) (no_farther r c.reach.result c.reach-2.result y z) }
