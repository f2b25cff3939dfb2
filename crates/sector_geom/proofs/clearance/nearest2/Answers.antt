use Rattle.std.proofs.Common.{sym, subst, ◌∙◌, to_z-of_z, FitsSigned}
use mir.Syntax.{w128}
use Rattle.sector_geom.specs.Plane.{IsCornerInRange}
use Rattle.sector_geom.specs.SpecialPoints.{IsNoNearer}
use Rattle.sector_geom.proofs.Fits.{rect_fits, corner_fits, norm_fits}
use Rattle.sector_geom.proofs.Radii.{no_nearer}
use Rattle.sector_geom.proofs.clearance.nearest2.Goals as goal

pub returns : goal.returns
returns c =
    let r = c.args.r.now in
    let f = rect_fits r c.requires.in_range in
    let y = simp (to_z-of_z f.y0, to_z-of_z f.y1) at c.gap.ensures.value in
    let z = simp (to_z-of_z f.z0, to_z-of_z f.z1) at c.gap-2.ensures.value in
    let g : IsCornerInRange (c.gap.result, c.gap-2.result) = record { y = c.gap.ensures.in_range; z = c.gap-2.ensures.in_range } in
    let p = corner_fits (c.gap.result, c.gap-2.result) g in
    let e = simp (to_z-of_z p.y, to_z-of_z p.z) at c.squared_distance.ensures.value in
    let w : FitsSigned w128 c.squared_distance.result = rw e (norm_fits (c.gap.result, c.gap-2.result) g) in
    record { bound = subst (λ n. IsNoNearer r n) (sym (to_z-of_z w ∙ e)) (no_nearer r c.gap.result c.gap-2.result y z) }
