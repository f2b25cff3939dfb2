use Rattle.std.proofs.Common.{to_z-of_z, FitsSigned, rules, w64, ◌*ℤ◌}
use Rattle.sector_geom.proofs.Fits.{rect_fits, ray_fits, product_fits}
use Rattle.sector_geom.proofs.Comparisons.{all_at_most}
use Rattle.sector_geom.proofs.clearance.is_clockwise_of.Goals as goal

pub overflow_mul-z : goal.overflow_mul-z
overflow_mul-z c =
    let f = ray_fits c.args.ray c.requires.ray in
    let g = rect_fits c.args.r.now c.requires.rect in
    simp (to_z-of_z f.z, to_z-of_z g.y0) (product_fits c.args.ray.1 c.args.r.now.y0 c.requires.ray.z c.requires.rect.y0)

pub overflow_mul-z-2 : goal.overflow_mul-z-2
overflow_mul-z-2 c =
    let f = ray_fits c.args.ray c.requires.ray in
    let g = rect_fits c.args.r.now c.requires.rect in
    simp (to_z-of_z f.z, to_z-of_z g.y1) (product_fits c.args.ray.1 c.args.r.now.y1 c.requires.ray.z c.requires.rect.y1)

pub returns : goal.returns
returns c =
    let p = c.args.ray in let r = c.args.r.now in let h = c.requires.ray in let k = c.requires.rect in
    let f = ray_fits p h in
    let g = rect_fits r k in
    let yz0 = product_fits p.0 r.z0 h.y k.z0 in
    let yz1 = product_fits p.0 r.z1 h.y k.z1 in
    let zy0 = product_fits p.1 r.y0 h.z k.y0 in
    let zy1 = product_fits p.1 r.y1 h.z k.y1 in
    let em = simp (to_z-of_z f.y, to_z-of_z g.z0, to_z-of_z g.z1, to_z-of_z yz0, to_z-of_z yz1) at c.max.ensures.value in
    let en = simp (to_z-of_z f.z, to_z-of_z g.y0, to_z-of_z g.y1, to_z-of_z zy0, to_z-of_z zy1) at c.min.ensures.value in
    let fm : FitsSigned w64 c.max.result = search rules in
    let fn : FitsSigned w64 c.min.result = search rules in
    record { exact = simp (to_z-of_z fm, to_z-of_z fn) (all_at_most c.max.result c.min.result (p.0 *ℤ r.z0) (p.0 *ℤ r.z1) (p.1 *ℤ r.y0) (p.1 *ℤ r.y1) em en) }
