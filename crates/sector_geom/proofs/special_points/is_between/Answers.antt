use Rattle.std.proofs.Common.{to_z-of_z, arith, FitsSigned, ◌*ℤ◌, ◌^◌, w64}
use Rattle.algebra.proofs.Widths.{fits_64, abs-mul, le_iff}
use Rattle.sector_geom.proofs.Fits.{corner_fits, crossing_fits}
use Rattle.sector_geom.proofs.special_points.is_between.Goals as goal

pub returns-then-range-point : goal.returns-then-range-point
returns-then-range-point c =
    let s = c.args.point in let b = c.requires.point in let r = c.args.range in
    let k = corner_fits r c.requires.range in let m = crossing_fits s b in
    let l : FitsSigned w64 r.0 = k.y in
    let h : FitsSigned w64 r.1 = k.z in
    let d : FitsSigned w64 s.d = m.d64 in
    let z : FitsSigned w64 s.z = m.z64 in
    let ld : FitsSigned w64 (r.0 *ℤ s.d) = fits_64 _ (2 ^ 61) (abs-mul r.0 s.d (2 ^ 30) (2 ^ 31) c.requires.range.y b.d) (omega arith) in
    let hd : FitsSigned w64 (r.1 *ℤ s.d) = fits_64 _ (2 ^ 61) (abs-mul r.1 s.d (2 ^ 30) (2 ^ 31) c.requires.range.z b.d) (omega arith) in
    let t = simp to_z-of_z at c.if-range-point.true in
    record { exact = simp to_z-of_z (λ e. ((le_iff (r.0 *ℤ s.d) s.z).0 t, (le_iff s.z (r.1 *ℤ s.d)).0 e), λ i. (le_iff s.z (r.1 *ℤ s.d)).1 i.1) }

pub returns-else-range-point : goal.returns-else-range-point
returns-else-range-point c =
    let s = c.args.point in let b = c.requires.point in let r = c.args.range in
    let k = corner_fits r c.requires.range in let m = crossing_fits s b in
    let l : FitsSigned w64 r.0 = k.y in
    let d : FitsSigned w64 s.d = m.d64 in
    let z : FitsSigned w64 s.z = m.z64 in
    let ld : FitsSigned w64 (r.0 *ℤ s.d) = fits_64 _ (2 ^ 61) (abs-mul r.0 s.d (2 ^ 30) (2 ^ 31) c.requires.range.y b.d) (omega arith) in
    let f = simp to_z-of_z at c.if-range-point.false in
    record { exact = simp to_z-of_z (λ e. absurd (cc), λ i. (le_iff (r.0 *ℤ s.d) s.z).1 i.0) }
