use Rattle.std.proofs.Common.{◌≡◌, FitsSigned, to_z-of_z, w64, rules}
use Rattle.std.specs.Int.{int_min, int_max}
use Rattle.sheet_paper.proofs.window.Area.joined.Goals as goal

pub returns : goal.returns
returns c =
    let a = c.args.self.now in
    let b = c.args.other.now in
    let a_x0 : FitsSigned w64 a.x0 = search rules in
    let a_x1 : FitsSigned w64 a.x1 = search rules in
    let a_y0 : FitsSigned w64 a.y0 = search rules in
    let a_y1 : FitsSigned w64 a.y1 = search rules in
    let b_x0 : FitsSigned w64 b.x0 = search rules in
    let b_x1 : FitsSigned w64 b.x1 = search rules in
    let b_y0 : FitsSigned w64 b.y0 = search rules in
    let b_y1 : FitsSigned w64 b.y1 = search rules in
    let fits_x0 : FitsSigned w64 c.min.result = search rules in
    let fits_x1 : FitsSigned w64 c.max.result = search rules in
    let fits_y0 : FitsSigned w64 c.min-2.result = search rules in
    let fits_y1 : FitsSigned w64 c.max-2.result = search rules in
    let x0 : c.min.result ≡ int_min a.x0 b.x0 = simp (to_z-of_z a_x0, to_z-of_z b_x0) at c.min.ensures.value in
    let x1 : c.max.result ≡ int_max a.x1 b.x1 = simp (to_z-of_z a_x1, to_z-of_z b_x1) at c.max.ensures.value in
    let y0 : c.min-2.result ≡ int_min a.y0 b.y0 = simp (to_z-of_z a_y0, to_z-of_z b_y0) at c.min-2.ensures.value in
    let y1 : c.max-2.result ≡ int_max a.y1 b.y1 = simp (to_z-of_z a_y1, to_z-of_z b_y1) at c.max-2.ensures.value in
    simp (to_z-of_z fits_x0, to_z-of_z fits_x1, to_z-of_z fits_y0, to_z-of_z fits_y1) (λ i. record { x0 = x0 i; x1 = x1 i; y0 = y0 i; y1 = y1 i })
