use Rattle.std.proofs.Common.{◌≡◌, ◌∙◌, ◌+◌, ◌^◌, ◌≤◌, pos, ◌+ℤ◌, neg_ℤ, unsigned_abs, ap, FitsSigned, to_z-of_z, w64, arith}
use Rattle.std.proofs.lemmas.Int.{ints}
use Rattle.algebra.proofs.Widths.{abs-add, abs-neg, fits_64}
use Rattle.brake_base.specs.declared.space.V3.{V3}
use Rattle.brake_base.specs.Vectors.{vector}
use Rattle.brake_base.specs.Turns.{map_of, mapped}
use Rattle.sheet_figures.proofs.face_corner.corner_point.Goals as goal

pub returns : goal.returns
returns c =
    let core = c.args.core.now in
    let right = c.args.right in
    let up = c.args.up in
    let point = c.map-point.result in
    let low = c.requires.core.x0 in
    let left = c.requires.core.y0 in
    let near_x0 : unsigned_abs core.x0 ≤ 2 ^ 25 = omega (arith, ints, low.low, low.high) in
    let near_y0 : unsigned_abs core.y0 ≤ 2 ^ 25 = omega (arith, ints, left.low, left.high) in
    let fits_x0 : FitsSigned w64 core.x0 = fits_64 _ (2 ^ 25) near_x0 (omega arith) in
    let fits_y0 : FitsSigned w64 core.y0 = fits_64 _ (2 ^ 25) near_y0 (omega arith) in
    let fits_right : FitsSigned w64 right = c.ranges.right in
    let fits_up : FitsSigned w64 up = c.ranges.up in
    let fits_x : FitsSigned w64 (core.x0 +ℤ right) = fits_64 _ (2 ^ 25 + 2 ^ 36) (abs-add core.x0 right (2 ^ 25) (2 ^ 36) near_x0 c.requires.right) (omega arith) in
    let fits_y : FitsSigned w64 (core.y0 +ℤ up) = fits_64 _ (2 ^ 25 + 2 ^ 36) (abs-add core.y0 up (2 ^ 25) (2 ^ 36) near_y0 c.requires.up) (omega arith) in
    let fits_point_x : FitsSigned w64 point.x = fits_64 _ (2 ^ 41) c.map-point.ensures.near.x (omega arith) in
    let fits_point_y : FitsSigned w64 point.y = fits_64 _ (2 ^ 41) c.map-point.ensures.near.y (omega arith) in
    let is : point ≡ mapped (map_of c.args.place.now) (vector (core.x0 +ℤ right) (core.y0 +ℤ up) (pos 0)) = simp to_z-of_z at c.map-point.ensures.value in
    let down : c.downwards.result ≡ neg_ℤ point.y = simp to_z-of_z at c.downwards.ensures in
    let near_down : unsigned_abs c.downwards.result ≤ 2 ^ 41 = omega (arith, ap unsigned_abs down, abs-neg point.y, c.map-point.ensures.near.y) in
    let fits_down : FitsSigned w64 c.downwards.result = fits_64 _ (2 ^ 41) near_down (omega arith) in
    let below = down ∙ ap (λ (p : V3). neg_ℤ p.y) is in
    simp (to_z-of_z fits_point_x, to_z-of_z fits_down) (λ i. ((is i).x, below i))
