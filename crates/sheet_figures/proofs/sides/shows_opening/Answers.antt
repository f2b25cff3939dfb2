use Rattle.std.proofs.Common.{◌+◌, ◌*◌, ◌^◌, pos, ◌-ℤ◌, ◌*ℤ◌, refl, FitsSigned, to_z-of_z, w64, arith}
use Rattle.std.proofs.lemmas.Int.{ints}
use Rattle.algebra.proofs.Widths.{abs-sub, abs-mul, fits_64}
use Rattle.sheet_paper.specs.Scales.{IsLeastScale}
use Rattle.sheet_figures.proofs.sides.shows_opening.Goals as goal

pub returns : goal.returns
returns c =
    let area = c.args.area.now in
    let width = area.x1 -ℤ area.x0 in
    let height = area.y1 -ℤ area.y0 in
    let scale = c.least_scale-scale.result in
    let valid = c.least_scale-scale.ensures.valid in
    let fits_x0 : FitsSigned w64 area.x0 = fits_64 _ (2 ^ 48) c.requires.x0 (omega arith) in
    let fits_x1 : FitsSigned w64 area.x1 = fits_64 _ (2 ^ 48) c.requires.x1 (omega arith) in
    let fits_y0 : FitsSigned w64 area.y0 = fits_64 _ (2 ^ 48) c.requires.y0 (omega arith) in
    let fits_y1 : FitsSigned w64 area.y1 = fits_64 _ (2 ^ 48) c.requires.y1 (omega arith) in
    let fits_width : FitsSigned w64 width = fits_64 _ (2 ^ 48 + 2 ^ 48) (abs-sub area.x1 area.x0 (2 ^ 48) (2 ^ 48) c.requires.x1 c.requires.x0) (omega arith) in
    let fits_height : FitsSigned w64 height = fits_64 _ (2 ^ 48 + 2 ^ 48) (abs-sub area.y1 area.y0 (2 ^ 48) (2 ^ 48) c.requires.y1 c.requires.y0) (omega arith) in
    let fits_v : FitsSigned w64 c.args.v = c.ranges.v in
    let fits_scale : FitsSigned w64 scale = fits_64 _ (2 ^ 24) (omega (arith, ints, valid.some, valid.near)) (omega arith) in
    let fits_opening : FitsSigned w64 (pos 25 *ℤ scale) = fits_64 _ (25 * 2 ^ 24) (abs-mul (pos 25) scale 25 (2 ^ 24) (omega arith) (omega (arith, ints, valid.some, valid.near))) (omega arith) in
    let least : IsLeastScale width height (pos 890) (pos 410) scale = simp to_z-of_z at c.least_scale-scale.ensures.least in
    record { scale = scale; least = least; value = simp to_z-of_z refl }
