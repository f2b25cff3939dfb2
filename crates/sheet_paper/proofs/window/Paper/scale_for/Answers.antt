use Rattle.std.proofs.Common.{◌+◌, ◌^◌, ◌-ℤ◌, subst, ℤ, FitsSigned, to_z-of_z, w64, rules, arith}
use Rattle.algebra.proofs.Widths.{abs-sub, fits_64}
use Rattle.sheet_paper.specs.Scales.{IsLeastScale}
use Rattle.sheet_paper.specs.Windows.{across}
use Rattle.sheet_paper.proofs.window.Paper.scale_for.Goals as goal

pub returns-clause-least : goal.returns-clause-least
returns-clause-least c =
    let area = c.args.area.now in
    let paper = c.args.self.now in
    let x0 : FitsSigned w64 area.x0 = search rules in
    let x1 : FitsSigned w64 area.x1 = search rules in
    let y0 : FitsSigned w64 area.y0 = search rules in
    let y1 : FitsSigned w64 area.y1 = search rules in
    let wide : FitsSigned w64 (area.x1 -ℤ area.x0) = fits_64 _ (2 ^ 48 + 2 ^ 48) (abs-sub area.x1 area.x0 (2 ^ 48) (2 ^ 48) c.requires.area.x1 c.requires.area.x0) (omega arith) in
    let high : FitsSigned w64 (area.y1 -ℤ area.y0) = fits_64 _ (2 ^ 48 + 2 ^ 48) (abs-sub area.y1 area.y0 (2 ^ 48) (2 ^ 48) c.requires.area.y1 c.requires.area.y0) (omega arith) in
    let result : FitsSigned w64 c.least_scale.result = search rules in
    let room_x : FitsSigned w64 c.across.result = search rules in
    let room_y : FitsSigned w64 c.upright.result = search rules in
    let least : IsLeastScale (area.x1 -ℤ area.x0) (area.y1 -ℤ area.y0) c.across.result c.upright.result c.least_scale.result = simp (to_z-of_z x0, to_z-of_z x1, to_z-of_z y0, to_z-of_z y1, to_z-of_z wide, to_z-of_z high, to_z-of_z room_x, to_z-of_z room_y) at c.least_scale.ensures.least in
    let on_paper : IsLeastScale (area.x1 -ℤ area.x0) (area.y1 -ℤ area.y0) (across paper) c.upright.result c.least_scale.result = subst (λ (room : ℤ). IsLeastScale (area.x1 -ℤ area.x0) (area.y1 -ℤ area.y0) room c.upright.result c.least_scale.result) c.across.ensures.value least in
    simp (to_z-of_z result) (subst (λ (room : ℤ). IsLeastScale (area.x1 -ℤ area.x0) (area.y1 -ℤ area.y0) (across paper) room c.least_scale.result) c.upright.ensures.value on_paper)
