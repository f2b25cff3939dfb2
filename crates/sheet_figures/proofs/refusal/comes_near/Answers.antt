use Rattle.std.proofs.Common.{◌≡◌, ◌≤◌, ◌*◌, ◌^◌, ℤ, pos, ◌*ℤ◌, unsigned_abs, ap, subst, sym, rules, FitsSigned, to_z-of_z, w64, arith}
use Rattle.std.specs.Prelude.{int_lt}
use Rattle.std.proofs.lemmas.Int.{ints}
use mir.Syntax.{w128}
use Rattle.algebra.proofs.Widths.{abs-mul, fits_64, fits_128}
use Rattle.sheet_figures.proofs.refusal.comes_near.Goals as goal

pub returns : goal.returns
returns c =
    let scale = c.args.scale in
    let near2 = c.args.cover.now.near2 in
    let reach = pos 200 *ℤ scale in
    let near_scale : unsigned_abs scale ≤ 2 ^ 23 = omega (arith, ints, c.requires.some, c.requires.near) in
    let near_reach : unsigned_abs reach ≤ 200 * 2 ^ 23 = abs-mul (pos 200) scale 200 (2 ^ 23) (omega arith) near_scale in
    let near_square : unsigned_abs (reach *ℤ reach) ≤ (200 * 2 ^ 23) * (200 * 2 ^ 23) = abs-mul reach reach (200 * 2 ^ 23) (200 * 2 ^ 23) near_reach near_reach in
    let fits_scale : FitsSigned w64 scale = c.ranges.scale in
    let fits_reach : FitsSigned w64 reach = fits_64 _ (200 * 2 ^ 23) near_reach (omega arith) in
    let fits_square : FitsSigned w64 (reach *ℤ reach) = fits_64 _ ((200 * 2 ^ 23) * (200 * 2 ^ 23)) near_square (omega arith) in
    let from : c.from.result ≡ reach *ℤ reach = simp to_z-of_z at c.from.ensures in
    let wide : FitsSigned w128 (reach *ℤ reach) = fits_128 _ ((200 * 2 ^ 23) * (200 * 2 ^ 23)) near_square (omega arith) in
    let fits_from : FitsSigned w128 c.from.result = subst (λ (z : ℤ). FitsSigned w128 z) (sym from) wide in
    let fits_near2 : FitsSigned w128 near2 = search rules in
    simp (to_z-of_z fits_near2, to_z-of_z fits_from) (ap (int_lt near2) from)
