use Rattle.std.proofs.Common.{◌≡◌, ◌+◌, ◌*◌, ◌≤◌, ◌^◌, ℤ, pos, ◌-ℤ◌, ◌*ℤ◌, unsigned_abs, FitsSigned, to_z-of_z, w64, subst, arith}
use Rattle.std.proofs.lemmas.Int.{ints}
use Rattle.algebra.proofs.Widths.{abs-mul, abs-sub, fits_64}
use Rattle.sheet_paper.specs.Scales.{IsLeastScale}
use Rattle.sheet_figures.specs.Blanks.{most_upright}
use Rattle.sheet_figures.proofs.blank.blank_scale.Goals as goal

pub returns-clause-least : goal.returns-clause-least
returns-clause-least c =
    let flat = c.args.flat.now in
    let left = c.args.left in
    let scale = c.least_scale.result in
    let valid = c.least_scale.ensures.valid in
    let beside = pos 186 -ℤ left in
    let across = pos 10 *ℤ (beside -ℤ pos 6) in
    let near_beside : unsigned_abs beside ≤ 186 + 2 ^ 8 = abs-sub (pos 186) left 186 (2 ^ 8) (omega arith) c.requires.left in
    let near_room : unsigned_abs (beside -ℤ pos 6) ≤ (186 + 2 ^ 8) + 6 = abs-sub beside (pos 6) (186 + 2 ^ 8) 6 near_beside (omega arith) in
    let near_across : unsigned_abs across ≤ 10 * ((186 + 2 ^ 8) + 6) = abs-mul (pos 10) (beside -ℤ pos 6) 10 ((186 + 2 ^ 8) + 6) (omega arith) near_room in
    let fits_width : FitsSigned w64 flat.width = fits_64 _ (2 ^ 40) c.requires.flat.width (omega arith) in
    let fits_height : FitsSigned w64 flat.height = fits_64 _ (2 ^ 40) c.requires.flat.height (omega arith) in
    let fits_beside : FitsSigned w64 beside = fits_64 _ (186 + 2 ^ 8) near_beside (omega arith) in
    let fits_room : FitsSigned w64 (beside -ℤ pos 6) = fits_64 _ ((186 + 2 ^ 8) + 6) near_room (omega arith) in
    let fits_across : FitsSigned w64 across = fits_64 _ (10 * ((186 + 2 ^ 8) + 6)) near_across (omega arith) in
    let fits_upright : FitsSigned w64 c.most_upright.result = fits_64 _ (2 ^ 13) c.most_upright.ensures.near (omega arith) in
    let fits_scale : FitsSigned w64 scale = fits_64 _ (2 ^ 24) (omega (arith, ints, valid.some, valid.near)) (omega arith) in
    let upright : c.most_upright.result ≡ most_upright c.args.strokes = simp (to_z-of_z c.ranges.strokes) at c.most_upright.ensures.value in
    let least : IsLeastScale flat.width flat.height across c.most_upright.result scale = simp (to_z-of_z fits_width, to_z-of_z fits_height, to_z-of_z c.ranges.left, to_z-of_z fits_beside, to_z-of_z fits_room, to_z-of_z fits_across, to_z-of_z fits_upright) at c.least_scale.ensures.least in
    simp (to_z-of_z fits_scale) (subst (λ (u : ℤ). IsLeastScale flat.width flat.height across u scale) upright least)
