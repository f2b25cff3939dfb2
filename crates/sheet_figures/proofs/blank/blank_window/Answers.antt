use Rattle.std.proofs.Common.{◌≡◌, ◌^◌, pos, ◌-ℤ◌, ◌*ℤ◌, FitsSigned, to_z-of_z, w64, arith}
use Rattle.std.proofs.lemmas.Int.{ints}
use Rattle.algebra.proofs.Widths.{fits_64}
use Rattle.sheet_paper.specs.Scales.{IsLeastScale}
use Rattle.sheet_paper.specs.Windows.{window_around}
use Rattle.sheet_figures.specs.Blanks.{most_upright, blank_area, IsBlankPaper}
use Rattle.sheet_figures.proofs.blank.blank_window.Goals as goal

pub returns-clause-value : goal.returns-clause-value
returns-clause-value c =
    let flat = c.args.flat.now in
    let left = c.margin-left.result in
    let paper = c.paper_of.result in
    let scale = c.blank_scale-scale.result in
    let valid = c.blank_scale-scale.ensures.valid in
    let fits_width : FitsSigned w64 flat.width = fits_64 _ (2 ^ 40) c.requires.flat.width (omega arith) in
    let fits_height : FitsSigned w64 flat.height = fits_64 _ (2 ^ 40) c.requires.flat.height (omega arith) in
    let fits_left : FitsSigned w64 left = fits_64 _ (2 ^ 8) c.margin-left.ensures (omega arith) in
    let fits_scale : FitsSigned w64 scale = fits_64 _ (2 ^ 24) (omega (arith, ints, valid.some, valid.near)) (omega arith) in
    let paper_is : IsBlankPaper left paper = simp (to_z-of_z fits_left) at c.paper_of.ensures.value in
    let least : IsLeastScale flat.width flat.height (pos 10 *ℤ ((pos 186 -ℤ left) -ℤ pos 6)) (most_upright c.args.strokes) scale = simp (to_z-of_z fits_left, to_z-of_z c.ranges.strokes) at c.blank_scale-scale.ensures.least in
    let is : c.around.result ≡ window_around paper scale scale 3 (blank_area flat) c.args.number = simp (to_z-of_z fits_width, to_z-of_z fits_height, to_z-of_z fits_scale, to_z-of_z c.ranges.number) at c.around.ensures.value in
    record { left = left; paper = paper; paper_is = paper_is; scale = scale; least = least; value = is }
