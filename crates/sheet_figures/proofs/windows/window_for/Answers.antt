use Rattle.std.proofs.Common.{◌≡◌, ◌^◌, FitsSigned, to_z-of_z, w64, arith}
use Rattle.std.proofs.lemmas.Int.{ints}
use Rattle.algebra.proofs.Widths.{fits_64}
use Rattle.sheet_paper.specs.Windows.{window_around}
use Rattle.sheet_figures.proofs.windows.window_for.Goals as goal

pub returns-clause-value : goal.returns-clause-value
returns-clause-value c =
    let scale = c.scale_for-scale.result in
    let valid = c.scale_for-scale.ensures.valid in
    let fits_scale : FitsSigned w64 scale = fits_64 _ (2 ^ 24) (omega (arith, ints, valid.some, valid.near)) (omega arith) in
    let fits_number : FitsSigned w64 c.args.number = c.ranges.number in
    let is : c.around.result ≡ window_around c.args.paper scale scale 3 c.args.area.now c.args.number = simp to_z-of_z at c.around.ensures.value in
    record { scale = scale; least = c.scale_for-scale.ensures.least; value = is }
