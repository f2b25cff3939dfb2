use Rattle.std.proofs.Common.{◌≡◌, ◌∙◌, ◌++◌, ◌^◌, ℤ, pos, ap, FitsSigned, to_z-of_z, w64, arith}
use Rattle.std.specs.Prelude.{codes}
use Rattle.algebra.proofs.Widths.{fits_64}
use Rattle.job_setup.specs.StageOf.{stage_of}
use Rattle.sheet_paper.specs.declared.window.Area.{Area}
use Rattle.sheet_paper.specs.FigureLines.{rectangle_line}
use Rattle.sheet_figures.specs.Beds.{station_stripe}
use Rattle.sheet_figures.proofs.bed.put_station.Goals as goal

pub returns : goal.returns
returns c =
    let window = c.args.window.now in
    let range = c.range_of-range.result in
    let stage = stage_of c.args.job.now c.args.stage in
    let near = c.range_of-range.ensures in
    let fits_from : FitsSigned w64 range.0 = fits_64 _ (2 ^ 40) near.near_from (omega arith) in
    let fits_to : FitsSigned w64 range.1 = fits_64 _ (2 ^ 40) near.near_to (omega arith) in
    let area : c.station_stripe-area.result ≡ station_stripe window range.0 range.1 = simp (to_z-of_z fits_from, to_z-of_z fits_to) at c.station_stripe-area.ensures in
    let is : c.station_stripe-area.result ≡ station_stripe window stage.x0 stage.x1 = area ∙ ap (λ (x : ℤ). station_stripe window x range.1) near.from ∙ ap (λ (x : ℤ). station_stripe window stage.x0 x) near.to in
    c.in_ok-put_rectangle.ensures ∙ ap (λ (a : Area). c.args.out.now.items ++ rectangle_line window (codes "solid") (pos 1) a) is
