use Rattle.std.proofs.Common.{◌≡◌, ◌∙◌, ◌++◌, ◌^◌, ℤ, pos, ap, FitsSigned, to_z-of_z, w64, arith}
use Rattle.std.specs.Prelude.{codes}
use Rattle.algebra.proofs.Widths.{fits_64}
use Rattle.sheet_paper.specs.declared.window.Area.{Area}
use Rattle.sheet_paper.specs.FigureLines.{rectangle_line}
use Rattle.sheet_figures.specs.Beds.{stripe}
use Rattle.sheet_figures.proofs.bed.put_bed_range.Goals as goal

pub returns : goal.returns
returns c =
    let window = c.args.window.now in
    let bed = c.bed_of-bed.result in
    let fits_from : FitsSigned w64 bed.0 = fits_64 _ (2 ^ 40) c.bed_of-bed.ensures.from (omega arith) in
    let fits_to : FitsSigned w64 bed.1 = fits_64 _ (2 ^ 40) c.bed_of-bed.ensures.to (omega arith) in
    let area : c.stripe-area.result ≡ stripe window bed.0 bed.1 (pos 10) (pos 40) = simp (to_z-of_z fits_from, to_z-of_z fits_to) at c.stripe-area.ensures in
    let is = area ∙ ap (λ (b : ℤ × ℤ). stripe window b.0 b.1 (pos 10) (pos 40)) c.bed_of-bed.ensures.value in
    c.in_ok-put_rectangle.ensures ∙ ap (λ (a : Area). c.args.out.now.items ++ rectangle_line window (codes "edge") (pos 2) a) is
