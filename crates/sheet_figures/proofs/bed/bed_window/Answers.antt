use Rattle.std.proofs.Common.{◌≡◌, ◌∙◌, ◌+◌, ◌^◌, pos, ◌-ℤ◌, FitsSigned, to_z-of_z, w64, ap, arith}
use Rattle.std.proofs.lemmas.Int.{ints}
use Rattle.algebra.proofs.Widths.{abs-sub, fits_64}
use Rattle.sheet_paper.specs.declared.window.Area.{Area}
use Rattle.sheet_paper.specs.declared.window.Paper.{Paper}
use Rattle.sheet_paper.specs.Scales.{IsLeastScale}
use Rattle.sheet_paper.specs.Windows.{window_around}
use Rattle.sheet_figures.specs.Beds.{bed_paper, bed_area}
use Rattle.sheet_figures.proofs.bed.bed_window.Goals as goal

pub returns-clause-value : goal.returns-clause-value
returns-clause-value c =
    let bed = c.args.bed in
    let number = c.args.number in
    let scale = c.least_scale-scale.result in
    let valid = c.least_scale-scale.ensures.valid in
    let fits_from : FitsSigned w64 bed.0 = fits_64 _ (2 ^ 40) c.requires.from (omega arith) in
    let fits_to : FitsSigned w64 bed.1 = fits_64 _ (2 ^ 40) c.requires.to (omega arith) in
    let fits_width : FitsSigned w64 (bed.1 -ℤ bed.0) = fits_64 _ (2 ^ 40 + 2 ^ 40) (abs-sub bed.1 bed.0 (2 ^ 40) (2 ^ 40) c.requires.to c.requires.from) (omega arith) in
    let fits_scale : FitsSigned w64 scale = fits_64 _ (2 ^ 24) (omega (arith, ints, valid.some, valid.near)) (omega arith) in
    let least : IsLeastScale (bed.1 -ℤ bed.0) (pos 0) (pos 1740) (pos 1) scale = simp (to_z-of_z fits_from, to_z-of_z fits_to, to_z-of_z fits_width) at c.least_scale-scale.ensures.least in
    let area : c.bed_area-area.result ≡ bed_area bed.0 bed.1 scale = simp (to_z-of_z fits_from, to_z-of_z fits_to, to_z-of_z fits_scale) at c.bed_area-area.ensures.value in
    let is : c.around.result ≡ window_around c.bed_paper.result scale scale 3 c.bed_area-area.result number = simp (to_z-of_z fits_scale, to_z-of_z c.ranges.number) at c.around.ensures.value in
    record {
      scale = scale;
      least = least;
      value = is ∙ ap (λ (paper : Paper). window_around paper scale scale 3 c.bed_area-area.result number) c.bed_paper.ensures.value ∙ ap (λ (a : Area). window_around bed_paper scale scale 3 a number) area;
    }
