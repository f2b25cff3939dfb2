use Rattle.std.proofs.Common.{◌≡◌, ◌∙◌, ◌^◌, ℤ, pos, ap, subst, FitsSigned, to_z-of_z, w64, arith}
use Rattle.std.proofs.lemmas.Int.{ints}
use Rattle.algebra.proofs.Widths.{fits_64}
use Rattle.job_setup.specs.StageOf.{stage_of}
use Rattle.sheet_paper.specs.Scales.{IsLeastScale}
use Rattle.sheet_paper.specs.Windows.{window_around}
use Rattle.sheet_figures.specs.AfterViews.{tools_point}
use Rattle.sheet_figures.proofs.windows.tools_window.Goals as goal

pub returns-clause-value : goal.returns-clause-value
returns-clause-value c =
    let v = c.opening-v.result in
    let opening = (stage_of c.args.job.now c.args.stage).die.v in
    let scale = c.least_scale-scale.result in
    let number = c.args.number in
    let valid = c.least_scale-scale.ensures.valid in
    let fits_v : FitsSigned w64 v = fits_64 _ (2 ^ 20) (omega (arith, ints, c.opening-v.ensures.some, c.opening-v.ensures.few)) (omega arith) in
    let fits_scale : FitsSigned w64 scale = fits_64 _ (2 ^ 24) (omega (arith, ints, valid.some, valid.near)) (omega arith) in
    let fits_number : FitsSigned w64 number = c.ranges.number in
    let fits_room : FitsSigned w64 c.args.room = c.ranges.room in
    let least : IsLeastScale v (pos 0) c.args.room (pos 1) scale = simp to_z-of_z at c.least_scale-scale.ensures.least in
    let point : c.tools_point.result ≡ tools_point v = simp to_z-of_z at c.tools_point.ensures.value in
    let at : c.tools_point.result ≡ tools_point opening = point ∙ ap tools_point c.opening-v.ensures.value in
    let is : c.around.result ≡ window_around c.args.paper scale scale 3 c.tools_point.result number = simp to_z-of_z at c.around.ensures.value in
    record {
      scale = scale;
      least = subst (λ (length : ℤ). IsLeastScale length (pos 0) c.args.room (pos 1) scale) c.opening-v.ensures.value least;
      value = is ∙ (λ i. window_around c.args.paper scale scale 3 (at i) number);
    }
