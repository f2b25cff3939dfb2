use Rattle.std.proofs.Common.{◌≡◌, ◌∙◌, ap, ◌*ℤ◌, to_z-of_z, FitsSigned, w64, rules}
use Rattle.brake_base.specs.Masks.{has}
use Rattle.fold_boxes.specs.Shapes.{ShapeData}
use Rattle.job_setup.specs.Setup.{shape_of}
use Rattle.job_setup.specs.Reasons.{lines_total}
use Rattle.sheet_words.proofs.loads.needed_force.Goals as goal

pub returns : goal.returns
returns c =
    let product : c.force_of.result ≡ c.args.stage.now.load *ℤ c.lines_total.result = search (rules, to_z-of_z) in
    let lines : c.lines_total.result ≡ lines_total (shape_of c.args.job.now) (has c.args.group) = c.lines_total.ensures.value ∙ ap (λ (s : ShapeData). lines_total s (has c.args.group)) c.shape.ensures.value in
    let fits : FitsSigned w64 c.force_of.result = search rules in
    to_z-of_z fits ∙ product ∙ (λ i. c.args.stage.now.load *ℤ lines i)
