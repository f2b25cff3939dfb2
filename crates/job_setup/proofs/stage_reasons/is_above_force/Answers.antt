use Rattle.std.proofs.Common.{◌≡◌, ◌∙◌, ap, ℤ, pos, ◌*ℤ◌, int_lt, to_z, of_z, to_z-of_z, FitsSigned, rules, w64, arith}
use Rattle.std.proofs.lemmas.Int.{ints}
use Rattle.brake_base.specs.Masks.{has}
use Rattle.fold_boxes.specs.Shapes.{ShapeData}
use Rattle.job_setup.specs.Setup.{SetupData, shape_of}
use Rattle.job_setup.specs.Reasons.{lines_total}
use Rattle.job_setup.proofs.stage_reasons.is_above_force.Goals as goal

pub returns : goal.returns
returns c =
    let job = c.args.job.now in
    let force = c.setup.ensures.valid.setup.rules.force in
    let same = ap (λ (s : SetupData). s.force) c.setup.ensures.value in
    let limit : to_z w64 (of_z w64 (pos 1000 *ℤ to_z w64 (of_z w64 c.setup.result.now.force))) ≡ pos 1000 *ℤ job.setup.force = omega (arith, ints, same, force.bottom, force.top) in
    let fits : FitsSigned w64 c.force_of.result = search rules in
    let product : c.force_of.result ≡ c.args.stage.now.load *ℤ c.lines_total.result = search (rules, to_z-of_z) in
    let lines : c.lines_total.result ≡ lines_total (shape_of job) (has c.args.group) = c.lines_total.ensures.value ∙ ap (λ (s : ShapeData). lines_total s (has c.args.group)) c.shape.ensures.value in
    let needed = to_z-of_z fits ∙ product ∙ (λ i. c.args.stage.now.load *ℤ lines i) in
    λ i. int_lt (limit i) (needed i)
