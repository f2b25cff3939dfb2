use Rattle.std.proofs.Common.{◌≡◌, ◌∙◌, ap, ℤ, arith}
use Rattle.std.proofs.lemmas.Int.{ints}
use Rattle.brake_base.specs.Masks.{has}
use Rattle.fold_boxes.specs.Shapes.{ShapeData}
use Rattle.fold_boxes.specs.Groups.{span}
use Rattle.fold_boxes.specs.Pose.{start_of_span}
use Rattle.job_setup.specs.Setup.{shape_of}
use Rattle.job_setup.specs.StageOf.{stage_of}
use Rattle.stroke_table.specs.BoxReasons.{start_at}
use Rattle.stroke_table.proofs.box_reasons.shift.Goals as goal

pub returns-clause-value : goal.returns-clause-value
returns-clause-value c =
    let job = c.args.job.now in
    let at = stage_of job c.args.stage in
    let first = stage_of job 0 in
    let lines : c.span-lines.result ≡ span (shape_of job) (has c.args.group) = c.span-lines.ensures.value ∙ ap (λ (s : ShapeData). span s (has c.args.group)) c.shape.ensures.value in
    let there : c.start_at.result ≡ start_at job c.args.group c.args.stage = c.start_at.ensures.value ∙ ap (λ (l : ℤ × ℤ). start_of_span l at.x0 at.x1) lines in
    let here : c.start_at-2.result ≡ start_at job c.args.group 0 = c.start_at-2.ensures.value ∙ ap (λ (l : ℤ × ℤ). start_of_span l first.x0 first.x1) lines in
    let one = c.start_at.ensures.near in
    let other = c.start_at-2.ensures.near in
    omega (arith, ints, there, here, one.low, one.high, other.low, other.high)
