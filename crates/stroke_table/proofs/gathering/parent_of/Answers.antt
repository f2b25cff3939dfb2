use Rattle.std.proofs.Common.{◌∙◌, ℕ, ap}
use Rattle.unfolder.specs.Cores.{joint_of}
use Rattle.fold_boxes.specs.Shapes.{ShapeData}
use Rattle.fold_boxes.proofs.Leads.{least_is_lead}
use Rattle.job_setup.specs.Setup.{shape_of}
use Rattle.stroke_table.proofs.gathering.parent_of.Goals as goal

pub returns : goal.returns
returns c =
    let job = c.args.job.now in
    c.parent.ensures.value ∙ ap (λ (s : ShapeData). (joint_of s.part.faces c.in-Some.lead).on) c.shape.ensures.value
    ∙ ap (λ (b : ℕ). (joint_of job.part.faces b).on) (least_is_lead (shape_of job) c.args.stroke.now.of.group c.in-Some.lead c.requires.some c.in-Some.ensures.some)
