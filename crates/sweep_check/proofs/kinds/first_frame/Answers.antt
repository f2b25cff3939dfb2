use Rattle.std.proofs.Common.{◌∙◌, ap, subst, Some, None}
use Rattle.std.specs.Prelude.{Any}
use Rattle.fold_boxes.specs.declared.posed_part.PoseBox.{PoseBox}
use Rattle.job_setup.specs.Setup.{SetupData}
use Rattle.job_setup.specs.Reasons.{MeetsAlong}
use Rattle.sweep_check.specs.FirstReasons.{pose_of_boxes}
use Rattle.sweep_check.specs.Hits.{IsLeastNumber}
use Rattle.sweep_check.proofs.KindsOf.{no_frame, first_frame}
use Rattle.sweep_check.proofs.kinds.first_frame.Goals as goal

pub first_in_frame-requires : goal.first_in_frame-requires
first_in_frame-requires c = record { ascend = c.requires.boxes.ascend }

pub returns-in-Some : goal.returns-in-Some
returns-in-Some c = λ back stage.
    let frames = c.as_slice.ensures.value ∙ ap (λ (s : SetupData). s.frames) c.setup.ensures.value in
    first_frame c.args.job.now (pose_of_boxes c.args.boxes.now) back stage c.in-Some.body
    (subst (λ fs. IsLeastNumber (λ (body : PoseBox). body.id) (λ (body : PoseBox). Any (MeetsAlong body) fs) c.args.boxes.now (Some c.in-Some.body)) frames c.in-Some.ensures)

pub returns-in-None : goal.returns-in-None
returns-in-None c = λ back stage.
    let frames = c.as_slice.ensures.value ∙ ap (λ (s : SetupData). s.frames) c.setup.ensures.value in
    no_frame c.args.job.now (pose_of_boxes c.args.boxes.now) back stage
    (subst (λ fs. IsLeastNumber (λ (body : PoseBox). body.id) (λ (body : PoseBox). Any (MeetsAlong body) fs) c.args.boxes.now None) frames c.in-None.ensures)
