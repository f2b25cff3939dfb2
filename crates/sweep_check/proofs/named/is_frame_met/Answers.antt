use Rattle.std.proofs.Common.{◌↔◌, ◌≡◌, ◌∙◌, ap, subst, IsTrue, List}
use Rattle.std.specs.Prelude.{Any}
use Rattle.fold_boxes.specs.declared.posed_part.PoseBox.{PoseBox}
use Rattle.job_setup.specs.Setup.{SetupData}
use Rattle.job_setup.specs.Reasons.{MeetsAlong}
use Rattle.sweep_check.proofs.named.is_frame_met.Goals as goal

pub returns : goal.returns
returns c =
    let frames = c.as_slice-2.ensures.value ∙ ap (λ (s : SetupData). s.frames) c.setup.ensures.value in
    let number = c.args.number in
    subst (λ fs. IsTrue c.is_some_in_frame.result ↔ Any (λ (body : PoseBox). (body.id ≡ number) × Any (MeetsAlong body) fs) c.args.pose.now.boxes.items) frames
    (subst (λ (xs : List PoseBox). IsTrue c.is_some_in_frame.result ↔ Any (λ (body : PoseBox). (body.id ≡ number) × Any (MeetsAlong body) c.as_slice-2.result.now) xs) c.as_slice.ensures.value c.is_some_in_frame.ensures)
