use Rattle.std.proofs.Common.{◌≡◌, ℕ, List, ◌++◌, ap, subst, ◌∙◌}
use Rattle.std.specs.Prelude.{OnOk}
use Rattle.fold_boxes.specs.declared.posed_part.PoseBox.{PoseBox}
use Rattle.fold_boxes.specs.Pose.{PoseData}
use Rattle.machine_file.specs.declared.machine.GaugeRule.{GaugeRule}
use Rattle.job_setup.specs.Setup.{SetupData}
use Rattle.handling_cost.specs.Plan.{pose_before}
use Rattle.setup_sheet.specs.OrderSheet.{gauge_words, gauge_words_of, posed_face}
use Rattle.setup_sheet.proofs.order.put_gauge_of.Goals as goal

pub returns : goal.returns
returns c =
    let job = c.args.job.now in
    let gauge = c.args.step.now.gauge in
    let pose = c.pose_before-pose.ensures.value in
    let left = c.posed_face-left.ensures.value ∙ ap (λ (p : PoseData). posed_face p gauge.left_face) pose in
    let right = c.posed_face-right.ensures.value ∙ ap (λ (p : PoseData). posed_face p gauge.right_face) pose in
    let words : gauge_words c.setup.result.now.gauge gauge c.posed_face-left.result.now c.posed_face-right.result.now ≡ gauge_words_of job c.args.key.now.mask c.args.step.now =
    ap (λ (r : GaugeRule). gauge_words r gauge c.posed_face-left.result.now c.posed_face-right.result.now) (ap (λ (s : SetupData). s.gauge) c.setup.ensures.value)
    ∙ ap (λ (b : PoseBox). gauge_words job.setup.gauge gauge b c.posed_face-right.result.now) left
    ∙ ap (λ (b : PoseBox). gauge_words job.setup.gauge gauge (posed_face (pose_before job c.args.key.now.mask c.args.step.now.action) gauge.left_face) b) right in
    subst (λ (t : List ℕ). OnOk c.put_gauge.result (c.put_gauge.new.out.items ≡ c.args.out.now.items ++ t)) words c.put_gauge.ensures
