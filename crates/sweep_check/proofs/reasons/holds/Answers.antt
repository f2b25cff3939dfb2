use Rattle.std.proofs.Common.{◌≡◌, ◌↔◌, ◌∙◌, ◌<◌, IsTrue, ap, sym, subst, List, length}
use Rattle.fold_boxes.specs.declared.posed_part.PoseBox.{PoseBox}
use Rattle.fold_boxes.specs.Pose.{PoseData, pose_data}
use Rattle.brake_base.specs.declared.stroke.Back.{Back}
use Rattle.job_setup.specs.Reasons.{IsReasonOf}
use Rattle.sweep_check.specs.FirstReasons.{back_in}
use Rattle.sweep_check.proofs.PoseBoxes.{pose_solid, lead_within, back_is}
use Rattle.sweep_check.proofs.reasons.holds.Goals as goal

pub back_of-back-requires : goal.back_of-back-requires
back_of-back-requires c = subst (λ (xs : List PoseBox). c.args.pose.now.bend < length xs) (sym c.as_slice.ensures.value) (lead_within c.args.job.now c.args.stage (pose_data c.args.pose.now) c.recall_valid.ensures c.requires.pose)

pub holds_with-requires-clause-stage : goal.holds_with-requires-clause-stage
holds_with-requires-clause-stage c = c.requires.pose.within

pub holds_with-requires-clause-boxes : goal.holds_with-requires-clause-boxes
holds_with-requires-clause-boxes c = pose_solid c.args.job.now c.args.stage (pose_data c.args.pose.now) c.recall_valid.ensures c.requires.pose

pub returns : goal.returns
returns c = record {
  exact = λ stroke.
      let job = c.args.job.now in
      let pose = pose_data c.args.pose.now in
      let back : c.back_of-back.result ≡ back_in pose.boxes pose.bend = c.back_of-back.ensures ∙ ap (λ (xs : List PoseBox). back_in xs c.args.pose.now.bend) c.as_slice.ensures.value in
      subst (λ (p : PoseData). IsTrue c.holds_with.result ↔ IsReasonOf job p stroke.back c.args.stage c.args.reason) stroke.value
      (subst (λ (b : Back). IsTrue c.holds_with.result ↔ IsReasonOf job pose b c.args.stage c.args.reason) (back ∙ back_is job c.args.stage pose c.recall_valid.ensures stroke) c.holds_with.ensures);
}
