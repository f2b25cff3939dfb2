use Rattle.std.proofs.Common.{◌≡◌, ◌∙◌, ◌<◌, ap, sym, subst, List, length}
use Rattle.fold_boxes.specs.declared.posed_part.PoseBox.{PoseBox}
use Rattle.fold_boxes.specs.Pose.{pose_data}
use Rattle.brake_base.specs.declared.stroke.Back.{Back}
use Rattle.sweep_check.specs.FirstReasons.{back_in, IsFirstAmong}
use Rattle.sweep_check.proofs.PoseBoxes.{pose_solid, lead_within, back_is}
use Rattle.sweep_check.proofs.Strokes.{first_of_stroke, free_of_none}
use Rattle.sweep_check.proofs.SunkLaw.{sunk_law}
use Rattle.sweep_check.proofs.reasons.first_reason.Goals as goal

pub back_of-back-requires : goal.back_of-back-requires
back_of-back-requires c = subst (λ (xs : List PoseBox). c.args.pose.now.bend < length xs) (sym c.as_slice.ensures.value) (lead_within c.args.job.now c.args.stage (pose_data c.args.pose.now) c.recall_valid.ensures c.requires.pose)

pub first_of-requires-clause-stage : goal.first_of-requires-clause-stage
first_of-requires-clause-stage c = c.requires.pose.within

pub first_of-requires-clause-boxes : goal.first_of-requires-clause-boxes
first_of-requires-clause-boxes c = pose_solid c.args.job.now c.args.stage (pose_data c.args.pose.now) c.recall_valid.ensures c.requires.pose

pub returns-clause-first : goal.returns-clause-first
returns-clause-first c = λ stroke.
    let pose = pose_data c.args.pose.now in
    let back : c.back_of-back.result ≡ back_in pose.boxes pose.bend = c.back_of-back.ensures ∙ ap (λ (xs : List PoseBox). back_in xs c.args.pose.now.bend) c.as_slice.ensures.value in
    first_of_stroke c.args.job.now c.args.stage pose c.first_of.result stroke
    (subst (λ (b : Back). IsFirstAmong c.args.job.now pose b c.args.stage 1 8 c.first_of.result) (back ∙ back_is c.args.job.now c.args.stage pose c.recall_valid.ensures stroke) c.first_of.ensures)

pub returns-clause-sunk : goal.returns-clause-sunk
returns-clause-sunk c = sunk_law c.args.job.now c.recall_valid.ensures c.args.stage (pose_data c.args.pose.now) c.requires.pose

pub returns-clause-motion : goal.returns-clause-motion
returns-clause-motion c = free_of_none c.args.job.now c.args.stage (pose_data c.args.pose.now) c.recall_valid.ensures c.requires.pose c.first_of.result (returns-clause-first c c.requires.pose)
