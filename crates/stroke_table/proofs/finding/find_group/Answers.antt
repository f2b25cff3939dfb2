use Rattle.std.proofs.Common.{◌≡◌, ap, subst}
use Rattle.brake_base.specs.declared.mask.Mask.{Mask}
use Rattle.fold_boxes.specs.Pose.{PoseData}
use Rattle.job_setup.specs.Setup.{stage_count}
use Rattle.handling_cost.proofs.Keys.{some_stage}
use Rattle.stroke_table.specs.Codes.{HoldsAmong, AreLeastCodes}
use Rattle.stroke_table.proofs.finding.find_group.Goals as goal

pub pose_at-pose-requires-clause-stage : goal.pose_at-pose-requires-clause-stage
pose_at-pose-requires-clause-stage c = some_stage c.args.job.now c.recall_valid.ensures

pub returns-clause-record_ : goal.returns-clause-record_
returns-clause-record_ c =
    let job = c.args.job.now in
    let of = c.args.stroke.now.of in
    let same : c.pose_at-pose.result.group ≡ of.group = ap (λ (p : PoseData). p.group) c.pose_at-pose.ensures.value in
    record {
      lines = λ mask. subst (λ (g : Mask). AreLeastCodes (stage_count job) (HoldsAmong job mask (record { group = g; back = of.back }) 1 2) c.line_codes.result.0) same (c.line_codes.ensures mask);
      load = λ mask. subst (λ (g : Mask). AreLeastCodes (stage_count job) (HoldsAmong job mask (record { group = g; back = of.back }) 8 8) c.load_codes.result.0) same (c.load_codes.ensures mask of.back);
    }
