use Rattle.std.proofs.Common.{subst}
use Rattle.brake_base.specs.declared.mask.Mask.{Mask}
use Rattle.fold_boxes.specs.Pose.{PoseData}
use Rattle.gauge_rules.specs.Pairs.{IsFirstLegal}
use Rattle.handling_cost.proofs.Keys.{some_stage}
use Rattle.stroke_table.specs.Finding.{IsGaugeOf}
use Rattle.stroke_table.proofs.SameGauge.{same_first}
use Rattle.stroke_table.proofs.finding.find_gauge.Goals as goal

pub pose_at-requires-clause-stage : goal.pose_at-requires-clause-stage
pose_at-requires-clause-stage c = some_stage c.args.job.now c.recall_valid.ensures

pub returns : goal.returns
returns c =
    let job = c.args.job.now in
    let group = c.stroke_group-group.result in
    let gauge = c.first_legal.result in
    let first = subst (λ (p : PoseData). IsFirstLegal job p gauge) c.pose_at.ensures.value c.first_legal.ensures.first in
    let legal : IsGaugeOf job c.args.mask group c.args.back gauge = λ stage within. same_first job c.args.mask group c.args.back 0 stage gauge first in
    subst (λ (g : Mask). IsGaugeOf job c.args.mask g c.args.back gauge) c.stroke_group-group.ensures.value legal
