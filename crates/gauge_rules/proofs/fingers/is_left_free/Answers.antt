use Rattle.std.proofs.Common.{◌∙◌, ap, ℤ}
use Rattle.machine_file.specs.declared.machine.GaugeRule.{GaugeRule}
use Rattle.job_setup.specs.LegalGauge.{far_edge, left_finger, finger_box}
use Rattle.fold_boxes.specs.Pose.{pose_data}
use Rattle.gauge_rules.proofs.Small.{same_free}
use Rattle.gauge_rules.proofs.fingers.is_left_free.Goals as goal

pub returns : goal.returns
returns c =
    let job = c.args.job.now in
    let range = c.left_finger-range.ensures ∙ ap (λ (r : GaugeRule). left_finger r c.args.left.now) c.gauge_rule.ensures.value in
    same_free (pose_data c.args.pose.now) _ _ _ (c.finger_box.ensures ∙ ap (λ (r : ℤ × ℤ). finger_box job.setup.gauge job.part.thickness (far_edge c.args.left.now) r) range) c.is_free.ensures
