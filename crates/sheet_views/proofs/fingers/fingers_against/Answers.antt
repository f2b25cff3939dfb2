use Rattle.std.proofs.Common.{◌≡◌, ◌∙◌, ap, sym, subst, ℤ, to_z, of_z, w64, arith}
use Rattle.std.proofs.lemmas.Int.{ints}
use Rattle.machine_file.specs.declared.machine.GaugeRule.{GaugeRule}
use Rattle.job_setup.specs.LegalGauge.{far_edge, left_finger, right_finger, finger_box}
use Rattle.sheet_views.specs.Near.{IsNearFingers}
use Rattle.sheet_views.proofs.NearViews.{near_fingers}
use Rattle.sheet_views.proofs.fingers.fingers_against.Goals as goal

pub returns-clause-value : goal.returns-clause-value
returns-clause-value c =
    let job = c.args.job.now in
    let near = c.requires.left.hi.y in
    let box = λ (r : ℤ × ℤ). finger_box job.setup.gauge job.part.thickness (far_edge c.args.left.now) r in
    let edge : to_z w64 (of_z w64 c.args.left.now.body.hi.y) ≡ far_edge c.args.left.now = omega (arith, ints, near) in
    let left = c.finger_box.ensures ∙ ap box (c.left_finger.ensures ∙ ap (λ (r : GaugeRule). left_finger r c.args.left.now) c.gauge_rule-rule.ensures.value) in
    let right = c.finger_box-2.ensures ∙ ap box (c.right_finger.ensures ∙ ap (λ (r : GaugeRule). right_finger r c.args.right.now) c.gauge_rule-rule.ensures.value) in
    λ i. record { edge = edge i; left = left i; right = right i }

pub returns-clause-near : goal.returns-clause-near
returns-clause-near c = subst IsNearFingers (sym (returns-clause-value c)) (near_fingers c.args.job.now c.recall_valid.ensures c.args.left.now c.args.right.now c.requires.left c.requires.right)
