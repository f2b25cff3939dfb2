use Rattle.std.proofs.Common.{sym, subst}
use Rattle.fold_boxes.specs.Pose.{PoseData, pose_data}
use Rattle.job_setup.specs.StrokeGroup.{group_of}
use Rattle.job_setup.specs.LegalGauge.{IsLegalPair}
use Rattle.sweep_check.specs.FirstReasons.{IsFirstBeforeNoGauge}
use Rattle.cert_check.proofs.StrokeFaults.{stroke_pose, legal_stroke, bad_gauge}
use Rattle.cert_check.proofs.steps.stroke_fault.Goals as goal

pub first_reason-requires : goal.first_reason-requires
first_reason-requires c = record {
  pose = stroke_pose c.args.job.now c.pose_before-pose.ensures.valid c.args.key.now c.args.step c.requires.action (pose_data c.pose_before-pose.result) c.pose_before-pose.ensures.value;
}

pub returns-in-Some-clause-fault : goal.returns-in-Some-clause-fault
returns-in-Some-clause-fault c =
    let job = c.args.job.now in
    let key = c.args.key.now in
    let step = c.args.step in
    let pose = stroke_pose job c.pose_before-pose.ensures.valid key step c.requires.action (pose_data c.pose_before-pose.result) c.pose_before-pose.ensures.value in (
      c.requires.action,
      subst (IsFirstBeforeNoGauge job key.mask (group_of job key.mask step.action.bend) step.action.back step.action.stage) c.in-Some.is (c.first_reason.ensures.first pose),
    )

pub returns-then-legal-clause-legal : goal.returns-then-legal-clause-legal
returns-then-legal-clause-legal c =
    let job = c.args.job.now in
    let key = c.args.key.now in
    let step = c.args.step in
    let pose = stroke_pose job c.pose_before-pose.ensures.valid key step c.requires.action (pose_data c.pose_before-pose.result) c.pose_before-pose.ensures.value in
    legal_stroke job c.pose_before-pose.ensures.valid key step c.requires.action
    (subst (IsFirstBeforeNoGauge job key.mask (group_of job key.mask step.action.bend) step.action.back step.action.stage) c.in-None.is (c.first_reason.ensures.first pose))
    (subst (λ (p : PoseData). IsLegalPair job p step.gauge) c.pose_before-pose.ensures.value (c.legal.ensures.0 c.if-legal.true))

pub returns-else-legal-clause-fault : goal.returns-else-legal-clause-fault
returns-else-legal-clause-fault c =
    let job = c.args.job.now in
    let key = c.args.key.now in
    let step = c.args.step in
    let pose = stroke_pose job c.pose_before-pose.ensures.valid key step c.requires.action (pose_data c.pose_before-pose.result) c.pose_before-pose.ensures.value in
    bad_gauge job c.pose_before-pose.ensures.valid key step c.requires.action
    (subst (IsFirstBeforeNoGauge job key.mask (group_of job key.mask step.action.bend) step.action.back step.action.stage) c.in-None.is (c.first_reason.ensures.first pose))
    (λ pair.
    let holds = c.legal.ensures.1 (subst (λ (p : PoseData). IsLegalPair job p step.gauge) (sym c.pose_before-pose.ensures.value) pair) in
    let fails = c.if-legal.false in
    absurd cc)
