-- What is found of a step's stroke makes it legal, or is its first fault.
use Rattle.std.proofs.Common.{◌≡◌, None}
use Rattle.brake_base.specs.declared.stroke.Key.{Key}
use Rattle.brake_base.specs.declared.stroke.Step.{Step}
use Rattle.fold_boxes.specs.Pose.{PoseData}
use Rattle.job_setup.specs.Setup.{JobData}
use Rattle.job_setup.specs.ValidJob.{IsJob}
use Rattle.job_setup.specs.StrokeGroup.{group_of}
use Rattle.job_setup.specs.Reasons.{IsPoseAt, pose_at}
use Rattle.job_setup.specs.LegalGauge.{IsLegalPair}
use Rattle.sweep_check.specs.FirstReasons.{IsFirstBeforeNoGauge}
use Rattle.handling_cost.specs.StepCost.{IsActionAt}
use Rattle.handling_cost.specs.Plan.{IsReasonFor, IsGaugeFor, IsLegal}
use Rattle.handling_cost.proofs.Actions.{few_bends}
use Rattle.handling_cost.proofs.ActionGroups.{action_groups}
use Rattle.cert_check.specs.declared.fault.StepFault.TheVariants.{BadGauge}
use Rattle.cert_check.specs.StepFaults.{IsStepFault}

module _ (job : JobData) (is_job : IsJob job) (key : Key) (step : Step) (at : IsActionAt job key step.action) where
  abbrev pub stroke_pose : (pose : PoseData) → pose ≡ pose_at job key.mask (group_of job key.mask step.action.bend) step.action.back step.action.stage → IsPoseAt job step.action.stage pose
  stroke_pose pose is = record {
    mask = key.mask;
    group = group_of job key.mask step.action.bend;
    back = step.action.back;
    stroke = action_groups job (few_bends job is_job) key step.action at;
    within = at.stage;
    value = is;
  }

  module _ (free : IsFirstBeforeNoGauge job key.mask (group_of job key.mask step.action.bend) step.action.back step.action.stage None) where
    pub legal_stroke : IsLegalPair job (pose_at job key.mask (group_of job key.mask step.action.bend) step.action.back step.action.stage) step.gauge → IsLegal job key step
    unfolding IsReasonFor IsGaugeFor
    legal_stroke gauge = record { action = at; free = free; gauge = gauge }

    pub bad_gauge : (IsLegalPair job (pose_at job key.mask (group_of job key.mask step.action.bend) step.action.back step.action.stage) step.gauge → ⊥) → IsStepFault job key step BadGauge
    unfolding IsReasonFor IsGaugeFor
    bad_gauge none = (at, free, none)
