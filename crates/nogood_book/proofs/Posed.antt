-- The poses in which a reason is asked of an action at a key, and keys of one set.
use Rattle.std.proofs.Common.{◌≡◌, ◌↔◌, Bool, IsTrue, sym, ◌∙◌, ap}
use Rattle.brake_base.specs.declared.mask.Mask.{Mask}
use Rattle.brake_base.specs.declared.stroke.Key.{Key}
use Rattle.brake_base.specs.declared.stroke.Action.{Action}
use Rattle.brake_base.specs.declared.reason.Reason.{Reason}
use Rattle.fold_boxes.specs.Pose.{PoseData}
use Rattle.job_setup.specs.Setup.{JobData}
use Rattle.job_setup.specs.StrokeGroup.{group_of, is_lead}
use Rattle.job_setup.specs.ValidJob.{IsJob}
use Rattle.job_setup.specs.Reasons.{IsReason, IsPoseAt}
use Rattle.handling_cost.specs.StepCost.{IsActionAt}
use Rattle.handling_cost.specs.Plan.{IsReasonFor, pose_before}
use Rattle.handling_cost.proofs.Actions.{few_bends}
use Rattle.handling_cost.proofs.ActionGroups.{action_groups}

abbrev pub pose_at_key : (job : JobData) → IsJob job → (key : Key) (action : Action) → IsActionAt job key action → (pose : PoseData) → pose ≡ pose_before job key.mask action → IsPoseAt job action.stage pose
pose_at_key job fit key action at pose same = record {
  mask = key.mask;
  group = group_of job key.mask action.bend;
  back = action.back;
  stroke = action_groups job (few_bends job fit) key action at;
  within = at.stage;
  value = same;
}

-- a test whether a reason holds in that pose is one whether it holds against the action
pub told_for : (job : JobData) (mask : Mask) (action : Action) (reason : Reason) (result : Bool) → IsTrue result ↔ IsReason job mask (group_of job mask action.bend) action.back action.stage reason → IsTrue result ↔ IsReasonFor job mask action reason
unfolding IsReasonFor
told_for job mask action reason result told = told

-- what can be tried at a key can be tried at each key of its set
pub at_same : (job : JobData) (key other : Key) (action : Action) → key.mask ≡ other.mask → IsActionAt job key action → IsActionAt job other action
at_same job key other action same at = record { first = at.first; last = at.last; stage = at.stage; lead = ap (λ (m : Mask). is_lead job m action.bend) (sym same) ∙ at.lead }
