-- The plans of a job: lists of legal steps that fold every bend, and what they cost in tenths of a
-- second. From sequence planning over bends with tooling, gauging and handling costs.
use Rattle.std.specs.Prelude.{◌≢◌, ℕ, ◌+◌, List, [], ◌∷◌}
use Rattle.brake_base.specs.declared.mask.Mask.{Mask}
use Rattle.brake_base.specs.declared.stroke.Key.{Key}
use Rattle.brake_base.specs.declared.stroke.Action.{Action}
use Rattle.brake_base.specs.declared.stroke.Gauge.{Gauge}
use Rattle.brake_base.specs.declared.stroke.Step.{Step}
use Rattle.brake_base.specs.declared.reason.Reason.{Reason}
use Rattle.brake_base.specs.declared.reason.Reason.TheVariants.{NoGauge}
use Rattle.fold_boxes.specs.Pose.{PoseData}
use Rattle.job_setup.specs.Setup.{JobData}
use Rattle.job_setup.specs.StrokeGroup.{group_of}
use Rattle.job_setup.specs.Reasons.{IsReason, pose_at}
use Rattle.job_setup.specs.LegalGauge.{IsLegalPair}
use Rattle.handling_cost.specs.StepCost.{IsActionAt, IsFull, key_after, cost_of}

-- the part on the machine before the stroke of an action where the bends of the mask are folded
abbrev pub pose_before : JobData → Mask → Action → PoseData
pose_before job mask action =
    pose_at job mask (group_of job mask action.bend) action.back action.stage

-- the reason holds against that stroke
unfoldable pub IsReasonFor : JobData → Mask → Action → Reason → Type 0
IsReasonFor job mask action reason =
    IsReason job mask (group_of job mask action.bend) action.back action.stage reason

-- the fingers can stand against these faces in that stroke
unfoldable pub IsGaugeFor : JobData → Mask → Action → Gauge → Type 0
IsGaugeFor job mask action gauge = IsLegalPair job (pose_before job mask action) gauge

-- no reason holds against that stroke, but that no gauge may be legal
abbrev pub IsUnopposed : JobData → Mask → Action → Type 0
IsUnopposed job mask action =
    (reason : Reason) → reason ≢ NoGauge → IsReasonFor job mask action reason → ⊥

-- the action can be tried, its stroke is unopposed, and the step's own gauge is legal
pub record IsLegal (job : JobData) (key : Key) (step : Step) : Type 0 where
  pub action : IsActionAt job key step.action
  pub free : IsUnopposed job key.mask step.action
  pub gauge : IsGaugeFor job key.mask step.action step.gauge

-- a rest from a key: steps, each legal at the key that those before it lead to, after which every
-- bend is folded
abbrev pub IsRest : JobData → Key → List Step → Type 0
IsRest job key [] = IsFull job key
IsRest job key (step ∷ steps) =
    IsLegal job key step × IsRest job (key_after job key step.action) steps

-- the sum of what the steps cost
abbrev pub total : JobData → Key → List Step → ℕ
total job key [] = 0
total job key (step ∷ steps) =
    cost_of job key step.action + total job (key_after job key step.action) steps

-- no bend is folded, and the part is held as its file describes it, at stage 0
abbrev pub start : Key
start = record { mask = record { 0 = 0 }; attitude = 0; stage = 0 }

-- a plan is a rest from the start
abbrev pub IsPlan : JobData → List Step → Type 0
IsPlan job steps = IsRest job start steps

-- steps whose actions are actions at the keys that those before them lead to, legal or not
abbrev pub AreActions : JobData → Key → List Step → Type 0
AreActions job key [] = Unit {0}
AreActions job key (step ∷ steps) =
    IsActionAt job key step.action × AreActions job (key_after job key step.action) steps
