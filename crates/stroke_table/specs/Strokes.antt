-- What is found out about a stroke: the attitude in which the part is held, where its fingers
-- stand, and why it is refused at each stage. A stroke is given by the bends that are folded before
-- it, the least bend that it folds, and the side at the back.
use Rattle.std.specs.Prelude.{◌≡◌, ℕ, ◌<◌, ◌≤◌, List, length, slice_index_or, Option, Some, None}
use Rattle.brake_base.specs.declared.mask.Mask.{Mask}
use Rattle.brake_base.specs.declared.stroke.Back.{Back}
use Rattle.brake_base.specs.declared.stroke.Action.{Action}
use Rattle.brake_base.specs.declared.reason.Reason.{Reason}
use Rattle.fold_boxes.specs.Pose.{attitude_of}
use Rattle.job_setup.specs.Setup.{JobData, shape_of}
use Rattle.job_setup.specs.StrokeGroup.{group_of}
use Rattle.job_setup.specs.Reasons.{pose_at, IsReason, IsFirstReason}
use Rattle.gauge_rules.specs.Pairs.{IsFirstLegal}
use Rattle.stroke_table.specs.declared.stroke.Stroke.{Stroke}
use Rattle.stroke_table.specs.declared.stroke.StageStroke.{StageStroke}

-- the first reason against a stroke at a stage; none exactly where no reason holds, so that the
-- stroke is legal there
abbrev pub IsFirstAt : JobData → Mask → Mask → Back → ℕ → Option Reason → Type 0
IsFirstAt job mask group back stage None =
    (reason : Reason) → IsReason job mask group back stage reason → ⊥
IsFirstAt job mask group back stage (Some reason) = IsFirstReason job mask group back stage reason

-- the reason of a stage in a list of one for each stage
abbrev pub reason_at : List (Option Reason) → ℕ → Option Reason
reason_at reasons stage = slice_index_or reasons stage None

-- The attitude of the part in the stroke, the first legal pair, which is the same at each stage,
-- and the first reason at each stage, of which there are at most six.
pub record IsStrokeOf (job : JobData) (mask : Mask) (lead : ℕ) (back : Back) (stroke : Stroke)
    : Type 0 where
  pub attitude : stroke.attitude ≡ attitude_of (shape_of job) mask lead back
  pub gauge :
      (stage : ℕ) → stage < length job.setup.stages
      → IsFirstLegal job (pose_at job mask (group_of job mask lead) back stage) stroke.gauge
  pub few : length job.setup.stages ≤ 6
  pub reasons :
      (stage : ℕ) → stage < length job.setup.stages
      → IsFirstAt job mask (group_of job mask lead) back stage (reason_at stroke.reasons stage)

-- The attitude of the part in the stroke of an action, and the first legal pair and the first
-- reason at its stage.
pub record IsStrokeAt (job : JobData) (mask : Mask) (action : Action) (found : StageStroke)
    : Type 0 where
  pub attitude : found.attitude ≡ attitude_of (shape_of job) mask action.bend action.back
  pub gauge :
      IsFirstLegal job
      (pose_at job mask (group_of job mask action.bend) action.back action.stage) found.gauge
  pub reason :
      IsFirstAt job mask (group_of job mask action.bend) action.back action.stage found.reason
