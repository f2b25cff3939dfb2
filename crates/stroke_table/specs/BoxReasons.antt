-- Boxes at each stage, which lie as in the pose of a group at stage 0, and what stands around them.
use Rattle.std.specs.Prelude.{◌≡◌, ℕ, ◌<◌, ◌≤◌, ℤ, ◌-ℤ◌, List, length, get_or}
use Rattle.brake_base.specs.declared.mask.Mask.{Mask}
use Rattle.fold_boxes.specs.declared.posed_part.PoseBox.{PoseBox}
use Rattle.fold_boxes.specs.Pose.{span_start}
use Rattle.fold_boxes.specs.Posing.{IsNearPoseBox}
use Rattle.job_setup.specs.Setup.{JobData, shape_of}
use Rattle.job_setup.specs.StageOf.{stage_of}
use Rattle.sweep_check.specs.declared.surroundings.Surroundings.{Surroundings}
use Rattle.sweep_check.specs.Around.{AreSurroundings}
use Rattle.sweep_check.specs.Pieces.{IsSolidBox}
use Rattle.stroke_table.specs.Moved.{moved_box}

-- where the span of a group begins at a stage
abbrev pub start_at : JobData → Mask → ℕ → ℤ
start_at job group stage =
    span_start (shape_of job) group (stage_of job stage).x0 (stage_of job stage).x1

-- how much farther along the bed the part lies at a stage than at stage 0
abbrev pub shift_of : JobData → Mask → ℕ → ℤ
shift_of job group stage = start_at job group stage -ℤ start_at job group 0

-- the box at a stage
abbrev pub box_at : JobData → Mask → ℕ → PoseBox → PoseBox
box_at job group stage = moved_box (shift_of job group stage)

-- The box lies near, and has an interior at each stage.
pub record IsBoxOf (job : JobData) (group : Mask) (box : PoseBox) : Type 0 where
  pub near : IsNearPoseBox box
  pub solid :
      (stage : ℕ) → stage < length job.setup.stages → IsSolidBox (box_at job group stage box)

-- they are what stands around the part at each stage
pub record AreAround (job : JobData) (around : List Surroundings) : Type 0 where
  pub few : length job.setup.stages ≤ 6
  pub count : length around ≡ length job.setup.stages
  pub each :
      (stage : ℕ) (other : Surroundings) → stage < length around
      → AreSurroundings job (get_or around stage other)
      × ((get_or around stage other).stage ≡ stage)
