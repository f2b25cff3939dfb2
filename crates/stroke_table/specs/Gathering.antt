-- What is gathered of boxes of a stroke.
use Rattle.std.specs.Prelude.{◌≡◌, ℕ, ◌<◌, List, [], map, All}
use Rattle.brake_base.specs.declared.mask.Mask.{Mask}
use Rattle.brake_base.specs.declared.reason.Reason.{Reason}
use Rattle.brake_base.specs.Turns.{map_of}
use Rattle.unfolder.specs.Blank.{face_numbers}
use Rattle.fold_boxes.specs.declared.posed_part.Pose.{Pose}
use Rattle.fold_boxes.specs.Pose.{lead_of, IsNumberOfBox}
use Rattle.fold_boxes.specs.Posing.{IsNearPoseBox}
use Rattle.job_setup.specs.Setup.{JobData, shape_of, stage_count}
use Rattle.job_setup.specs.StageOf.{stage_of}
use Rattle.stage_lanes.specs.Lanes.{AreLanes}
use Rattle.stroke_table.specs.declared.keys.GroupKey.{GroupKey}
use Rattle.stroke_table.specs.declared.keys.StrokeKey.{StrokeKey}
use Rattle.stroke_table.specs.declared.gathering.StrokeBoxes.{StrokeBoxes}
use Rattle.stroke_table.specs.Codes.{AreLeastCodes, stroke_box, stroke_place, IsOfBox}

-- it is one of the reasons that a box with a number below this one gives by itself
abbrev pub IsOfBoxBelow : JobData → Mask → GroupKey → ℕ → ℕ → Reason → Type 0
IsOfBoxBelow job mask key stage below reason =
    (number : ℕ) × (number < below) × IsNumberOfBox (shape_of job) mask number
    × IsOfBox job mask key number stage reason

-- it is the part on the machine at stage 0, whatever its boxes and places are
pub record IsPoseOf (job : JobData) (stroke : StrokeKey) (pose : Pose) : Type 0 where
  pub bend : pose.bend ≡ lead_of (shape_of job) stroke.of.group
  pub group : pose.group ≡ stroke.of.group
  pub from : pose.x0 ≡ (stage_of job 0).x0
  pub to : pose.x1 ≡ (stage_of job 0).x1

-- nothing is gathered of the stroke yet
pub record IsBegun (job : JobData) (stroke : StrokeKey) (gathered : StrokeBoxes) : Type 0 where
  pub pose : IsPoseOf job stroke gathered.pose
  pub codes : AreLanes gathered.codes.0 (λ stage. 65535)
  pub boxes : gathered.pose.boxes.items ≡ []
  pub places : gathered.pose.places.items ≡ []

-- The codes are those of the boxes with numbers below one, the boxes at stage 0 are those of these
-- numbers, and the places are those of the faces.
pub record IsGathered (job : JobData) (stroke : StrokeKey) (below : ℕ) (numbers : List ℕ)
    (gathered : StrokeBoxes) : Type 0 where
  pub pose : IsPoseOf job stroke gathered.pose
  pub codes :
      AreLeastCodes (stage_count job)
      (λ stage. IsOfBoxBelow job stroke.mask stroke.of stage below) gathered.codes.0
  pub boxes :
      gathered.pose.boxes.items
      ≡ map (λ number. stroke_box job stroke.mask stroke.of number 0) numbers
  pub near : All IsNearPoseBox gathered.pose.boxes.items
  pub places :
      map map_of gathered.pose.places.items
      ≡ map (stroke_place job stroke.mask stroke.of) (face_numbers job.part.faces)
