-- What is known of a stroke's motion where nothing in the pose is hit. Ideal air bending: each half
-- of the part turns upwards about the punch's tip, seen so that it lies behind the tip, while the
-- lower tools rise.
use Rattle.std.specs.Prelude.{◌≡◌, ℕ, ℤ, All, ⊤}
use Rattle.brake_base.specs.declared.plane.Rat2.{Rat2}
use Rattle.brake_base.specs.declared.stroke.Half.TheVariants.{Back, Front}
use Rattle.brake_base.specs.declared.reason.Reason.{Reason}
use Rattle.brake_base.specs.declared.reason.Reason.TheVariants.{Frame, Upper, Nose, Lower, SelfHit}
use Rattle.machine_file.specs.declared.machine.Fixed.{Fixed}
use Rattle.fold_boxes.specs.declared.posed_part.PoseBox.{PoseBox}
use Rattle.fold_boxes.specs.Pose.{PoseData}
use Rattle.sector_geom.specs.Plane.{Holds, IsInside}
use Rattle.sector_geom.specs.Motion.{Triple, IsTriple, IsWideTriple, turned}
use Rattle.sector_geom.specs.Pieces.{widened_by}
use Rattle.sector_geom.specs.Clear.{IsInNose}
use Rattle.job_setup.specs.Setup.{StageData, JobData}
use Rattle.job_setup.specs.Obstacles.{upper_boxes, lower_boxes}
use Rattle.job_setup.specs.Places.{range}
use Rattle.job_setup.specs.Reasons.{across, seen_from, widening, x_range, moving_rect, MeetsAlong}
use Rattle.sweep_check.specs.SunkLaw.{MissesLower}

-- where a box of the machine or of a tool stands along the bed
abbrev pub bed_range : Fixed → ℤ × ℤ
bed_range box = (box.x0, box.x1)

-- the box's range along the bed meets that of no frame
abbrev pub MissesFrames : JobData → PoseBox → Type 0
MissesFrames job box = All (λ frame. MeetsAlong box frame → ⊥) job.setup.frames

-- no rational point of the box's widened rectangle is, at any turn, strictly inside a box of the
-- beam or of a punch over its range
abbrev pub MissesUpper : JobData → PoseBox → Fixed → Type 0
MissesUpper job box upper =
    MeetsAlong box (bed_range upper)
    → (p : Rat2) (t : Triple) → Holds (moving_rect job box) p → IsTriple t
    → IsInside (seen_from box.half upper.rect) (turned t p) → ⊥

-- nor inside the nose of a punch
abbrev pub MissesNose : JobData → PoseBox → StageData → Type 0
MissesNose job box stage =
    MeetsAlong box (range stage)
    → (p : Rat2) (t : Triple) → Holds (moving_rect job box) p → IsTriple t
    → IsInNose stage.punch.nose (turned t p) → ⊥

-- nor, at any rise, inside a box of the bed or of a die
abbrev pub MissesRising : JobData → ℕ → PoseBox → Fixed → Type 0
MissesRising job stage box lower =
    MeetsAlong box (bed_range lower) → MissesLower job stage box.half (moving_rect job box) lower

-- no rational point of the back box is, at any turn of the one half against the other, strictly
-- inside the front box, both widened
abbrev pub MissesOther : JobData → PoseBox → PoseBox → Type 0
MissesOther job box other =
    box.half ≡ Back → other.half ≡ Front → MeetsAlong box (x_range other.body)
    → (p : Rat2) (t : Triple) → Holds (moving_rect job box) p → IsWideTriple t
    → IsInside (widened_by (widening job) (across other.body)) (turned t p) → ⊥

-- the reason says that something is hit: a frame, an upper box, a nose, a lower box, or the other
-- half
abbrev pub IsHitReason : Reason → Type 0
IsHitReason (Frame box) = ⊤
IsHitReason (Upper box quarter index) = ⊤
IsHitReason (Nose box quarter stage) = ⊤
IsHitReason (Lower box quarter index) = ⊤
IsHitReason (SelfHit box quarter other) = ⊤
IsHitReason _ = ⊥

-- the motion law: at a stage, the boxes of a pose meet nothing while the sheet is bent
pub record IsMotionFree (job : JobData) (stage : ℕ) (pose : PoseData) : Type 0 where
  pub frames : All (MissesFrames job) pose.boxes
  pub upper : All (λ box. All (MissesUpper job box) (upper_boxes job)) pose.boxes
  pub noses : All (λ box. All (MissesNose job box) job.setup.stages) pose.boxes
  pub lower : All (λ box. All (MissesRising job stage box) (lower_boxes job)) pose.boxes
  pub other : All (λ box. All (MissesOther job box) pose.boxes) pose.boxes
