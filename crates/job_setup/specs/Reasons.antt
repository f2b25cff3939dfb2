-- Why a stroke is refused at a stage. Lengths are in micrometres, loads and limits in newtons per
-- millimetre, forces in newtons. A stroke is given by the bends that are folded before it, the
-- group that it folds, the side at the back, and the stage.
use Rattle.std.specs.Prelude.{◌≡◌, ◌≢◌, ℕ, ◌<◌, ℤ, pos, neg_ℤ, ◌+ℤ◌, ◌-ℤ◌, ◌*ℤ◌, int_lt, int_le}
use Rattle.std.specs.Prelude.{unsigned_abs, Bool, true, false, not, ◌&&◌, ◌||◌, IsTrue, List, fold}
use Rattle.std.specs.Prelude.{map, length, Any, Option, Some, None, IsSomeAnd}
use Rattle.std.specs.Ordering.{int_eq}
use Rattle.std.specs.List.{list_any}
use Rattle.brake_base.specs.declared.plane.Rect.{Rect}
use Rattle.brake_base.specs.declared.plane.Quarter.{Quarter}
use Rattle.brake_base.specs.declared.plane.Quarter.TheVariants.{Q1, Q4}
use Rattle.brake_base.specs.declared.space.Box3.{Box3}
use Rattle.brake_base.specs.declared.mask.Mask.{Mask}
use Rattle.brake_base.specs.declared.stroke.Back.{Back}
use Rattle.brake_base.specs.declared.stroke.Back.TheVariants.{Parent, Child}
use Rattle.brake_base.specs.declared.stroke.Half.{Half}
use Rattle.brake_base.specs.declared.stroke.Half.TheVariants.{Back as BackHalf, Front as FrontHalf}
use Rattle.brake_base.specs.declared.reason.Reason.{Reason}
use Rattle.brake_base.specs.declared.reason.Reason.TheVariants.{Cover, Rest, Frame, Upper, Nose}
use Rattle.brake_base.specs.declared.reason.Reason.TheVariants.{Lower, SelfHit, NoGauge, Load}
use Rattle.brake_base.specs.Masks.{has}
use Rattle.brake_base.specs.Reasons.{ReasonIsBefore}
use Rattle.part_file.specs.declared.part.Side.{Side}
use Rattle.part_file.specs.declared.part.Side.TheVariants.{N, E, S, W}
use Rattle.unfolder.specs.Cores.{joint_of}
use Rattle.fold_boxes.specs.declared.posed_part.PoseBox.{PoseBox}
use Rattle.fold_boxes.specs.Shapes.{ShapeData, core_width, core_length, line_length}
use Rattle.fold_boxes.specs.Groups.{members, span}
use Rattle.fold_boxes.specs.Pose.{PoseData, IsGroup, pose_of}
use Rattle.sector_geom.specs.declared.sector.Sweep.{Sweep}
use Rattle.sector_geom.specs.declared.sector.Sweep.TheVariants.{Eighth, Fourth}
use Rattle.sector_geom.specs.Pieces.{widened_by, piece_of}
use Rattle.sector_geom.specs.Covers.{cover_of}
use Rattle.sector_geom.specs.Clear.{IsClearOfNose}
use Rattle.sector_geom.specs.Free.{IsFree}
use Rattle.job_setup.specs.declared.obstacle.Group.{Group}
use Rattle.job_setup.specs.declared.obstacle.Group.TheVariants.{Upper as UpperGroup}
use Rattle.job_setup.specs.declared.obstacle.Group.TheVariants.{Lower as LowerGroup}
use Rattle.job_setup.specs.declared.obstacle.Obstacle.{Obstacle}
use Rattle.job_setup.specs.Setup.{StageData, JobData, shape_of}
use Rattle.job_setup.specs.StageOf.{stage_of}
use Rattle.job_setup.specs.Places.{is_overlap}
use Rattle.job_setup.specs.Obstacles.{upper_group, lower_group}
use Rattle.job_setup.specs.LegalGauge.{LacksGauge}

-- how far the core of face f reaches from one of its sides to the opposite one
abbrev pub core_depth : ShapeData → Side → ℕ → ℤ
core_depth shape N f = core_length shape f
core_depth shape E f = core_width shape f
core_depth shape S f = core_length shape f
core_depth shape W f = core_width shape f

-- how far the core of the parent, or of the child, reaches away from the line of bend b; a child is
-- joined at its side S
abbrev pub reach : ShapeData → Back → ℕ → ℤ
reach shape Parent b =
    let joint = joint_of shape.part.faces b in core_depth shape joint.side joint.on
reach shape Child b = core_depth shape S b

-- Cover: the span of the group is longer than the stage and what it may leave uncovered at either
-- end
abbrev pub is_uncovered : JobData → (ℕ → Bool) → StageData → Bool
is_uncovered job group stage =
    let range = span (shape_of job) group in
    int_lt ((stage.x1 -ℤ stage.x0) +ℤ pos 2 *ℤ job.setup.uncovered) (range.1 -ℤ range.0)

-- Rest: on the side of the parent, or on that of the child, a core at a line of the group is
-- shorter than the die's least flange
abbrev pub lacks_rest : JobData → (ℕ → Bool) → Back → StageData → Bool
lacks_rest job group side stage =
    list_any (λ b. int_lt (reach (shape_of job) side b) stage.die.least_flange)
    (members (shape_of job) group)

-- a stage meets a group where neither Cover nor Rest holds
abbrev pub meets : JobData → (ℕ → Bool) → StageData → Bool
meets job group stage =
    not (is_uncovered job group stage)
    && not (lacks_rest job group Parent stage || lacks_rest job group Child stage)

-- the side that lies in a half, where this side is at the back
abbrev pub side_in : Half → Back → Back
side_in BackHalf back = back
side_in FrontHalf Parent = Child
side_in FrontHalf Child = Parent

-- how long the lines of a group are together
abbrev pub lines_total : ShapeData → (ℕ → Bool) → ℤ
lines_total shape group = fold ◌+ℤ◌ (pos 0) (map (line_length shape) (members shape group))

-- Load: the stage has a load, which is above its limit, or needs more force over the group's lines
-- than the machine has; a limit or a force of 0 is none, and a length in micrometres is a
-- thousandth of one in millimetres
abbrev pub is_overloaded : JobData → (ℕ → Bool) → StageData → Bool
is_overloaded job group stage =
    not (int_eq stage.load (pos 0))
    && ((not (int_eq stage.limit (pos 0)) && int_lt stage.limit stage.load)
    || (not (int_eq job.setup.force (pos 0))
    && int_lt (pos 1000 *ℤ job.setup.force) (stage.load *ℤ lines_total (shape_of job) group)))

-- the range of a box along the bed, and its rectangle across it
abbrev pub x_range : Box3 → ℤ × ℤ
x_range body = (body.lo.x, body.hi.x)

abbrev pub across : Box3 → Rect
across body = record { y0 = body.lo.y; y1 = body.hi.y; z0 = body.lo.z; z1 = body.hi.z }

-- the rectangle with front and back in each other's place
abbrev pub mirrored : Rect → Rect
mirrored r = record { y0 = neg_ℤ r.y1; y1 = neg_ℤ r.y0; z0 = r.z0; z1 = r.z1 }

-- the front half, and what stands around it, are looked at mirrored, so that both halves turn
-- upwards alike
abbrev pub seen_from : Half → Rect → Rect
seen_from BackHalf r = r
seen_from FrontHalf r = mirrored r

-- how far a core may fall short of its plate, or a corner reach past it
abbrev pub widening : JobData → ℤ
widening job = pos (unsigned_abs (job.q -ℤ job.part.thickness))

-- what a box sweeps with, as its half is looked at
abbrev pub moving_rect : JobData → PoseBox → Rect
moving_rect job box = widened_by (widening job) (seen_from box.half (across box.body))

-- a box's piece in a quarter
abbrev pub piece_at : JobData → PoseBox → Quarter → Option Rect
piece_at job box quarter = piece_of quarter (moving_rect job box)

-- the ranges along the bed share an interior point
abbrev pub MeetsAlong : PoseBox → ℤ × ℤ → Type 0
MeetsAlong box range = IsTrue (is_overlap (x_range box.body) range)

-- the piece isn't free of the rectangle at the job's depth
abbrev pub IsSwept : JobData → Sweep → Quarter → Rect → Rect → Type 0
IsSwept job sweep quarter piece r = IsFree job.setup.fine quarter sweep piece r → ⊥

-- a piece that can't meet a sunk box: in Q1, or in Q4 and no deeper than the sheet is thick
abbrev pub lies_high : ℤ → Quarter → Rect → Bool
lies_high thickness Q1 piece = true
lies_high thickness Q4 piece = int_le (neg_ℤ thickness) piece.z0
lies_high thickness _ piece = false

-- the obstacle is sunk, and the piece is one that can't meet it
abbrev pub is_untested : ℤ → Quarter → Rect → Group → Bool
is_untested thickness quarter piece UpperGroup = false
is_untested thickness quarter piece (LowerGroup sunk) = sunk && lies_high thickness quarter piece

-- The box's piece in the quarter meets the obstacle while it turns upwards.
pub record IsHit (job : JobData) (box : PoseBox) (quarter : Quarter) (obstacle : Obstacle)
    : Type 0 where
  pub along : MeetsAlong box (obstacle.x0, obstacle.x1)
  pub across :
      IsSomeAnd (piece_at job box quarter)
      (λ piece. (is_untested job.part.thickness quarter piece obstacle.group ≡ false)
      × IsSwept job Eighth quarter piece (seen_from box.half obstacle.rect))

-- It meets the nose of the stage's punch.
pub record IsNoseHit (job : JobData) (box : PoseBox) (quarter : Quarter) (stage : StageData)
    : Type 0 where
  pub along : MeetsAlong box (stage.x0, stage.x1)
  pub across :
      IsSomeAnd (piece_at job box quarter)
      (λ piece. IsClearOfNose (cover_of quarter Eighth piece) stage.punch.nose → ⊥)

-- The piece of a box of the back half meets a box of the front half, which isn't mirrored, while
-- the one turns against the other.
pub record IsSelfHit (job : JobData) (box : PoseBox) (quarter : Quarter) (other : PoseBox)
    : Type 0 where
  pub back : box.half ≡ BackHalf
  pub front : other.half ≡ FrontHalf
  pub along : MeetsAlong box (x_range other.body)
  pub across :
      IsSomeAnd (piece_at job box quarter)
      (λ piece. IsSwept job Fourth quarter piece (widened_by (widening job) (across other.body)))

-- some box of the pose has the number and the property
abbrev pub SomeBox : PoseData → ℕ → (PoseBox → Type 0) → Type 0
SomeBox pose number P = Any (λ box. (box.id ≡ number) × P box) pose.boxes

-- some obstacle has the index and the property
abbrev pub SomeObstacle : List Obstacle → ℕ → (Obstacle → Type 0) → Type 0
SomeObstacle obstacles index P = Any (λ obstacle. (obstacle.index ≡ index) × P obstacle) obstacles

-- what a reason says of a pose with this side at the back, at the stage of a number
abbrev pub IsReasonOf : JobData → PoseData → Back → ℕ → Reason → Type 0
IsReasonOf job pose back stage Cover =
    IsTrue (is_uncovered job (has pose.group) (stage_of job stage))
IsReasonOf job pose back stage (Rest half) =
    IsTrue (lacks_rest job (has pose.group) (side_in half back) (stage_of job stage))
IsReasonOf job pose back stage (Frame number) =
    SomeBox pose number (λ box. Any (MeetsAlong box) job.setup.frames)
IsReasonOf job pose back stage (Upper number quarter index) =
    SomeBox pose number (λ box. SomeObstacle (upper_group job) index (IsHit job box quarter))
IsReasonOf job pose back stage (Nose number quarter other) =
    (other < length job.setup.stages)
    × SomeBox pose number (λ box. IsNoseHit job box quarter (stage_of job other))
IsReasonOf job pose back stage (Lower number quarter index) =
    SomeBox pose number (λ box. SomeObstacle (lower_group job stage) index (IsHit job box quarter))
IsReasonOf job pose back stage (SelfHit number quarter other) =
    SomeBox pose number (λ box. SomeBox pose other (IsSelfHit job box quarter))
IsReasonOf job pose back stage NoGauge = LacksGauge job pose
IsReasonOf job pose back stage Load =
    IsTrue (is_overloaded job (has pose.group) (stage_of job stage))

-- the job's pose before a stroke: the span of the group lies in the middle of the stage
abbrev pub pose_at : JobData → Mask → Mask → Back → ℕ → PoseData
pose_at job mask group back stage =
    pose_of (shape_of job) mask group back (stage_of job stage).x0 (stage_of job stage).x1

-- the reason holds of the stroke
abbrev pub IsReason : JobData → Mask → Mask → Back → ℕ → Reason → Type 0
IsReason job mask group back stage reason =
    IsReasonOf job (pose_at job mask group back stage) back stage reason

-- the reason holds, and none that holds stands before it
pub record IsFirstReason (job : JobData) (mask group : Mask) (back : Back) (stage : ℕ)
    (reason : Reason) : Type 0 where
  pub holds : IsReason job mask group back stage reason
  pub first :
      (other : Reason) → IsReason job mask group back stage other → ReasonIsBefore other reason → ⊥

-- the pose is the job's at a stage, for some folded bends, some group and some side at the back
pub record IsPoseAt (job : JobData) (stage : ℕ) (pose : PoseData) : Type 0 where
  pub mask : Mask
  pub group : Mask
  pub back : Back
  pub stroke : IsGroup (shape_of job) mask group
  pub within : stage < length job.setup.stages
  pub value : pose ≡ pose_at job mask group back stage
