-- What a refused stroke sweeps, and what it would strike: the box of the reason in its quarter,
-- turned by an eighth towards the tools and the machine, by a fourth towards the part itself.
-- Lengths are in micrometres.
use Rattle.std.specs.Prelude.{ℕ, ◌==◌, List, slice_get, find, Option, None, option_map}
use Rattle.std.specs.Prelude.{option_and_then}
use Rattle.brake_base.specs.declared.plane.Quarter.{Quarter}
use Rattle.brake_base.specs.declared.reason.Reason.{Reason}
use Rattle.brake_base.specs.declared.reason.Reason.TheVariants.{Cover, Rest, Frame, Upper, Nose}
use Rattle.brake_base.specs.declared.reason.Reason.TheVariants.{Lower, SelfHit, NoGauge, Load}
use Rattle.fold_boxes.specs.declared.posed_part.PoseBox.{PoseBox}
use Rattle.fold_boxes.specs.Pose.{PoseData}
use Rattle.sector_geom.specs.declared.sector.Sweep.{Sweep}
use Rattle.sector_geom.specs.declared.sector.Sweep.TheVariants.{Eighth, Fourth}
use Rattle.sector_geom.specs.Covers.{cover_of}
use Rattle.job_setup.specs.declared.obstacle.Obstacle.{Obstacle}
use Rattle.job_setup.specs.Setup.{StageData, JobData}
use Rattle.job_setup.specs.Obstacles.{upper_group, lower_group}
use Rattle.job_setup.specs.Reasons.{across, piece_at}
use Rattle.sheet_views.specs.declared.swept.Struck.{Struck}
use Rattle.sheet_views.specs.declared.swept.Struck.TheVariants.{Body, Nose as PunchNose}
use Rattle.sheet_views.specs.declared.swept.Swept.{Swept}

-- the box of a number
abbrev pub box_numbered : List PoseBox → ℕ → Option PoseBox
box_numbered boxes number = find (λ b. b.id == number) boxes

-- a box of the part as it lies in the pose
abbrev pub struck_box : List PoseBox → ℕ → Option Struck
struck_box boxes number = option_map (λ b. Body (across b.body)) (box_numbered boxes number)

-- an obstacle as it stands while the sheet is bent
abbrev pub struck_obstacle : List Obstacle → ℕ → Option Struck
struck_obstacle obstacles index =
    option_map (λ o. Body o.rect) (find (λ o. o.index == index) obstacles)

-- the nose of the punch of a stage
abbrev pub struck_nose : List StageData → ℕ → Option Struck
struck_nose stages stage = option_map (λ s. PunchNose s.punch.nose) (slice_get stages stage)

-- what a box sweeps in a quarter, where it has an interior there
abbrev pub swept_in : JobData → Quarter → Sweep → Struck → PoseBox → Option Swept
swept_in job quarter sweep struck box =
    option_map
    (λ piece. record {
      id = box.id;
      half = box.half;
      body = across box.body;
      sweep = sweep;
      cover = cover_of quarter sweep piece;
      struck = struck;
    })
    (piece_at job box quarter)

-- the same of the box of a number, where it and what it would strike are there
abbrev pub swept_towards : JobData → List PoseBox → ℕ → Quarter → Sweep → Option Struck
    → Option Swept
swept_towards job boxes number quarter sweep struck =
    option_and_then
    (λ s. option_and_then (swept_in job quarter sweep s) (box_numbered boxes number)) struck

-- What the box of a reason sweeps, and what it would strike; nothing for a reason that tells of no
-- box in a quarter.
abbrev pub swept_by : JobData → ℕ → PoseData → Reason → Option Swept
swept_by job stage pose Cover = None
swept_by job stage pose (Rest half) = None
swept_by job stage pose (Frame number) = None
swept_by job stage pose (Upper number quarter index) =
    swept_towards job pose.boxes number quarter Eighth (struck_obstacle (upper_group job) index)
swept_by job stage pose (Nose number quarter other) =
    swept_towards job pose.boxes number quarter Eighth (struck_nose job.setup.stages other)
swept_by job stage pose (Lower number quarter index) =
    swept_towards job pose.boxes number quarter Eighth (struck_obstacle (lower_group job stage) index)
swept_by job stage pose (SelfHit number quarter other) =
    swept_towards job pose.boxes number quarter Fourth (struck_box pose.boxes other)
swept_by job stage pose NoGauge = None
swept_by job stage pose Load = None
