-- The pieces of the part's boxes with the sectors that they sweep, box by box and quarter by
-- quarter.
use Rattle.std.specs.Prelude.{◌<◌, ◌≤◌, Option, List, [], ◌∷◌, length, All, AllPairs, option_map}
use Rattle.std.specs.Prelude.{option_to_list, flat_map}
use Rattle.brake_base.specs.declared.plane.Rect.{Rect}
use Rattle.brake_base.specs.declared.plane.Quarter.{Quarter}
use Rattle.brake_base.specs.declared.plane.Quarter.TheVariants.{Q1, Q2, Q3, Q4}
use Rattle.brake_base.specs.declared.stroke.Half.{Half}
use Rattle.brake_base.specs.declared.stroke.Half.TheVariants.{Back, Front}
use Rattle.fold_boxes.specs.declared.posed_part.PoseBox.{PoseBox}
use Rattle.fold_boxes.specs.Posing.{IsNearPoseBox, IsSolidPoseBox}
use Rattle.sector_geom.specs.declared.sector.Sweep.{Sweep}
use Rattle.sector_geom.specs.declared.sector.Sweep.TheVariants.{Fourth}
use Rattle.sector_geom.specs.Covers.{cover_of}
use Rattle.sector_geom.specs.Pieces.{widened_by}
use Rattle.job_setup.specs.Setup.{JobData}
use Rattle.job_setup.specs.declared.obstacle.Obstacle.{Obstacle}
use Rattle.job_setup.specs.declared.obstacle.Group.TheVariants.{Upper}
use Rattle.job_setup.specs.Reasons.{across, widening, piece_at, lies_high}
use Rattle.sweep_check.specs.declared.pieces.Piece.{Piece}

-- the box has an interior, and lies near
pub record IsSolidBox (box : PoseBox) : Type 0 where
  pub near : IsNearPoseBox box
  pub solid : IsSolidPoseBox box

-- What is known of the boxes of a pose: they are solid, few, and in ascending order of their
-- numbers.
pub record AreSolidBoxes (boxes : List PoseBox) : Type 0 where
  pub solid : All IsSolidBox boxes
  pub few : length boxes ≤ 25
  pub ascend : AllPairs (λ a b. a.id < b.id) boxes

-- a part of a box in a quarter, with the sector that it sweeps, to be halved as often as the job
-- says
abbrev pub piece_from : JobData → Sweep → PoseBox → Quarter → Rect → Piece
piece_from job sweep box quarter rect = record {
  body = box.id;
  half = box.half;
  x0 = box.body.lo.x;
  x1 = box.body.hi.x;
  quarter = quarter;
  is_high = lies_high job.part.thickness quarter rect;
  rect = rect;
  sweep = sweep;
  depth = job.setup.fine;
  cover = cover_of quarter sweep rect;
}

-- the piece of a box in a quarter, where the box has an interior there
abbrev pub piece_in : JobData → Sweep → PoseBox → Quarter → Option Piece
piece_in job sweep box quarter =
    option_map (piece_from job sweep box quarter) (piece_at job box quarter)

-- the pieces of a box, by quarters
abbrev pub box_pieces : JobData → Sweep → PoseBox → List Piece
box_pieces job sweep box =
    flat_map (λ quarter. option_to_list (piece_in job sweep box quarter)) (Q1 ∷ Q2 ∷ Q3 ∷ Q4 ∷ [])

-- the pieces of the boxes, by boxes and then by quarters
abbrev pub pieces_of : JobData → Sweep → List PoseBox → List Piece
pieces_of job sweep boxes = flat_map (box_pieces job sweep) boxes

-- these, where the half is the back half
abbrev pub if_back : {X : Type 0} → Half → List X → List X
if_back Back xs = xs
if_back Front xs = []

-- these, where it is the front half
abbrev pub if_front : {X : Type 0} → Half → List X → List X
if_front Back xs = []
if_front Front xs = xs

-- the pieces of the boxes of the back half, which turns against the front half
abbrev pub back_pieces : JobData → List PoseBox → List Piece
back_pieces job boxes = flat_map (λ box. if_back box.half (box_pieces job Fourth box)) boxes

-- a box of the front half as an obstacle of the back half: widened, and not mirrored
abbrev pub front_obstacle : JobData → PoseBox → Obstacle
front_obstacle job box = record {
  index = box.id;
  x0 = box.body.lo.x;
  x1 = box.body.hi.x;
  rect = widened_by (widening job) (across box.body);
  group = Upper;
}

-- the boxes of the front half
abbrev pub front_obstacles : JobData → List PoseBox → List Obstacle
front_obstacles job boxes = flat_map (λ box. if_front box.half (front_obstacle job box ∷ [])) boxes
