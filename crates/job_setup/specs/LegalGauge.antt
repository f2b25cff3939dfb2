-- Where the two fingers of the backgauge may stand. Lengths are in micrometres.
use Rattle.std.specs.Prelude.{◌≡◌, ◌⊎◌, ℕ, ◌<◌, ◌≤◌, ℤ, pos, negsuc, neg_ℤ, ◌+ℤ◌, ◌-ℤ◌, ◌≤ℤ◌, All}
use Rattle.std.specs.Prelude.{Any, List, length, slice_index_or}
use Rattle.brake_base.specs.declared.space.V3.{V3}
use Rattle.brake_base.specs.declared.space.Box3.{Box3}
use Rattle.brake_base.specs.declared.stroke.Half.TheVariants.{Back}
use Rattle.brake_base.specs.declared.stroke.Gauge.{Gauge}
use Rattle.brake_base.specs.Vectors.{vector}
use Rattle.brake_base.specs.Turns.{Matrix, Map, stay}
use Rattle.brake_base.specs.Boxes.{ShareInterior}
use Rattle.machine_file.specs.declared.machine.GaugeRule.{GaugeRule}
use Rattle.fold_boxes.specs.declared.posed_part.PoseBox.{PoseBox}
use Rattle.fold_boxes.specs.Pose.{PoseData}
use Rattle.job_setup.specs.Setup.{JobData}

-- the turn takes z to z, or to -z
abbrev pub IsLevel : Matrix → Type 0
IsLevel turn =
    (turn.z ≡ vector (pos 0) (pos 0) (pos 1)) ⊎ (turn.z ≡ vector (pos 0) (pos 0) (negsuc 0))

-- the face is there, and its place takes z to z or to -z
pub record IsLevelFace (pose : PoseData) (face : ℕ) : Type 0 where
  pub within : face < length pose.places
  pub level : IsLevel (slice_index_or pose.places face stay).turn

-- the box fills z from as far below 0 as the sheet is thick up to 0
pub record FillsTheSheet (thickness : ℤ) (box : PoseBox) : Type 0 where
  pub low : box.body.lo.z ≡ neg_ℤ thickness
  pub high : box.body.hi.z ≡ pos 0

-- the box of a face of the back half, which lies in the sheet's plane
pub record IsFlatFace (thickness : ℤ) (pose : PoseData) (face : ℕ) (box : PoseBox) : Type 0 where
  pub number : box.id ≡ face
  pub half : box.half ≡ Back
  pub level : IsLevelFace pose face
  pub fills : FillsTheSheet thickness box

-- how far behind the bend line the face ends
abbrev pub far_edge : PoseBox → ℤ
far_edge box = box.body.hi.y

-- the range of the left finger along the bed: an inset from the left end of its face
abbrev pub left_finger : GaugeRule → PoseBox → ℤ × ℤ
left_finger rule face =
    (face.body.lo.x +ℤ rule.inset, (face.body.lo.x +ℤ rule.inset) +ℤ rule.finger)

-- that of the right finger: an inset from the right end of its face
abbrev pub right_finger : GaugeRule → PoseBox → ℤ × ℤ
right_finger rule face =
    ((face.body.hi.x -ℤ rule.inset) -ℤ rule.finger, face.body.hi.x -ℤ rule.inset)

-- the box that a finger with this range fills behind the edge of the sheet
abbrev pub finger_box : GaugeRule → ℤ → ℤ → ℤ × ℤ → Box3
finger_box rule thickness edge range = record {
  lo = vector range.0 edge (neg_ℤ thickness -ℤ rule.below);
  hi = vector range.1 (edge +ℤ rule.depth) rule.above;
}

-- it shares no interior point with a box of the part
abbrev pub IsFingerFree : PoseData → Box3 → Type 0
IsFingerFree pose finger = All (λ box. ShareInterior finger box.body → ⊥) pose.boxes

-- both faces end at one edge, which the gauge reaches
pub record HasEdge (rule : GaugeRule) (left right : PoseBox) : Type 0 where
  pub edge : far_edge right ≡ far_edge left
  pub near : rule.near ≤ℤ far_edge left
  pub far : far_edge left ≤ℤ rule.far

-- each finger stands within its face's edge, and they are far enough apart
pub record HasRoom (rule : GaugeRule) (left right : PoseBox) : Type 0 where
  pub left_end : (left_finger rule left).1 ≤ℤ left.body.hi.x
  pub right_end : right.body.lo.x ≤ℤ (right_finger rule right).0
  pub gap : rule.gap ≤ℤ ((right_finger rule right).0 -ℤ (left_finger rule left).1)

-- the edge is within reach, and there is room for both fingers
pub record AreInReach (rule : GaugeRule) (left right : PoseBox) : Type 0 where
  pub edge : HasEdge rule left right
  pub room : HasRoom rule left right

-- neither finger, where the left face ends, shares an interior point with the part
pub record AreFree (rule : GaugeRule) (thickness : ℤ) (pose : PoseData) (left right : PoseBox)
    : Type 0 where
  pub left_free :
      IsFingerFree pose (finger_box rule thickness (far_edge left) (left_finger rule left))
  pub right_free :
      IsFingerFree pose (finger_box rule thickness (far_edge left) (right_finger rule right))

-- The fingers can stand against the far edges of the two faces.
pub record IsPair (rule : GaugeRule) (thickness : ℤ) (pose : PoseData) (left right : PoseBox)
    : Type 0 where
  pub reach : AreInReach rule left right
  pub free : AreFree rule thickness pose left right

-- the box is that of the right face, and the fingers can stand against it and this left one
abbrev pub IsRightOf : JobData → PoseData → Gauge → PoseBox → PoseBox → Type 0
IsRightOf job pose gauge left right =
    IsFlatFace job.part.thickness pose gauge.right_face right
    × IsPair job.setup.gauge job.part.thickness pose left right

-- the box is that of the left face, and there is such a right one
abbrev pub IsLeftOfPair : JobData → PoseData → Gauge → PoseBox → Type 0
IsLeftOfPair job pose gauge left =
    IsFlatFace job.part.thickness pose gauge.left_face left
    × Any (IsRightOf job pose gauge left) pose.boxes

-- The pair of faces is legal in the pose.
abbrev pub IsLegalPair : JobData → PoseData → Gauge → Type 0
IsLegalPair job pose gauge = Any (IsLeftOfPair job pose gauge) pose.boxes

-- no pair is legal in it
abbrev pub LacksGauge : JobData → PoseData → Type 0
LacksGauge job pose = (gauge : Gauge) → IsLegalPair job pose gauge → ⊥
