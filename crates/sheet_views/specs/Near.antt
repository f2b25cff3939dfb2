-- What is drawn lies near: its coordinates are within 2^40 micrometres of 0.
use Rattle.std.specs.Prelude.{◌^◌, ◌<◌, ◌≤◌, unsigned_abs, All, List, length, slice_index_or}
use Rattle.brake_base.specs.declared.plane.Rect.{Rect}
use Rattle.brake_base.specs.Vectors.{IsWithin}
use Rattle.brake_base.specs.Turns.{stay}
use Rattle.brake_base.specs.Boxes.{IsBoxWithin}
use Rattle.fold_boxes.specs.Posing.{IsNearPoseBox}
use Rattle.sector_geom.specs.Covers.{IsCoverBy}
use Rattle.sheet_views.specs.declared.fingers.Fingers.{Fingers}
use Rattle.sheet_views.specs.declared.part_views.DrawnBox.{DrawnBox}
use Rattle.sheet_views.specs.declared.swept.Struck.{Struck}
use Rattle.sheet_views.specs.declared.swept.Struck.TheVariants.{Body, Nose}
use Rattle.sheet_views.specs.declared.swept.Swept.{Swept}
use Rattle.sheet_views.specs.Drawing.{DrawingData}

-- the fingers
pub record IsNearFingers (fingers : Fingers) : Type 0 where
  pub edge : unsigned_abs fingers.edge ≤ 2 ^ 40
  pub left : IsBoxWithin (2 ^ 40) fingers.left
  pub right : IsBoxWithin (2 ^ 40) fingers.right

-- the boxes of a view
abbrev pub AreNearBoxes : List DrawnBox → Type 0
AreNearBoxes boxes = All (λ b. IsBoxWithin (2 ^ 40) b.body) boxes

-- the drawing of a stroke, and where face 0 lies in its pose
pub record IsNearDrawing (drawing : DrawingData) : Type 0 where
  pub pose : All IsNearPoseBox drawing.pose.boxes
  pub places : 0 < length drawing.pose.places
  pub held : IsWithin (2 ^ 40) (slice_index_or drawing.pose.places 0 stay).shift
  pub from : unsigned_abs drawing.line.0 ≤ 2 ^ 40
  pub to : unsigned_abs drawing.line.1 ≤ 2 ^ 40
  pub before : AreNearBoxes drawing.before
  pub after : AreNearBoxes drawing.after

-- an area
pub record IsNearArea (area : Rect) : Type 0 where
  pub y0 : unsigned_abs area.y0 ≤ 2 ^ 40
  pub y1 : unsigned_abs area.y1 ≤ 2 ^ 40
  pub z0 : unsigned_abs area.z0 ≤ 2 ^ 40
  pub z1 : unsigned_abs area.z1 ≤ 2 ^ 40

-- what a swept box would strike
abbrev pub IsNearStruck : Struck → Type 0
IsNearStruck (Body rect) = IsNearArea rect
IsNearStruck (Nose size) = unsigned_abs size ≤ 2 ^ 40

-- what a box sweeps, with a cover of a piece that lies near
pub record IsNearSwept (swept : Swept) : Type 0 where
  pub body : IsNearArea swept.body
  pub cover : IsCoverBy swept.sweep swept.cover
  pub struck : IsNearStruck swept.struck
