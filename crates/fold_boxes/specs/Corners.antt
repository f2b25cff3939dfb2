-- Where the corners of folded bends meet the cores.
use Rattle.std.specs.Prelude.{ℕ, ◌<◌, IsTrue, length}
use Rattle.brake_base.specs.declared.space.V3.{V3}
use Rattle.brake_base.specs.declared.space.Box3.{Box3}
use Rattle.brake_base.specs.declared.mask.Mask.{Mask}
use Rattle.brake_base.specs.Boxes.{IsIn}
use Rattle.brake_base.specs.Masks.{has}
use Rattle.unfolder.specs.Cores.{joint_of}
use Rattle.fold_boxes.specs.Shapes.{ShapeData}
use Rattle.fold_boxes.specs.Folded.{face_box, corner_box}

-- the boxes share a point, their faces included
abbrev pub Touch : Box3 → Box3 → Type 0
Touch a b = (p : V3) × IsIn a p × IsIn b p

-- the corner of each folded bend touches the cores of both faces that the bend joins
pub record CornersTouch (shape : ShapeData) (mask : Mask) : Type 0 where
  pub parent :
      (b : ℕ) → 0 < b → b < length shape.part.faces → IsTrue (has mask b)
      → Touch (corner_box shape mask b).body
      (face_box shape mask (joint_of shape.part.faces b).on).body
  pub child :
      (b : ℕ) → 0 < b → b < length shape.part.faces → IsTrue (has mask b)
      → Touch (corner_box shape mask b).body (face_box shape mask b).body
