-- The places that the code keeps, by their indices.
use Rattle.std.specs.Prelude.{◌≡◌, ℕ, ◌*◌, ◌<◌, List, length, slice_index_or}
use Rattle.brake_base.specs.declared.space.Place.{Place}
use Rattle.brake_base.specs.declared.mask.Mask.{Mask}
use Rattle.brake_base.specs.Vectors.{IsWithin}
use Rattle.brake_base.specs.Turns.{map_of}
use Rattle.fold_boxes.specs.Shapes.{ShapeData}
use Rattle.fold_boxes.specs.Folded.{place_of}

-- the place of face f; a face has at most f bends on its way to the root
pub record IsPlaceOf (shape : ShapeData) (mask : Mask) (f : ℕ) (place : Place) : Type 0 where
  pub map : map_of place ≡ place_of shape mask f
  pub near : IsWithin (f * 21000000) place.at

-- the places of the first faces, in order
abbrev pub ArePlaces : ShapeData → Mask → List Place → Type 0
ArePlaces shape mask places =
    (f : ℕ) (other : Place) → f < length places
    → IsPlaceOf shape mask f (slice_index_or places f other)
