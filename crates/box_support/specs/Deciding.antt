-- The bends that decide where a box lies as seen from a face.
use Rattle.std.specs.Prelude.{◌≡◌, ℕ, ◌==◌, nat_lt, Bool, not, ◌&&◌, ◌||◌, IsTrue, List}
use Rattle.brake_base.specs.declared.mask.Mask.{Mask}
use Rattle.brake_base.specs.Masks.{has}
use Rattle.part_file.specs.Part.{FaceData}
use Rattle.fold_boxes.specs.Pose.{is_beyond_some, face_of_box}

-- the bend is on the path between two faces: the one lies beyond it and the other doesn't
abbrev pub is_on_path : List FaceData → ℕ → ℕ → ℕ → Bool
is_on_path faces f g bend =
    let is_beyond = is_beyond_some faces (λ c. c == bend) in
    (is_beyond f && not (is_beyond g)) || (is_beyond g && not (is_beyond f))

-- The bend decides where the box of a number lies as seen from a face: it is on the path to the
-- box's face, or the box is its corner.
abbrev pub is_deciding : List FaceData → ℕ → ℕ → ℕ → Bool
is_deciding faces from box bend =
    is_on_path faces from (face_of_box box) bend || (nat_lt 12 box && (face_of_box box == bend))

-- two sets of folded bends agree on the bends that decide where a box lies as seen from a face
abbrev pub AgreeOnBox : List FaceData → ℕ → ℕ → Mask → Mask → Type 0
AgreeOnBox faces from box s t =
    (bend : ℕ) → IsTrue (is_deciding faces from box bend) → has s bend ≡ has t bend
