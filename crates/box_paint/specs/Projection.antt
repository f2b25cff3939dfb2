-- Where a point is drawn: a true view along a direction, by two rows that are orthogonal and of one
-- length.
use Rattle.std.specs.Prelude.{◌≡◌, ℤ, pos, negsuc, ◌+ℤ◌, ◌*ℤ◌, List, [], ◌∷◌, map}
use Rattle.brake_base.specs.declared.space.V3.{V3}
use Rattle.brake_base.specs.declared.space.Box3.{Box3}
use Rattle.brake_base.specs.Vectors.{vector}
use Rattle.box_paint.specs.declared.projection.Face.{Face}
use Rattle.box_paint.specs.declared.projection.FaceKind.{FaceKind}
use Rattle.box_paint.specs.declared.projection.FaceKind.TheVariants.{Right, Front, Top}

abbrev pub product : V3 → V3 → ℤ
product u v = ((u.x *ℤ v.x) +ℤ (u.y *ℤ v.y)) +ℤ (u.z *ℤ v.z)

-- The picture's direction to the right and that upwards, and the direction from which the eye
-- looks, each of length 25.
abbrev pub rightwards : V3
rightwards = vector (pos 20) (pos 15) (pos 0)

abbrev pub upwards : V3
upwards = vector (negsuc 8) (pos 12) (pos 20)

abbrev pub eye : V3
eye = vector (pos 12) (negsuc 15) (pos 15)

-- where a point is drawn, in hundredths of its unit: a 25th of each product
abbrev pub drawn : V3 → ℤ × ℤ
drawn p = (pos 4 *ℤ product rightwards p, pos 4 *ℤ product upwards p)

-- the three directions are orthogonal and equally long
pub record IsTrueView (right up eye : V3) (length : ℤ) : Type 0 where
  pub right_up : product right up ≡ pos 0
  pub right_eye : product right eye ≡ pos 0
  pub up_eye : product up eye ≡ pos 0
  pub right_length : product right right ≡ (length *ℤ length)
  pub up_length : product up up ≡ (length *ℤ length)
  pub eye_length : product eye eye ≡ (length *ℤ length)

-- the corners of the faces that look towards the eye: the right, the front and the top face
abbrev pub right_face : Box3 → List V3
right_face b =
    vector b.hi.x b.lo.y b.lo.z ∷ vector b.hi.x b.hi.y b.lo.z ∷ b.hi
    ∷ vector b.hi.x b.lo.y b.hi.z ∷ []

abbrev pub front_face : Box3 → List V3
front_face b =
    b.lo ∷ vector b.hi.x b.lo.y b.lo.z ∷ vector b.hi.x b.lo.y b.hi.z
    ∷ vector b.lo.x b.lo.y b.hi.z ∷ []

abbrev pub top_face : Box3 → List V3
top_face b =
    vector b.lo.x b.lo.y b.hi.z ∷ vector b.hi.x b.lo.y b.hi.z ∷ b.hi
    ∷ vector b.lo.x b.hi.y b.hi.z ∷ []

-- the three faces, in the order in which they are painted
abbrev pub faces_of : Box3 → List Face
faces_of b =
    record { kind = Right; corners = right_face b } ∷ record { kind = Front; corners = front_face b }
    ∷ record { kind = Top; corners = top_face b } ∷ []
