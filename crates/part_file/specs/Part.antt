-- A part as its numbers, lists and texts, and the rules that each part that is read meets.
use Rattle.std.specs.Prelude.{◌≡◌, ◌≢◌, ℕ, ◌<◌, ◌≤◌, ℤ, pos, neg_ℤ, ◌+ℤ◌, ◌≤ℤ◌, int_div}
use Rattle.std.specs.Prelude.{unsigned_abs, ◌%◌, ◌==◌, List, [], ◌∷◌, length, map, Bool, true}
use Rattle.std.specs.Prelude.{false, not, ◌&&◌, ◌||◌, Option, Some, None, IsTrue, AllPairs}
use Rattle.std.specs.List.{list_any, slice_index_or}
use Rattle.brake_base.specs.declared.space.V3.{V3}
use Rattle.toml_fields.specs.Fields.{is_name}
use Rattle.toml_fields.specs.Ranges.{IsWithin}
use Rattle.part_file.specs.Bounds.{least_thickness, greatest_thickness, least_radius}
use Rattle.part_file.specs.Bounds.{greatest_radius, least_size, greatest_size, most_faces}
use Rattle.part_file.specs.declared.part.Side.{Side}
use Rattle.part_file.specs.declared.part.Side.TheVariants.{N, E, S, W}
use Rattle.part_file.specs.declared.part.Joint.{Joint}
use Rattle.part_file.specs.declared.part.Face.{Face}
use Rattle.part_file.specs.declared.part.Part.{Part}

-- a face: its name, its outside sizes in micrometres, and its joint to an earlier face
pub record FaceData : Type 0 where
  pub name : List ℕ
  pub width : ℤ
  pub length : ℤ
  pub joint : Option Joint

-- a part: lengths are in micrometres
pub record PartData : Type 0 where
  pub material : List ℕ
  pub thickness : ℤ
  pub radius : ℤ
  pub faces : List FaceData

abbrev pub face_data : Face → FaceData
face_data f = record { name = f.name.bytes; width = f.width; length = f.length; joint = f.joint }

abbrev pub part_data : Part → PartData
part_data p =
    record {
      material = p.material.bytes;
      thickness = p.thickness;
      radius = p.radius;
      faces = map face_data p.faces.items;
    }

-- tau, half the thickness
abbrev pub half_thickness : PartData → ℤ
half_thickness part = int_div part.thickness (pos 2)

-- what stands past the last face
abbrev pub no_face : FaceData
no_face = record { name = []; width = pos 0; length = pos 0; joint = None }

-- the face of a number
abbrev pub face_at : List FaceData → ℕ → FaceData
face_at faces f = slice_index_or faces f no_face

-- the joint of a face; face 0 has none
abbrev pub joint_at : List FaceData → ℕ → Option Joint
joint_at faces f = (face_at faces f).joint

-- how long a side of a face is
abbrev pub side_length : Side → FaceData → ℤ
side_length N face = face.width
side_length E face = face.length
side_length S face = face.width
side_length W face = face.length

-- where a side of a face begins, clockwise, in the face's own coordinates
abbrev pub start : Side → FaceData → V3
start N face = record { x = pos 0; y = face.length; z = pos 0 }
start E face = record { x = face.width; y = face.length; z = pos 0 }
start S face = record { x = face.width; y = pos 0; z = pos 0 }
start W face = record { x = pos 0; y = pos 0; z = pos 0 }

-- the direction in which a side runs, clockwise
abbrev pub along : Side → V3
along N = record { x = pos 1; y = pos 0; z = pos 0 }
along E = record { x = pos 0; y = neg_ℤ (pos 1); z = pos 0 }
along S = record { x = neg_ℤ (pos 1); y = pos 0; z = pos 0 }
along W = record { x = pos 0; y = pos 1; z = pos 0 }

-- the direction from a side out of the face
abbrev pub outward : Side → V3
outward N = record { x = pos 0; y = pos 1; z = pos 0 }
outward E = record { x = pos 1; y = pos 0; z = pos 0 }
outward S = record { x = pos 0; y = neg_ℤ (pos 1); z = pos 0 }
outward W = record { x = neg_ℤ (pos 1); y = pos 0; z = pos 0 }

abbrev pub same_side : Side → Side → Bool
same_side N N = true
same_side E E = true
same_side S S = true
same_side W W = true
same_side _ _ = false

-- the joint is on this side of this face
abbrev pub is_joint_on : ℕ → Side → Option Joint → Bool
is_joint_on f side None = false
is_joint_on f side (Some joint) = (joint.on == f) && same_side joint.side side

-- some bend joins the face at that side; a face other than face 0 is joined at its own S side
abbrev pub is_bent : List FaceData → ℕ → Side → Bool
is_bent faces f side =
    (same_side S side && not (f == 0)) || list_any (λ face. is_joint_on f side face.joint) faces

-- the face lies beyond the bend, seen from face 0: it is the bend's child, or its parent lies
-- beyond
pub data IsBeyond (faces : List FaceData) (b : ℕ) : ℕ → Type 0 where
  child : (f : ℕ) → f ≡ b → IsBeyond faces b f
  further : (f : ℕ) (joint : Joint) → joint_at faces f ≡ Some joint → IsBeyond faces b joint.on
      → IsBeyond faces b f

-- a walk from face to face over these bends, each from a child to its parent or back
pub data IsWalk (faces : List FaceData) : ℕ → List ℕ → ℕ → Type 0 where
  stay : (f g : ℕ) → f ≡ g → IsWalk faces f [] g
  inward : (f g : ℕ) (joint : Joint) (bends : List ℕ) → joint_at faces f ≡ Some joint
      → IsWalk faces joint.on bends g → IsWalk faces f (f ∷ bends) g
  onward : (f g : ℕ) (joint : Joint) (bends : List ℕ) → joint_at faces f ≡ Some joint
      → IsWalk faces f bends g → IsWalk faces joint.on (f ∷ bends) g

-- the path in the tree of faces from one to another: the walk that takes no bend twice
pub record IsPath (faces : List FaceData) (from : ℕ) (bends : List ℕ) (to : ℕ) : Type 0 where
  pub walk : IsWalk faces from bends to
  pub once : AllPairs (λ b c. b ≢ c) bends

-- a thickness of the sheet: even and in range
pub record IsThickness (n : ℤ) : Type 0 where
  pub range : IsWithin least_thickness greatest_thickness n
  pub even : unsigned_abs n % 2 ≡ 0

-- an inner radius of the bends
abbrev pub IsRadius : ℤ → Type 0
IsRadius n = IsWithin least_radius greatest_radius n

-- the sheet: the name of its material, its thickness, and the inner radius of its bends
pub record IsSheet (p : PartData) : Type 0 where
  pub material : IsTrue (is_name p.material)
  pub thickness : IsThickness p.thickness
  pub radius : IsRadius p.radius

-- a size of a face
abbrev pub IsSize : ℤ → Type 0
IsSize n = IsWithin least_size greatest_size n

-- the sizes of a face
pub record HasSizes (face : FaceData) : Type 0 where
  pub wide : IsSize face.width
  pub long : IsSize face.length

-- no earlier face has the name of face b
pub record HasNewName (faces : List FaceData) (b : ℕ) : Type 0 where
  pub differs : (f : ℕ) → f < b → (face_at faces f).name ≢ (face_at faces b).name

-- a face of this width stands within the side of its parent, which isn't the S side of a face other
-- than face 0
pub record StandsWithin (parent : FaceData) (width : ℤ) (joint : Joint) : Type 0 where
  pub at_low : pos 0 ≤ℤ joint.at
  pub at_high : (joint.at +ℤ width) ≤ℤ side_length joint.side parent
  pub south : joint.side ≡ S → joint.on ≡ 0

-- the joint of face b: on an earlier face, and within its side
pub record IsJointOf (faces : List FaceData) (b : ℕ) (joint : Joint) : Type 0 where
  pub has : joint_at faces b ≡ Some joint
  pub earlier : joint.on < b
  pub within : StandsWithin (face_at faces joint.on) (face_at faces b).width joint

-- face 0 has no joint, and each other face is joined to an earlier one
pub record IsJoined (faces : List FaceData) (b : ℕ) : Type 0 where
  pub root : b ≡ 0 → joint_at faces b ≡ None
  pub joint : 0 < b → (joint : Joint) × IsJointOf faces b joint

-- the sizes of face b are in range, and it is joined as it has to be
pub record IsPlaced (faces : List FaceData) (b : ℕ) : Type 0 where
  pub sizes : HasSizes (face_at faces b)
  pub joined : IsJoined faces b

-- the rules of face b
pub record IsFaceOf (faces : List FaceData) (b : ℕ) : Type 0 where
  pub name : IsTrue (is_name (face_at faces b).name)
  pub new_name : HasNewName faces b
  pub placed : IsPlaced faces b

-- the rules of the part file
pub record IsPart (p : PartData) : Type 0 where
  pub sheet : IsSheet p
  pub some_face : 0 < length p.faces
  pub few_faces : length p.faces ≤ most_faces
  pub each_face : (b : ℕ) → b < length p.faces → IsFaceOf p.faces b
