-- The rules of a face as tests, by which the reader refuses.
use Rattle.std.specs.Prelude.{ℕ, ℤ, pos, ◌+ℤ◌, int_le, List, take, Bool, true, not, ◌&&◌, nat_lt}
use Rattle.std.specs.Prelude.{◌==◌, bytes_eq, Option, Some, None, is_some}
use Rattle.std.specs.List.{list_any}
use Rattle.toml_fields.specs.Ranges.{is_within}
use Rattle.part_file.specs.Bounds.{least_size, greatest_size}
use Rattle.part_file.specs.declared.part.Side.{Side}
use Rattle.part_file.specs.declared.part.Side.TheVariants.{S}
use Rattle.part_file.specs.declared.part.Joint.{Joint}
use Rattle.part_file.specs.Part.{FaceData, face_at, joint_at, side_length}

-- an earlier face has the face's name
abbrev pub has_namesake : List FaceData → ℕ → Bool
has_namesake faces f = list_any (λ face. bytes_eq face.name (face_at faces f).name) (take f faces)

-- the face isn't face 0, and no earlier face was found on which it stands
abbrev pub lacks_parent : List FaceData → ℕ → Bool
lacks_parent faces f = not (f == 0) && not (is_some (joint_at faces f))

-- both sizes are in range
abbrev pub has_sizes : FaceData → Bool
has_sizes face =
    is_within least_size greatest_size face.width && is_within least_size greatest_size face.length

-- a face may stand on this side of the face of a number: on an S side only of face 0
abbrev pub may_carry : ℕ → Side → Bool
may_carry parent S = parent == 0
may_carry parent _ = true

-- a face of this width stands within the side of its parent, which isn't the S side of a face other
-- than face 0
abbrev pub stands_within : FaceData → ℤ → Joint → Bool
stands_within parent width joint =
    (int_le (pos 0) joint.at && int_le (joint.at +ℤ width) (side_length joint.side parent))
    && may_carry joint.on joint.side

-- the joint of face f is on an earlier face, and within its side; face 0 has none
abbrev pub is_joint : List FaceData → ℕ → Option Joint → Bool
is_joint faces f None = f == 0
is_joint faces f (Some joint) =
    nat_lt joint.on f && stands_within (face_at faces joint.on) (face_at faces f).width joint

-- the sizes of the face are in range, and it is within the side on which it stands
abbrev pub is_placed : List FaceData → ℕ → Bool
is_placed faces f = has_sizes (face_at faces f) && is_joint faces f (joint_at faces f)

-- the face has a size out of range, or isn't within the side on which it stands
abbrev pub has_bad_size : List FaceData → ℕ → Bool
has_bad_size faces f = not (is_placed faces f)
