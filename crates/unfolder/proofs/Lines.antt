-- The line of a bend on its parent.
use Rattle.std.proofs.Common.{◌≡◌, ℕ, ℤ, pos, ◌+ℤ◌, ◌-ℤ◌, List, ap, ◌∙◌}
use Rattle.brake_base.specs.Vectors.{vector}
use Rattle.part_file.specs.declared.part.Joint.{Joint}
use Rattle.part_file.specs.declared.part.Side.TheVariants.{E, W}
use Rattle.part_file.specs.Part.{FaceData, face_at, is_bent}
use Rattle.unfolder.specs.Cores.{joint_of, in_plane, side_point, if_bent, line_start, line_end, parent_line}

pub parent_line_is : (faces : List FaceData) (q : ℤ) (b : ℕ) (joint : Joint) (parent child : FaceData) (from to : ℤ × ℤ) (west east : ℤ)
    → joint ≡ joint_of faces b → parent ≡ face_at faces joint.on → child ≡ face_at faces b
    → west ≡ if_bent (is_bent faces b W) q → east ≡ if_bent (is_bent faces b E) q
    → vector from.0 from.1 (pos 0) ≡ side_point joint.side parent (joint.at +ℤ west) q
    → vector to.0 to.1 (pos 0) ≡ side_point joint.side parent ((joint.at +ℤ child.width) -ℤ east) q
    → record { bend = b; from = from; to = to; dir = joint.dir } ≡ parent_line faces q b
parent_line_is faces q b joint parent child from to west east joint_is parent_at child_at west_is east_is from_is to_is =
    let parent_is : parent ≡ face_at faces (joint_of faces b).on = parent_at ∙ ap (λ (j : Joint). face_at faces j.on) joint_is in
    let start : vector from.0 from.1 (pos 0) ≡ line_start faces q b = from_is ∙ (λ i. side_point (joint_is i).side (parent_is i) ((joint_is i).at +ℤ west_is i) q) in
    let end : vector to.0 to.1 (pos 0) ≡ line_end faces q b = to_is ∙ (λ i. side_point (joint_is i).side (parent_is i) (((joint_is i).at +ℤ (child_at i).width) -ℤ east_is i) q) in
    λ i. record { bend = b; from = in_plane (start i); to = in_plane (end i); dir = (joint_is i).dir }
