-- Points above and below the plane of a parent, and the columns of corners.
use Rattle.std.proofs.Common.{◌≡◌, ℕ, ℤ, pos, negsuc, ◌+ℤ◌, ◌-ℤ◌, ◌*ℤ◌, neg_ℤ, ◌≤ℤ◌, int_div, List, refl, sym, ◌∙◌, ap, subst, arith}
use Rattle.std.proofs.lemmas.Int.{ints}
use Rattle.brake_base.specs.declared.space.V3.{V3}
use Rattle.brake_base.specs.declared.space.Box3.{Box3}
use Rattle.brake_base.specs.Vectors.{vector, plus, times, IsWithin}
use Rattle.brake_base.specs.Boxes.{box_of, IsBoxWithin}
use Rattle.brake_base.proofs.Vectors.{same_point, least_within, greatest_within}
use Rattle.part_file.specs.declared.part.Joint.{Joint}
use Rattle.part_file.specs.declared.part.Side.{Side}
use Rattle.part_file.specs.declared.part.Side.TheVariants.{N, E, S, W}
use Rattle.part_file.specs.declared.part.Dir.{Dir}
use Rattle.part_file.specs.declared.part.Dir.TheVariants.{Up, Down}
use Rattle.part_file.specs.Part.{FaceData, half_thickness, face_at, along, outward, is_bent}
use Rattle.unfolder.specs.declared.blank.BendLine.{BendLine}
use Rattle.unfolder.specs.Cores.{joint_of, z_axis, side_point, if_bent, parent_line}
use Rattle.unfolder.specs.Design.{fold_sign, design_step}
use Rattle.unfolder.specs.Fold.{dot, minus}
use Rattle.fold_boxes.specs.Shapes.{ShapeData, core_width, line_length}
use Rattle.fold_boxes.specs.Folded.{corner_column}
use Rattle.fold_boxes.specs.Hinges.{folded_matrix, column_over}

-- a point of the plane, raised
pub raised : (x y k : ℤ) (v : V3) → vector x y (pos 0) ≡ v → vector x y k ≡ plus v (times k z_axis)
raised x y k v e = subst (λ (u : V3). vector x y k ≡ plus u (times k z_axis)) e (same_point _ _ (omega (arith, ints)) (omega (arith, ints)) (omega (arith, ints)))

lowered : (dir : Dir) (tau : ℤ) → times (fold_sign dir *ℤ neg_ℤ tau) z_axis ≡ times (neg_ℤ (fold_sign dir)) (times tau z_axis)
lowered Up tau = same_point _ _ (omega (arith, ints)) (omega (arith, ints)) (omega (arith, ints))
lowered Down tau = same_point _ _ (omega (arith, ints)) (omega (arith, ints)) (omega (arith, ints))

-- where a folded child's origin lies
pub folded_shift : (dir : Dir) (x y z tau : ℤ) (v : V3) → vector x y (pos 0) ≡ v → z ≡ fold_sign dir *ℤ neg_ℤ tau → vector x y z ≡ plus v (times (neg_ℤ (fold_sign dir)) (times tau z_axis))
folded_shift dir x y z tau v e height = ap (vector x y) height ∙ raised x y (fold_sign dir *ℤ neg_ℤ tau) v e ∙ ap (plus v) (lowered dir tau)

-- the step of a folded bend, from what the code reads
pub design_step_is : (faces : List FaceData) (tau : ℤ) (b : ℕ) (joint : Joint) (parent : FaceData) (at : V3)
    → joint ≡ joint_of faces b → parent ≡ face_at faces joint.on → at ≡ plus (side_point joint.side parent joint.at tau) (times (neg_ℤ (fold_sign joint.dir)) (times tau z_axis))
    → record { turn = folded_matrix joint.side joint.dir; shift = at } ≡ design_step faces tau b
design_step_is faces tau b joint parent at joint_is parent_at at_is =
    let parent_is : parent ≡ face_at faces (joint_of faces b).on = parent_at ∙ ap (λ (j : Joint). face_at faces j.on) joint_is in
    let shift = at_is ∙ (λ i. plus (side_point (joint_is i).side (parent_is i) (joint_is i).at tau) (times (neg_ℤ (fold_sign (joint_is i).dir)) (times tau z_axis))) in
    λ i. record { turn = folded_matrix (joint_is i).side (joint_is i).dir; shift = shift i }

-- a point of a side lies in the plane of its face
in_plane : (side : Side) (face : FaceData) (distance depth : ℤ) → vector (side_point side face distance depth).x (side_point side face distance depth).y (pos 0) ≡ side_point side face distance depth
in_plane N face distance depth = same_point _ _ refl refl (omega (arith, ints))
in_plane E face distance depth = same_point _ _ refl refl (omega (arith, ints))
in_plane S face distance depth = same_point _ _ refl refl (omega (arith, ints))
in_plane W face distance depth = same_point _ _ refl refl (omega (arith, ints))

-- the column over a bend's line is that of its corner
over_line : (shape : ShapeData) (b : ℕ) → column_over (joint_of shape.part.faces b).side (parent_line shape.part.faces shape.q b) shape.q (half_thickness shape.part) ≡ corner_column shape b
over_line shape b =
    let joint = joint_of shape.part.faces b in
    let parent = face_at shape.part.faces joint.on in
    let s = fold_sign joint.dir in
    let tau = half_thickness shape.part in
    let start = joint.at +ℤ if_bent (is_bent shape.part.faces b W) shape.q in
    let end = (joint.at +ℤ (face_at shape.part.faces b).width) -ℤ if_bent (is_bent shape.part.faces b E) shape.q in
    let first = in_plane joint.side parent start shape.q in
    let last = in_plane joint.side parent end shape.q in
    λ i. box_of (plus (first i) (times (s *ℤ neg_ℤ tau) z_axis)) (plus (plus (last i) (times shape.q (outward joint.side))) (times (s *ℤ (shape.q -ℤ tau)) z_axis))

pub column_is : (shape : ShapeData) (b : ℕ) (line : BendLine) (joint : Joint) (tau : ℤ) → line ≡ parent_line shape.part.faces shape.q b → joint ≡ joint_of shape.part.faces b → tau ≡ half_thickness shape.part
    → column_over joint.side line shape.q tau ≡ corner_column shape b
column_is shape b line joint tau line_is joint_is tau_is = (λ i. column_over (joint_is i).side (line_is i) shape.q (tau_is i)) ∙ over_line shape b

-- a box is as near as the points that it holds
pub box_near : (n : ℕ) (u v : V3) (b : Box3) → b ≡ box_of u v → IsWithin n u → IsWithin n v → IsBoxWithin n b
box_near n u v b e p q = subst (IsBoxWithin n) (sym e) (record { lo = least_within n u v p q; hi = greatest_within n u v p q })

-- half of a sheet's thickness
pub half_bounds : (t : ℤ) → pos 2 ≤ℤ t → t ≤ℤ pos 50000 → (pos 1 ≤ℤ int_div t (pos 2)) × (int_div t (pos 2) ≤ℤ pos 25000)
half_bounds (pos n) low high = (omega (arith, ints), omega (arith, ints))
half_bounds (negsuc n) low high = absurd (omega (arith, ints))

-- the line runs over the child's core
along_side : (side : Side) (face : FaceData) (start end depth : ℤ) → dot (minus (side_point side face end depth) (side_point side face start depth)) (along side) ≡ end -ℤ start
along_side N face start end depth = omega (arith, ints)
along_side E face start end depth = omega (arith, ints)
along_side S face start end depth = omega (arith, ints)
along_side W face start end depth = omega (arith, ints)

pub line_is : (shape : ShapeData) (b : ℕ) → core_width shape b ≡ line_length shape b
line_is shape b =
    let joint = joint_of shape.part.faces b in
    let west = if_bent (is_bent shape.part.faces b W) shape.q in
    let east = if_bent (is_bent shape.part.faces b E) shape.q in
    let width = (face_at shape.part.faces b).width in
    let ends : (width -ℤ east) -ℤ west ≡ ((joint.at +ℤ width) -ℤ east) -ℤ (joint.at +ℤ west) = omega (arith, ints) in
    ends ∙ sym (along_side joint.side (face_at shape.part.faces joint.on) (joint.at +ℤ west) ((joint.at +ℤ width) -ℤ east) shape.q)
