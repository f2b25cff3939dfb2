-- The cores and the corners of a part have an interior, also where they are turned and shifted.
use Rattle.std.proofs.Common.{inl, inr, ℕ, ◌<◌, ℤ, pos, neg_ℤ, ◌+ℤ◌, ◌-ℤ◌, ◌*ℤ◌, ◌≤ℤ◌, ◌<ℤ◌, length, arith}
use Rattle.std.proofs.lemmas.Int.{ints, clamps}
use Rattle.std.specs.Int.{int_min, int_max}
use Rattle.brake_base.specs.declared.space.V3.{V3}
use Rattle.brake_base.specs.declared.space.Box3.{Box3}
use Rattle.brake_base.specs.declared.mask.Mask.{Mask}
use Rattle.brake_base.specs.Vectors.{plus, times, least, greatest, IsBelow}
use Rattle.brake_base.specs.Turns.{Map, IsTurn, apply, mapped}
use Rattle.brake_base.specs.Boxes.{image}
use Rattle.brake_base.proofs.Images.{Axis, along_x, along_y, along_z, axis}
use Rattle.part_file.specs.declared.part.Side.{Side}
use Rattle.part_file.specs.declared.part.Side.TheVariants.{N, E, S, W}
use Rattle.part_file.specs.declared.part.Dir.{Dir}
use Rattle.part_file.specs.declared.part.Dir.TheVariants.{Up, Down}
use Rattle.part_file.specs.Part.{FaceData, face_at, half_thickness, outward}
use Rattle.unfolder.specs.Cores.{joint_of, z_axis, side_point}
use Rattle.unfolder.specs.Design.{fold_sign}
use Rattle.unfolder.proofs.FoldLaws.{core_is_wide, core_is_long}
use Rattle.fold_boxes.specs.Shapes.{ShapeData, IsShape, mould_distance}
use Rattle.fold_boxes.specs.Folded.{place_of, core_box, corner_column, face_box, corner_box}
use Rattle.fold_boxes.proofs.Folding.{cores_of_shape}
use Rattle.fold_boxes.proofs.Numbered.{numbered_is_turn}
use Rattle.fold_boxes.proofs.PoseEffect.{numbered_place}
use Rattle.fold_boxes.proofs.PartBounds.{small_numbers, line_begin, line_finish, parent_inside}

-- ---- under a map
abbrev along_row : ℤ → ℤ → ℤ → V3 → ℤ
along_row a b c v = (v.x *ℤ a +ℤ v.y *ℤ b) +ℤ v.z *ℤ c

row_apart : (a b c s : ℤ) (u v : V3) → Axis a b c → IsBelow u v → int_min (along_row a b c u +ℤ s) (along_row a b c v +ℤ s) <ℤ int_max (along_row a b c u +ℤ s) (along_row a b c v +ℤ s)
row_apart a b c s u v (along_x (inl e) f g) h = rw (e, f, g) (omega (arith, ints, clamps, h.x))
row_apart a b c s u v (along_x (inr e) f g) h = rw (e, f, g) (omega (arith, ints, clamps, h.x))
row_apart a b c s u v (along_y e (inl f) g) h = rw (e, f, g) (omega (arith, ints, clamps, h.y))
row_apart a b c s u v (along_y e (inr f) g) h = rw (e, f, g) (omega (arith, ints, clamps, h.y))
row_apart a b c s u v (along_z e f (inl g)) h = rw (e, f, g) (omega (arith, ints, clamps, h.z))
row_apart a b c s u v (along_z e f (inr g)) h = rw (e, f, g) (omega (arith, ints, clamps, h.z))

pub image_solid : (m : Map) (b : Box3) → IsTurn m.turn → IsBelow b.lo b.hi → IsBelow (image m b).lo (image m b).hi
unfolding image mapped apply
image_solid m b turn solid =
    let t = m.turn in
    let s = m.shift in
    record {
      x = row_apart t.x.x t.y.x t.z.x s.x b.lo b.hi (axis t.x.x t.y.x t.z.x turn.x_row) solid;
      y = row_apart t.x.y t.y.y t.z.y s.y b.lo b.hi (axis t.x.y t.y.y t.z.y turn.y_row) solid;
      z = row_apart t.x.z t.y.z t.z.z s.z b.lo b.hi (axis t.x.z t.y.z t.z.z turn.z_row) solid;
    }

-- ---- a core
core_solid : (shape : ShapeData) → IsShape shape → (f : ℕ) → f < length shape.part.faces → IsBelow (core_box shape f).lo (core_box shape f).hi
core_solid shape rules f inside =
    let small = small_numbers shape rules in
    let fits = (cores_of_shape shape rules).fits f inside in
    let wide = core_is_wide shape.part.faces shape.q f fits in
    let long = core_is_long shape.part.faces shape.q f fits in
    record { x = omega (arith, ints, wide); y = omega (arith, ints, long); z = omega (arith, ints, small.thick) }

-- ---- a corner
abbrev corner_point : Side → FaceData → ℤ → ℤ → ℤ → V3
corner_point side face to q k = plus (plus (side_point side face to q) (times q (outward side))) (times k z_axis)

apart_at : (side : Side) (face : FaceData) (from to q j k : ℤ) → from <ℤ to → pos 0 <ℤ q → int_min j k <ℤ int_max j k
    → IsBelow (least (plus (side_point side face from q) (times j z_axis)) (corner_point side face to q k)) (greatest (plus (side_point side face from q) (times j z_axis)) (corner_point side face to q k))
apart_at N face from to q j k order some high = record { x = omega (arith, ints, clamps, order); y = omega (arith, ints, clamps, some); z = omega (arith, ints, clamps, high) }
apart_at E face from to q j k order some high = record { x = omega (arith, ints, clamps, some); y = omega (arith, ints, clamps, order); z = omega (arith, ints, clamps, high) }
apart_at S face from to q j k order some high = record { x = omega (arith, ints, clamps, order); y = omega (arith, ints, clamps, some); z = omega (arith, ints, clamps, high) }
apart_at W face from to q j k order some high = record { x = omega (arith, ints, clamps, some); y = omega (arith, ints, clamps, order); z = omega (arith, ints, clamps, high) }

heights_apart : (dir : Dir) (q tau : ℤ) → pos 1 ≤ℤ tau → tau ≤ℤ q → int_min (fold_sign dir *ℤ neg_ℤ tau) (fold_sign dir *ℤ (q -ℤ tau)) <ℤ int_max (fold_sign dir *ℤ neg_ℤ tau) (fold_sign dir *ℤ (q -ℤ tau))
heights_apart Up q tau some deep = omega (arith, ints, clamps, some, deep)
heights_apart Down q tau some deep = omega (arith, ints, clamps, some, deep)

column_solid : (shape : ShapeData) → IsShape shape → (b : ℕ) → b < length shape.part.faces → IsBelow (corner_column shape b).lo (corner_column shape b).hi
column_solid shape rules b inside =
    let small = small_numbers shape rules in
    let joint = joint_of shape.part.faces b in
    let tau = half_thickness shape.part in
    let wide = core_is_wide shape.part.faces shape.q b ((cores_of_shape shape rules).fits b inside) in
    apart_at joint.side (face_at shape.part.faces joint.on) (line_begin shape b) (line_finish shape b) shape.q (fold_sign joint.dir *ℤ neg_ℤ tau) (fold_sign joint.dir *ℤ mould_distance shape)
    (omega (arith, ints, wide)) (omega (arith, ints, small.thick, small.deep)) (heights_apart joint.dir shape.q tau small.thick small.deep)

-- ---- the boxes
pub face_box_solid : (shape : ShapeData) → IsShape shape → (mask : Mask) (f : ℕ) → f < length shape.part.faces → IsBelow (face_box shape mask f).body.lo (face_box shape mask f).body.hi
face_box_solid shape rules mask f inside =
    let place = place_of shape mask f in
    image_solid place (core_box shape f) (numbered_is_turn place.turn (numbered_place shape rules mask f inside)) (core_solid shape rules f inside)

pub corner_box_solid : (shape : ShapeData) → IsShape shape → (mask : Mask) (b : ℕ) → 0 < b → b < length shape.part.faces → IsBelow (corner_box shape mask b).body.lo (corner_box shape mask b).body.hi
corner_box_solid shape rules mask b some inside =
    let on = (joint_of shape.part.faces b).on in
    let earlier = (parent_inside shape rules b some inside).0 in
    let place = place_of shape mask on in
    image_solid place (corner_column shape b) (numbered_is_turn place.turn (numbered_place shape rules mask on (omega (arith, earlier, inside)))) (column_solid shape rules b inside)
