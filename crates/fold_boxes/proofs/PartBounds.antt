-- How far from 0 the cores, the corners and the places of a part lie.
use Rattle.std.proofs.Common.{ℕ, zero, suc, ◌+◌, ◌*◌, ◌<◌, ◌≤◌, ℤ, pos, neg_ℤ, ◌+ℤ◌, ◌-ℤ◌, ◌*ℤ◌, ◌≤ℤ◌, Bool, true, false, cond, length, sym, ap, subst, arith}
use Rattle.std.proofs.lemmas.Int.{ints}
use Rattle.std.specs.Prelude.{unwrap_or}
use Rattle.brake_base.specs.declared.space.V3.{V3}
use Rattle.brake_base.specs.declared.space.Box3.{Box3}
use Rattle.brake_base.specs.declared.mask.Mask.{Mask}
use Rattle.brake_base.specs.Vectors.{plus, times, IsWithin}
use Rattle.brake_base.specs.Turns.{Map, IsTurn, apply, mapped}
use Rattle.brake_base.specs.Boxes.{image, IsBoxWithin}
use Rattle.brake_base.specs.Masks.{has}
use Rattle.brake_base.proofs.Vectors.{least_within, greatest_within, within_more, box_within_more}
use Rattle.brake_base.proofs.Maps.{after-shift}
use Rattle.brake_base.proofs.Images.{axis}
use Rattle.part_file.specs.declared.part.Side.{Side}
use Rattle.part_file.specs.declared.part.Side.TheVariants.{N, E, S, W}
use Rattle.part_file.specs.declared.part.Dir.{Dir}
use Rattle.part_file.specs.declared.part.Dir.TheVariants.{Up, Down}
use Rattle.part_file.specs.Part.{PartData, FaceData, HasSizes, IsJointOf, IsPart, face_at, is_bent, half_thickness, outward}
use Rattle.unfolder.specs.Near.{IsWithin as IsNear}
use Rattle.unfolder.specs.Cores.{joint_of, no_joint, z_axis, side_point, if_bent}
use Rattle.unfolder.specs.Blank.{flat_step}
use Rattle.unfolder.specs.Design.{fold_sign, design_step}
use Rattle.unfolder.proofs.ChainLemmas.{joint_of_part}
use Rattle.unfolder.proofs.Faces.{begin_within}
use Rattle.unfolder.proofs.PlaceLaws.{place-root, place-bend}
use Rattle.fold_boxes.specs.Shapes.{ShapeData, IsShape, mould_distance}
use Rattle.fold_boxes.specs.Folded.{place_of, core_box, corner_column, face_box, corner_box}
use Rattle.fold_boxes.proofs.Columns.{half_bounds}
use Rattle.fold_boxes.proofs.Folding.{cores_of_shape}
use Rattle.fold_boxes.proofs.Numbered.{numbered_is_turn}
use Rattle.fold_boxes.proofs.PoseEffect.{numbered_place}
use Rattle.fold_boxes.proofs.Turning.{row_within}

-- ---- under a map whose shift is near, what is near stays near
pub mapped_within : (m n : ℕ) (f : Map) (v : V3) → IsTurn f.turn → IsWithin m f.shift → IsWithin n v → IsWithin (m + n) (mapped f v)
unfolding mapped apply
mapped_within m n f v turn near within =
    let t = f.turn in
    let x = row_within t.x.x t.y.x t.z.x n v (axis t.x.x t.y.x t.z.x turn.x_row) within in
    let y = row_within t.x.y t.y.y t.z.y n v (axis t.x.y t.y.y t.z.y turn.y_row) within in
    let z = row_within t.x.z t.y.z t.z.z n v (axis t.x.z t.y.z t.z.z turn.z_row) within in
    record { x = omega (arith, ints, x, near.x); y = omega (arith, ints, y, near.y); z = omega (arith, ints, z, near.z) }

pub image_within : (m n : ℕ) (f : Map) (b : Box3) → IsTurn f.turn → IsWithin m f.shift → IsBoxWithin n b → IsBoxWithin (m + n) (image f b)
unfolding image
image_within m n f b turn near within =
    let lo = mapped_within m n f b.lo turn near within.lo in
    let hi = mapped_within m n f b.hi turn near within.hi in
    record { lo = least_within (m + n) _ _ lo hi; hi = greatest_within (m + n) _ _ lo hi }

-- ---- the numbers of a shape
-- tau, q, and the distance of the mould line
pub record HasSmallNumbers (tau q : ℤ) : Type 0 where
  pub thick : pos 1 ≤ℤ tau
  pub thin : tau ≤ℤ pos 25000
  pub deep : tau ≤ℤ q
  pub shallow : q ≤ℤ pos 100000

pub small_numbers : (shape : ShapeData) → IsShape shape → HasSmallNumbers (half_thickness shape.part) shape.q
small_numbers shape rules =
    let half = half_bounds shape.part.thickness rules.part.sheet.thickness.range.bottom rules.part.sheet.thickness.range.top in
    record { thick = half.0; thin = half.1; deep = rules.q_low; shallow = rules.q_high }

-- what a side loses
lost_bounds : (t : Bool) (q : ℤ) → pos 0 ≤ℤ q → (pos 0 ≤ℤ if_bent t q) × (if_bent t q ≤ℤ q)
lost_bounds true q some = (some, omega (arith, ints))
lost_bounds false q some = (omega (arith, ints), some)

pub sizes_of : (p : PartData) → IsPart p → (f : ℕ) → f < length p.faces → HasSizes (face_at p.faces f)
sizes_of p part f inside = (part.each_face f inside).placed.sizes

pub rules_of_joint : (p : PartData) → IsPart p → (b : ℕ) → 0 < b → b < length p.faces → IsJointOf p.faces b (joint_of p.faces b)
rules_of_joint p part b some inside =
    let known = (part.each_face b inside).placed.joined.joint some in
    subst (IsJointOf p.faces b) (sym (ap (λ o. unwrap_or o no_joint) known.1.has)) known.1

-- ---- a point of a side
pub side_point_within : (side : Side) (face : FaceData) (distance depth : ℤ) → HasSizes face → IsNear 10200000 distance → IsNear 200000 depth → IsWithin 21000000 (side_point side face distance depth)
side_point_within N face distance depth sizes along deep = record { x = omega (arith, ints, along.low, along.high); y = omega (arith, ints, sizes.long.bottom, sizes.long.top, deep.low, deep.high); z = omega (arith, ints) }
side_point_within E face distance depth sizes along deep = record { x = omega (arith, ints, sizes.wide.bottom, sizes.wide.top, deep.low, deep.high); y = omega (arith, ints, sizes.long.bottom, sizes.long.top, along.low, along.high); z = omega (arith, ints) }
side_point_within S face distance depth sizes along deep = record { x = omega (arith, ints, sizes.wide.bottom, sizes.wide.top, along.low, along.high); y = omega (arith, ints, deep.low, deep.high); z = omega (arith, ints) }
side_point_within W face distance depth sizes along deep = record { x = omega (arith, ints, deep.low, deep.high); y = omega (arith, ints, along.low, along.high); z = omega (arith, ints) }

-- ---- the lines
abbrev pub line_begin : ShapeData → ℕ → ℤ
line_begin shape b = (joint_of shape.part.faces b).at +ℤ if_bent (is_bent shape.part.faces b W) shape.q

abbrev pub line_finish : ShapeData → ℕ → ℤ
line_finish shape b = ((joint_of shape.part.faces b).at +ℤ (face_at shape.part.faces b).width) -ℤ if_bent (is_bent shape.part.faces b E) shape.q

pub line_ends_near : (shape : ShapeData) → IsShape shape → (b : ℕ) → 0 < b → b < length shape.part.faces → IsNear 10200000 (line_begin shape b) × IsNear 10200000 (line_finish shape b)
line_ends_near shape rules b some inside =
    let small = small_numbers shape rules in
    let q : pos 0 ≤ℤ shape.q = omega (arith, ints, small.thick, small.deep) in
    let ends = begin_within shape.part b (joint_of shape.part.faces b) rules.part inside (rules_of_joint shape.part rules.part b some inside) in
    let at = ends.0 in
    let end = ends.1 in
    let west = lost_bounds (is_bent shape.part.faces b W) shape.q q in
    let east = lost_bounds (is_bent shape.part.faces b E) shape.q q in
    (record { low = omega (arith, ints, at.low, west.0); high = omega (arith, ints, at.high, west.1, small.shallow) }, record { low = omega (arith, ints, end.low, east.1, small.shallow); high = omega (arith, ints, end.high, east.0) })

-- the face on which the child of a bend stands
pub parent_inside : (shape : ShapeData) → IsShape shape → (b : ℕ) → 0 < b → b < length shape.part.faces → ((joint_of shape.part.faces b).on < b) × HasSizes (face_at shape.part.faces (joint_of shape.part.faces b).on)
parent_inside shape rules b some inside =
    let earlier : (joint_of shape.part.faces b).on < b = (joint_of_part shape.part rules.part).on b some inside in
    (earlier, sizes_of shape.part rules.part (joint_of shape.part.faces b).on (omega (arith, earlier)))

-- ---- a core and a corner
pub core_within : (shape : ShapeData) → IsShape shape → (f : ℕ) → f < length shape.part.faces → IsBoxWithin 22000000 (core_box shape f)
core_within shape rules f inside =
    let small = small_numbers shape rules in
    let q : pos 0 ≤ℤ shape.q = omega (arith, ints, small.thick, small.deep) in
    let sizes = sizes_of shape.part rules.part f inside in
    let west = lost_bounds (is_bent shape.part.faces f W) shape.q q in
    let east = lost_bounds (is_bent shape.part.faces f E) shape.q q in
    let south = lost_bounds (is_bent shape.part.faces f S) shape.q q in
    let north = lost_bounds (is_bent shape.part.faces f N) shape.q q in
    record {
      lo = record { x = omega (arith, ints, west.0, west.1, small.shallow); y = omega (arith, ints, south.0, south.1, small.shallow); z = omega (arith, ints, small.thick, small.thin) };
      hi = record { x = omega (arith, ints, east.0, east.1, small.shallow, sizes.wide.bottom, sizes.wide.top); y = omega (arith, ints, north.0, north.1, small.shallow, sizes.long.bottom, sizes.long.top); z = omega (arith, ints, small.thick, small.thin) };
    }

raised_within : (dir : Dir) (v : V3) (n : ℤ) (m : ℕ) → IsWithin m v → IsNear 100000 n → IsWithin (m + 100000) (plus v (times (fold_sign dir *ℤ n) z_axis))
raised_within Up v n m near low = record { x = omega (arith, ints, near.x); y = omega (arith, ints, near.y); z = omega (arith, ints, near.z, low.low, low.high) }
raised_within Down v n m near low = record { x = omega (arith, ints, near.x); y = omega (arith, ints, near.y); z = omega (arith, ints, near.z, low.low, low.high) }

out_within : (side : Side) (v : V3) (q : ℤ) (m : ℕ) → IsWithin m v → IsNear 100000 q → IsWithin (m + 100000) (plus v (times q (outward side)))
out_within N v q m near low = record { x = omega (arith, ints, near.x); y = omega (arith, ints, near.y, low.low, low.high); z = omega (arith, ints, near.z) }
out_within E v q m near low = record { x = omega (arith, ints, near.x, low.low, low.high); y = omega (arith, ints, near.y); z = omega (arith, ints, near.z) }
out_within S v q m near low = record { x = omega (arith, ints, near.x); y = omega (arith, ints, near.y, low.low, low.high); z = omega (arith, ints, near.z) }
out_within W v q m near low = record { x = omega (arith, ints, near.x, low.low, low.high); y = omega (arith, ints, near.y); z = omega (arith, ints, near.z) }

pub column_within : (shape : ShapeData) → IsShape shape → (b : ℕ) → 0 < b → b < length shape.part.faces → IsBoxWithin 22000000 (corner_column shape b)
column_within shape rules b some inside =
    let small = small_numbers shape rules in
    let joint = joint_of shape.part.faces b in
    let parent = parent_inside shape rules b some inside in
    let ends = line_ends_near shape rules b some inside in
    let q : IsNear 100000 shape.q = record { low = omega (arith, ints, small.thick, small.deep); high = small.shallow } in
    let depth : IsNear 200000 shape.q = record { low = omega (arith, ints, q.low); high = omega (arith, ints, q.high) } in
    let tau : IsNear 100000 (neg_ℤ (half_thickness shape.part)) = record { low = omega (arith, ints, small.thin); high = omega (arith, ints, small.thick) } in
    let mould : IsNear 100000 (mould_distance shape) = record { low = omega (arith, ints, small.deep); high = omega (arith, ints, small.thick, small.shallow) } in
    let first = side_point_within joint.side (face_at shape.part.faces joint.on) (line_begin shape b) shape.q parent.1 ends.0 depth in
    let last = side_point_within joint.side (face_at shape.part.faces joint.on) (line_finish shape b) shape.q parent.1 ends.1 depth in
    let lo = within_more 21100000 22000000 _ (omega arith) (raised_within joint.dir _ (neg_ℤ (half_thickness shape.part)) 21000000 first tau) in
    let hi = within_more 21200000 22000000 _ (omega arith) (raised_within joint.dir _ (mould_distance shape) 21100000 (out_within joint.side _ shape.q 21000000 last q) mould) in
    record { lo = least_within 22000000 _ _ lo hi; hi = greatest_within 22000000 _ _ lo hi }

-- ---- the places
stood_within : (dir : Dir) (v : V3) (tau : ℤ) → IsWithin 21000000 v → IsNear 100000 tau → IsWithin 22000000 (plus v (times (neg_ℤ (fold_sign dir)) (times tau z_axis)))
stood_within Up v tau near low = record { x = omega (arith, ints, near.x); y = omega (arith, ints, near.y); z = omega (arith, ints, near.z, low.low, low.high) }
stood_within Down v tau near low = record { x = omega (arith, ints, near.x); y = omega (arith, ints, near.y); z = omega (arith, ints, near.z, low.low, low.high) }

step_within : (shape : ShapeData) → IsShape shape → (b : ℕ) → 0 < b → b < length shape.part.faces → (t : Bool)
    → IsWithin 22000000 (cond t (design_step shape.part.faces (half_thickness shape.part) b) (flat_step shape.part.faces shape.q b)).shift
step_within shape rules b some inside = by_test
  where
    by_test : (t : Bool) → IsWithin 22000000 (cond t (design_step shape.part.faces (half_thickness shape.part) b) (flat_step shape.part.faces shape.q b)).shift
    by_test true =
        let small = small_numbers shape rules in
        let joint = joint_of shape.part.faces b in
        let at = (begin_within shape.part b joint rules.part inside (rules_of_joint shape.part rules.part b some inside)).0 in
        let tau : IsNear 100000 (half_thickness shape.part) = record { low = omega (arith, ints, small.thick); high = omega (arith, ints, small.thin) } in
        stood_within joint.dir _ (half_thickness shape.part)
        (side_point_within joint.side (face_at shape.part.faces joint.on) joint.at (half_thickness shape.part) (parent_inside shape rules b some inside).1
        (record { low = omega (arith, ints, at.low); high = omega (arith, ints, at.high) }) (record { low = omega (arith, ints, tau.low); high = omega (arith, ints, tau.high) })) tau
    by_test false =
        let small = small_numbers shape rules in
        let joint = joint_of shape.part.faces b in
        let at = (begin_within shape.part b joint rules.part inside (rules_of_joint shape.part rules.part b some inside)).0 in
        within_more 21000000 22000000 _ (omega arith)
        (side_point_within joint.side (face_at shape.part.faces joint.on) joint.at (pos 2 *ℤ shape.q) (parent_inside shape rules b some inside).1
        (record { low = omega (arith, ints, at.low); high = omega (arith, ints, at.high) }) (record { low = omega (arith, ints, small.thick, small.deep); high = omega (arith, ints, small.shallow) }))

within_up_to : (shape : ShapeData) → IsShape shape → (mask : Mask) (n f : ℕ) → f ≤ n → f < length shape.part.faces → IsWithin (f * 22000000) (place_of shape mask f).shift
within_up_to shape rules mask n zero few inside =
    subst (λ (m : Map). IsWithin 0 m.shift) (sym (place-root shape.part.faces shape.q (mould_distance shape) (has mask))) (record { x = omega (arith, ints); y = omega (arith, ints); z = omega (arith, ints) })
within_up_to shape rules mask zero (suc b) few inside = absurd (omega arith)
within_up_to shape rules mask (suc n) (suc b) few inside =
    let on = (joint_of shape.part.faces (suc b)).on in
    let earlier : on < suc b = (joint_of_part shape.part rules.part).on (suc b) (omega arith) inside in
    let before = place_of shape mask on in
    let step = cond (has mask (suc b)) (design_step shape.part.faces (half_thickness shape.part) (suc b)) (flat_step shape.part.faces shape.q (suc b)) in
    let turn = numbered_is_turn before.turn (numbered_place shape rules mask on (omega (arith, earlier))) in
    let both : IsWithin (on * 22000000 + 22000000) (mapped before step.shift) = mapped_within (on * 22000000) 22000000 before step.shift turn (within_up_to shape rules mask n on (omega (arith, earlier)) (omega (arith, earlier))) (step_within shape rules (suc b) (omega arith) inside (has mask (suc b))) in
    subst (λ (m : Map). IsWithin (suc b * 22000000) m.shift) (sym (place-bend shape.part rules.part shape.q (half_thickness shape.part) (cores_of_shape shape rules) (has mask) (suc b) (omega arith) inside))
    (subst (IsWithin (suc b * 22000000)) (sym (after-shift before step)) (within_more (on * 22000000 + 22000000) (suc b * 22000000) _ (omega (arith, earlier)) both))

-- a face has at most as many bends on its way to the root as its number
pub place_within : (shape : ShapeData) → IsShape shape → (mask : Mask) (f : ℕ) → f < length shape.part.faces → IsWithin (f * 22000000) (place_of shape mask f).shift
place_within shape rules mask f inside = within_up_to shape rules mask f f (omega arith) inside

-- ---- the boxes
pub face_box_within : (shape : ShapeData) → IsShape shape → (mask : Mask) (f : ℕ) → f < length shape.part.faces → IsBoxWithin 300000000 (face_box shape mask f).body
face_box_within shape rules mask f inside =
    let place = place_of shape mask f in
    let turn = numbered_is_turn place.turn (numbered_place shape rules mask f inside) in
    box_within_more (f * 22000000 + 22000000) 300000000 _ (omega (arith, inside, rules.part.few_faces)) (image_within (f * 22000000) 22000000 place (core_box shape f) turn (place_within shape rules mask f inside) (core_within shape rules f inside))

pub corner_box_within : (shape : ShapeData) → IsShape shape → (mask : Mask) (b : ℕ) → 0 < b → b < length shape.part.faces → IsBoxWithin 300000000 (corner_box shape mask b).body
corner_box_within shape rules mask b some inside =
    let on = (joint_of shape.part.faces b).on in
    let earlier = (parent_inside shape rules b some inside).0 in
    let within : on < length shape.part.faces = omega (arith, earlier, inside) in
    let place = place_of shape mask on in
    let turn = numbered_is_turn place.turn (numbered_place shape rules mask on within) in
    box_within_more (on * 22000000 + 22000000) 300000000 _ (omega (arith, within, rules.part.few_faces)) (image_within (on * 22000000) 22000000 place (corner_column shape b) turn (place_within shape rules mask on within) (column_within shape rules b some inside))
