-- Each box of a pose has an interior, and lies near.
use Rattle.std.proofs.Common.{ℕ, zero, suc, ◌+◌, ◌*◌, ◌-◌, ◌<◌, ◌≤◌, ℤ, pos, ◌+ℤ◌, ◌-ℤ◌, ◌*ℤ◌, ◌≤ℤ◌, Bool, true, false, cond, List, [], ◌∷◌, map, filter, unsigned_abs, IsTrue, length, sym, subst, arith}
use Rattle.std.specs.Prelude.{All, fold}
use Rattle.std.specs.Int.{int_min, int_max}
use Rattle.std.specs.List.{range_with_len}
use Rattle.std.proofs.lemmas.Int.{ints, clamps}
use Rattle.std.proofs.lemmas.List.Elements.{All-nil, All-cons, All-head, All-tail, All-append, All-map}
use Rattle.brake_base.specs.declared.space.V3.{V3}
use Rattle.brake_base.specs.declared.space.Box3.{Box3}
use Rattle.brake_base.specs.declared.mask.Mask.{Mask}
use Rattle.brake_base.specs.declared.stroke.Back.{Back}
use Rattle.brake_base.specs.declared.stroke.Back.TheVariants.{Parent, Child}
use Rattle.brake_base.specs.Vectors.{IsWithin, IsBelow, origin}
use Rattle.brake_base.specs.Turns.{Matrix, IsTurn, transpose, apply, mapped}
use Rattle.brake_base.specs.Boxes.{IsBoxWithin}
use Rattle.brake_base.specs.Masks.{has}
use Rattle.brake_base.proofs.Maps.{mapped-origin}
use Rattle.brake_base.proofs.Images.{axis}
use Rattle.part_file.specs.declared.part.Side.{Side}
use Rattle.part_file.specs.declared.part.Side.TheVariants.{N, E, S, W}
use Rattle.part_file.specs.declared.part.Dir.{Dir}
use Rattle.part_file.specs.declared.part.Dir.TheVariants.{Up, Down}
use Rattle.part_file.specs.Part.{FaceData, HasSizes, face_at, half_thickness, start, along, outward}
use Rattle.unfolder.specs.Near.{IsWithin as IsNear}
use Rattle.unfolder.specs.Cores.{joint_of, side_point}
use Rattle.unfolder.specs.Blank.{face_numbers, bend_numbers}
use Rattle.unfolder.specs.Design.{fold_sign}
use Rattle.unfolder.specs.Extent.{least, greatest}
use Rattle.unfolder.specs.Fold.{dot, minus}
use Rattle.fold_boxes.specs.Shapes.{ShapeData, IsShape}
use Rattle.fold_boxes.specs.Folded.{face_box, corner_box}
use Rattle.fold_boxes.specs.Groups.{line_from, line_to, span}
use Rattle.fold_boxes.specs.Pose.{IsGroup, lead_of, back_sign, start_of_span, parent_place, posed, posed_frame, pose_map, part_body, pose_box, box_ids, pose_of}
use Rattle.fold_boxes.specs.Posing.{IsNearShift, IsNearPoseBox, IsSolidPoseBox}
use Rattle.algebra.proofs.Halves.{floor_half}
use Rattle.fold_boxes.proofs.Leads.{lead_is}
use Rattle.fold_boxes.proofs.Numbered.{numbered_is_turn, numbered_product, numbered_transpose, numbered_frame, transpose_first}
use Rattle.fold_boxes.proofs.PoseEffect.{numbered_place, mapped_posed, shift_is, pose_effect}
use Rattle.fold_boxes.proofs.PoseLists.{body_at_face, body_at_corner}
use Rattle.fold_boxes.proofs.Spans.{along_from_start}
use Rattle.fold_boxes.proofs.Turning.{row_within, near_image}
use Rattle.fold_boxes.proofs.PartBounds.{small_numbers, line_begin, line_finish, line_ends_near, parent_inside, place_within, face_box_within, corner_box_within}
use Rattle.fold_boxes.proofs.SolidBoxes.{image_solid, face_box_solid, corner_box_solid}

-- ---- the span of a group
all_picked : {X : Type 0} (P : X → Type 0) (g : ℕ → X) (p : ℕ → Bool) (a n : ℕ) → ((k : ℕ) → a ≤ k → k < a + n → P (g k)) → All P (map g (filter p (range_with_len a n)))
all_picked P g p a zero each = All-nil P
all_picked P g p a (suc n) each = by_test (p a) (each a (omega arith) (omega arith)) (all_picked P g p (a + 1) n (λ k low high. each k (omega arith) (omega arith)))
  where
    by_test : (t : Bool) → P (g a) → All P (map g (filter p (range_with_len (a + 1) n))) → All P (map g (cond t (a ∷ filter p (range_with_len (a + 1) n)) (filter p (range_with_len (a + 1) n))))
    by_test true here rest = All-cons P (g a) (map g (filter p (range_with_len (a + 1) n))) here rest
    by_test false here rest = rest

all_numbers : (P : ℕ → Type 0) (a n : ℕ) → ((k : ℕ) → a ≤ k → k < a + n → P k) → All P (range_with_len a n)
all_numbers P a zero each = All-nil P
all_numbers P a (suc n) each = All-cons P a (range_with_len (a + 1) n) (each a (omega arith) (omega arith)) (all_numbers P (a + 1) n (λ k low high. each k (omega arith) (omega arith)))

least_from : (m : ℕ) (a : ℤ) (ns : List ℤ) → IsNear m a → All (IsNear m) ns → IsNear m (fold int_min a ns)
least_from m a [] near all = near
least_from m a (n ∷ ns) near all =
    let one = All-head (IsNear m) n ns all in
    least_from m (int_min a n) ns (record { low = omega (arith, ints, clamps, near.low, one.low); high = omega (arith, ints, clamps, near.high) }) (All-tail (IsNear m) n ns all)

greatest_from : (m : ℕ) (a : ℤ) (ns : List ℤ) → IsNear m a → All (IsNear m) ns → IsNear m (fold int_max a ns)
greatest_from m a [] near all = near
greatest_from m a (n ∷ ns) near all =
    let one = All-head (IsNear m) n ns all in
    greatest_from m (int_max a n) ns (record { low = omega (arith, ints, clamps, near.low); high = omega (arith, ints, clamps, near.high, one.high) }) (All-tail (IsNear m) n ns all)

least_near : (m : ℕ) (ns : List ℤ) → All (IsNear m) ns → IsNear m (least ns)
least_near m [] all = record { low = omega (arith, ints); high = omega (arith, ints) }
least_near m (n ∷ ns) all = least_from m n ns (All-head (IsNear m) n ns all) (All-tail (IsNear m) n ns all)

greatest_near : (m : ℕ) (ns : List ℤ) → All (IsNear m) ns → IsNear m (greatest ns)
greatest_near m [] all = record { low = omega (arith, ints); high = omega (arith, ints) }
greatest_near m (n ∷ ns) all = greatest_from m n ns (All-head (IsNear m) n ns all) (All-tail (IsNear m) n ns all)

span_near : (shape : ShapeData) → IsShape shape → (set : ℕ → Bool) → IsNear 10200000 (span shape set).0 × IsNear 10200000 (span shape set).1
span_near shape rules set =
    let n = length shape.part.faces - 1 in (
      least_near 10200000 _ (all_picked (IsNear 10200000) (line_from shape) set 1 n begins),
      greatest_near 10200000 _ (all_picked (IsNear 10200000) (line_to shape) set 1 n finishes),
    )
  where
    begins : (b : ℕ) → 1 ≤ b → b < 1 + (length shape.part.faces - 1) → IsNear 10200000 (line_from shape b)
    begins b some inside =
        let joint = joint_of shape.part.faces b in
        subst (IsNear 10200000) (sym (along_from_start joint.side (face_at shape.part.faces joint.on) (line_begin shape b) shape.q)) (line_ends_near shape rules b (omega arith) (omega arith)).0

    finishes : (b : ℕ) → 1 ≤ b → b < 1 + (length shape.part.faces - 1) → IsNear 10200000 (line_to shape b)
    finishes b some inside =
        let joint = joint_of shape.part.faces b in
        subst (IsNear 10200000) (sym (along_from_start joint.side (face_at shape.part.faces joint.on) (line_finish shape b) shape.q)) (line_ends_near shape rules b (omega arith) (omega arith)).1

-- ---- the map
start_near : (lines : ℤ × ℤ) (x0 x1 : ℤ) → IsNear 10200000 lines.0 → IsNear 10200000 lines.1 → IsNear 1000000000 x0 → IsNear 1000000000 x1 → IsNear 1100000000 (start_of_span lines x0 x1)
start_near lines x0 x1 left right from to =
    let half = floor_half ((x1 -ℤ x0) -ℤ (lines.1 -ℤ lines.0)) in
    record {
      low = omega (arith, ints, half.0, half.1, from.low, from.high, to.low, to.high, left.low, left.high, right.low, right.high);
      high = omega (arith, ints, half.0, half.1, from.low, from.high, to.low, to.high, left.low, left.high, right.low, right.high);
    }

-- how far the face's own origin lies along a side from its start, and inside it
origin_along : (side : Side) (face : FaceData) → HasSizes face → IsNear 10200000 (dot (minus origin (start side face)) (along side))
origin_along N face sizes = record { low = omega (arith, ints, sizes.wide.bottom, sizes.wide.top); high = omega (arith, ints, sizes.wide.bottom, sizes.wide.top) }
origin_along E face sizes = record { low = omega (arith, ints, sizes.long.bottom, sizes.long.top); high = omega (arith, ints, sizes.long.bottom, sizes.long.top) }
origin_along S face sizes = record { low = omega (arith, ints, sizes.wide.bottom, sizes.wide.top); high = omega (arith, ints, sizes.wide.bottom, sizes.wide.top) }
origin_along W face sizes = record { low = omega (arith, ints, sizes.wide.bottom, sizes.wide.top); high = omega (arith, ints, sizes.wide.bottom, sizes.wide.top) }

origin_across : (side : Side) (face : FaceData) (at q : ℤ) → HasSizes face → IsNear 200000 q → IsNear 10200000 (dot (minus origin (side_point side face at q)) (outward side))
origin_across N face at q sizes deep = record { low = omega (arith, ints, sizes.long.bottom, sizes.long.top, deep.low, deep.high); high = omega (arith, ints, sizes.long.bottom, sizes.long.top, deep.low, deep.high) }
origin_across E face at q sizes deep = record { low = omega (arith, ints, sizes.wide.bottom, sizes.wide.top, deep.low, deep.high); high = omega (arith, ints, sizes.wide.bottom, sizes.wide.top, deep.low, deep.high) }
origin_across S face at q sizes deep = record { low = omega (arith, ints, deep.low, deep.high); high = omega (arith, ints, deep.low, deep.high) }
origin_across W face at q sizes deep = record { low = omega (arith, ints, deep.low, deep.high); high = omega (arith, ints, deep.low, deep.high) }

-- the frame's origin in a pose, from its distances
posed_x : (dir : Dir) (back : Back) (begin along : ℤ) (lines : ℤ × ℤ) → IsNear 1100000000 begin → IsNear 10200000 along → IsNear 10200000 lines.0 → IsNear 10200000 lines.1
    → let k = back_sign back *ℤ fold_sign dir in unsigned_abs (begin +ℤ (k *ℤ along -ℤ int_min (k *ℤ lines.0) (k *ℤ lines.1))) ≤ 1200000000
posed_x Up Child begin along lines b a l m = omega (arith, ints, clamps, b.low, b.high, a.low, a.high, l.low, l.high, m.low, m.high)
posed_x Up Parent begin along lines b a l m = omega (arith, ints, clamps, b.low, b.high, a.low, a.high, l.low, l.high, m.low, m.high)
posed_x Down Child begin along lines b a l m = omega (arith, ints, clamps, b.low, b.high, a.low, a.high, l.low, l.high, m.low, m.high)
posed_x Down Parent begin along lines b a l m = omega (arith, ints, clamps, b.low, b.high, a.low, a.high, l.low, l.high, m.low, m.high)

posed_y : (back : Back) (across : ℤ) → IsNear 10200000 across → unsigned_abs (back_sign back *ℤ across) ≤ 10200000
posed_y Child across near = omega (arith, ints, near.low, near.high)
posed_y Parent across near = omega (arith, ints, near.low, near.high)

posed_z : (dir : Dir) (tau : ℤ) → pos 1 ≤ℤ tau → tau ≤ℤ pos 25000 → unsigned_abs (fold_sign dir *ℤ pos 0 -ℤ tau) ≤ 25000
posed_z Up tau low high = omega (arith, ints, low, high)
posed_z Down tau low high = omega (arith, ints, low, high)

-- where a pose has the origin of the frame of the lead's parent
pub record IsNearPosed (v : V3) : Type 0 where
  pub x : unsigned_abs v.x ≤ 1200000000
  pub y : unsigned_abs v.y ≤ 10200000
  pub z : unsigned_abs v.z ≤ 25000

posed_near : (shape : ShapeData) → IsShape shape → (group : Mask) → IsTrue (has group (lead_of shape group)) → (back : Back) (x0 x1 : ℤ) → IsNear 1000000000 x0 → IsNear 1000000000 x1 → IsNearPosed (posed shape group back x0 x1 origin)
posed_near shape rules group member back x0 x1 from to =
    let b = lead_of shape group in
    let lead = lead_is shape group member in
    let joint = joint_of shape.part.faces b in
    let face = face_at shape.part.faces joint.on in
    let parent = parent_inside shape rules b lead.some lead.inside in
    let small = small_numbers shape rules in
    let lines = span_near shape rules (has group) in
    let depth : IsNear 200000 shape.q = record { low = omega (arith, ints, small.thick, small.deep); high = omega (arith, ints, small.shallow) } in
    record {
      x = posed_x joint.dir back _ _ (span shape (has group)) (start_near (span shape (has group)) x0 x1 lines.0 lines.1 from to) (origin_along joint.side face parent.1) lines.0 lines.1;
      y = posed_y back _ (origin_across joint.side face (line_begin shape b) shape.q parent.1 depth);
      z = posed_z joint.dir (half_thickness shape.part) small.thick small.thin;
    }

less_near : (m : ℕ) (u v : V3) → m ≤ 252000000 → IsNearPosed u → IsWithin m v → IsNearShift (minus u v)
less_near m u v few near within = record { x = omega (arith, ints, near.x, within.x); y = omega (arith, ints, near.y, within.y); z = omega (arith, ints, near.z, within.z) }

turned_within : (m : ℕ) (t : Matrix) (v : V3) → IsTurn t → IsWithin m v → IsWithin m (apply t v)
unfolding apply
turned_within m t v turn within = record {
  x = row_within t.x.x t.y.x t.z.x m v (axis t.x.x t.y.x t.z.x turn.x_row) within;
  y = row_within t.x.y t.y.y t.z.y m v (axis t.x.y t.y.y t.z.y turn.y_row) within;
  z = row_within t.x.z t.y.z t.z.z m v (axis t.x.z t.y.z t.z.z turn.z_row) within;
}

shift_near : (shape : ShapeData) → IsShape shape → (mask group : Mask) → IsTrue (has group (lead_of shape group)) → (back : Back) (x0 x1 : ℤ) → IsNear 1000000000 x0 → IsNear 1000000000 x1 → IsNearShift (pose_map shape mask group back x0 x1).shift
unfolding pose_map
shift_near shape rules mask group member back x0 x1 from to =
    let b = lead_of shape group in
    let lead = lead_is shape group member in
    let joint = joint_of shape.part.faces b in
    let earlier = (parent_inside shape rules b lead.some lead.inside).0 in
    let inside : joint.on < length shape.part.faces = omega (arith, earlier, lead.inside) in
    let place = parent_place shape mask b in
    let numbered = numbered_place shape rules mask joint.on inside in
    let frame = posed_frame shape group back x0 x1 in
    let turn = numbered_is_turn _ (numbered_product frame.turn (transpose place.turn) (numbered_frame joint.side joint.dir back) (numbered_transpose place.turn numbered)) in
    let near : IsWithin (joint.on * 22000000) (mapped place origin) = subst (IsWithin (joint.on * 22000000)) (sym (mapped-origin place)) (place_within shape rules mask joint.on inside) in
    let there : IsNearPosed (mapped frame origin) = subst IsNearPosed (sym (mapped_posed shape group back x0 x1 origin)) (posed_near shape rules group member back x0 x1 from to) in
    let few : joint.on * 22000000 ≤ 252000000 = omega (arith, earlier, lead.inside, rules.part.few_faces) in
    subst IsNearShift (sym (shift_is frame place (transpose_first place.turn numbered) origin)) (less_near (joint.on * 22000000) _ _ few there (turned_within (joint.on * 22000000) _ _ turn near))

-- ---- the boxes
-- what a number of a box says of its body
each_box : (shape : ShapeData) → IsShape shape → (mask : Mask) (P : Box3 → Type 0)
    → ((f : ℕ) → f < length shape.part.faces → P (face_box shape mask f).body) → ((b : ℕ) → 0 < b → b < length shape.part.faces → P (corner_box shape mask b).body)
    → All (λ id. P (part_body shape mask id)) (box_ids shape mask)
each_box shape rules mask P faces corners =
    All-append (λ id. P (part_body shape mask id)) (face_numbers shape.part.faces) (map (λ b. 12 + b) (filter (has mask) (bend_numbers shape.part.faces)))
    (all_numbers (λ id. P (part_body shape mask id)) 0 (length shape.part.faces) at_face)
    (all_picked (λ id. P (part_body shape mask id)) (λ b. 12 + b) (has mask) 1 (length shape.part.faces - 1) at_corner)
  where
    at_face : (f : ℕ) → 0 ≤ f → f < 0 + length shape.part.faces → P (part_body shape mask f)
    at_face f low inside = let few = rules.part.few_faces in subst P (sym (body_at_face shape mask f (omega (arith, inside, few)))) (faces f (omega (arith, inside)))

    at_corner : (b : ℕ) → 1 ≤ b → b < 1 + (length shape.part.faces - 1) → P (part_body shape mask (12 + b))
    at_corner b some inside = subst P (sym (body_at_corner shape mask b (omega (arith, some)))) (corners b (omega (arith, some)) (omega (arith, some, inside)))

-- each box of a pose lies near
pub pose_boxes_near : (shape : ShapeData) → IsShape shape → (mask group : Mask) → IsGroup shape mask group → (back : Back) (x0 x1 : ℤ) → IsNear 1000000000 x0 → IsNear 1000000000 x1 → All IsNearPoseBox (pose_of shape mask group back x0 x1).boxes
pose_boxes_near shape rules mask group is_group back x0 x1 from to =
    let m = pose_map shape mask group back x0 x1 in
    let effect = pose_effect shape rules mask group is_group back x0 x1 in
    let shift = shift_near shape rules mask group is_group.some back x0 x1 from to in
    let within = each_box shape rules mask (IsBoxWithin 300000000) (face_box_within shape rules mask) (corner_box_within shape rules mask) in
    All-map IsNearPoseBox (pose_box shape mask group back x0 x1) (box_ids shape mask) (λ k d inside.
    let corners = near_image m _ effect.turn shift (within k d inside) in
    record { lo = corners.0; hi = corners.1 })

-- each box of a pose has an interior
pub pose_boxes_solid : (shape : ShapeData) → IsShape shape → (mask group : Mask) → IsGroup shape mask group → (back : Back) (x0 x1 : ℤ) → All IsSolidPoseBox (pose_of shape mask group back x0 x1).boxes
pose_boxes_solid shape rules mask group is_group back x0 x1 =
    let m = pose_map shape mask group back x0 x1 in
    let effect = pose_effect shape rules mask group is_group back x0 x1 in
    let solid = each_box shape rules mask (λ (b : Box3). IsBelow b.lo b.hi) (face_box_solid shape rules mask) (corner_box_solid shape rules mask) in
    All-map IsSolidPoseBox (pose_box shape mask group back x0 x1) (box_ids shape mask) (λ k d inside. image_solid m _ effect.turn (solid k d inside))
