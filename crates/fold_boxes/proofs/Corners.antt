-- The corner of a folded bend touches both cores that the bend joins.
use Rattle.std.proofs.Common.{◌≡◌, ℕ, ◌<◌, ℤ, pos, neg_ℤ, ◌+ℤ◌, ◌-ℤ◌, ◌*ℤ◌, ◌≤ℤ◌, Bool, true, false, cond, List, length, get_or, Result, Ok, Err, IsOk, refl, sym, ◌∙◌, ap, subst, arith}
use Rattle.std.specs.Prelude.{IsTrue}
use Rattle.std.specs.Int.{int_min, int_max}
use Rattle.std.proofs.lemmas.Int.{ints, clamps}
use Rattle.brake_base.specs.declared.space.V3.{V3}
use Rattle.brake_base.specs.declared.space.Box3.{Box3}
use Rattle.brake_base.specs.declared.space.Place.{Place}
use Rattle.brake_base.specs.declared.mask.Mask.{Mask}
use Rattle.brake_base.specs.Vectors.{vector, plus, times}
use Rattle.brake_base.specs.Turns.{Map, turn_of, mapped, after}
use Rattle.brake_base.specs.Boxes.{IsIn, IsBox, box_of, image}
use Rattle.brake_base.specs.Masks.{has}
use Rattle.brake_base.proofs.Maps.{mapped-after}
use Rattle.brake_base.proofs.Images.{image_points}
use Rattle.part_file.specs.declared.part.Side.{Side}
use Rattle.part_file.specs.declared.part.Side.TheVariants.{N, E, S, W}
use Rattle.part_file.specs.declared.part.Dir.{Dir}
use Rattle.part_file.specs.declared.part.Dir.TheVariants.{Up, Down}
use Rattle.part_file.specs.Part.{FaceData, face_at, half_thickness, start, along, outward, is_bent}
use Rattle.unfolder.specs.declared.blank.UnfoldFault.{UnfoldFault}
use Rattle.unfolder.specs.Cores.{joint_of, z_axis, side_point, if_bent, core, line_start, is_off_face}
use Rattle.unfolder.specs.Blank.{BlankData, blank_of_part, flat_step}
use Rattle.unfolder.specs.Design.{fold_sign, design_step}
use Rattle.unfolder.proofs.HingeLaws.{in_frame}
use Rattle.unfolder.proofs.FlatMaps.{side_level}
use Rattle.unfolder.proofs.FoldLaws.{design_point, core_is_wide, core_is_long}
use Rattle.unfolder.proofs.PlaceLaws.{place-bend}
use Rattle.unfolder.proofs.Unfolded.{lines_of_blank}
use Rattle.unfolder.proofs.ChainLemmas.{joint_of_part}
use Rattle.unfolder.proofs.Abutting.{start_held, bent_edge, bent_at_own}
use Rattle.fold_boxes.specs.Shapes.{ShapeData, IsShape, mould_distance}
use Rattle.fold_boxes.specs.Folded.{place_of, core_box, corner_column, face_box}
use Rattle.fold_boxes.specs.Corners.{CornersTouch}
use Rattle.fold_boxes.specs.Places.{IsPlaceOf, ArePlaces}
use Rattle.fold_boxes.proofs.Columns.{half_bounds}
use Rattle.fold_boxes.proofs.Folding.{cores_of_shape}

-- ---- two points of a column over a line
-- p lies between two corners in the plane
record IsOver (a b p : V3) : Type 0 where
  x_low : int_min a.x b.x ≤ℤ p.x
  x_high : p.x ≤ℤ int_max a.x b.x
  y_low : int_min a.y b.y ≤ℤ p.y
  y_high : p.y ≤ℤ int_max a.y b.y

abbrev corner_point : Side → FaceData → ℤ → ℤ → ℤ → V3
corner_point side face to q k = plus (plus (side_point side face to q) (times q (outward side))) (times k z_axis)

-- the start of the line
start_over : (side : Side) (face : FaceData) (from to q j k : ℤ) → IsOver (plus (side_point side face from q) (times j z_axis)) (corner_point side face to q k) (side_point side face from q)
start_over N face from to q j k = record { x_low = omega (arith, ints, clamps); x_high = omega (arith, ints, clamps); y_low = omega (arith, ints, clamps); y_high = omega (arith, ints, clamps) }
start_over E face from to q j k = record { x_low = omega (arith, ints, clamps); x_high = omega (arith, ints, clamps); y_low = omega (arith, ints, clamps); y_high = omega (arith, ints, clamps) }
start_over S face from to q j k = record { x_low = omega (arith, ints, clamps); x_high = omega (arith, ints, clamps); y_low = omega (arith, ints, clamps); y_high = omega (arith, ints, clamps) }
start_over W face from to q j k = record { x_low = omega (arith, ints, clamps); x_high = omega (arith, ints, clamps); y_low = omega (arith, ints, clamps); y_high = omega (arith, ints, clamps) }

-- a point tau inside the outside edge, at the line's start
edge_over : (side : Side) (face : FaceData) (from to q tau j k w : ℤ) → pos 0 ≤ℤ tau → tau ≤ℤ q → IsOver (plus (side_point side face from q) (times j z_axis)) (corner_point side face to q k) (in_frame (start side face) from (along side) (neg_ℤ tau) (outward side) w)
edge_over N face from to q tau j k w low high = record { x_low = omega (arith, ints, clamps); x_high = omega (arith, ints, clamps); y_low = omega (arith, ints, clamps); y_high = omega (arith, ints, clamps) }
edge_over E face from to q tau j k w low high = record { x_low = omega (arith, ints, clamps); x_high = omega (arith, ints, clamps); y_low = omega (arith, ints, clamps); y_high = omega (arith, ints, clamps) }
edge_over S face from to q tau j k w low high = record { x_low = omega (arith, ints, clamps); x_high = omega (arith, ints, clamps); y_low = omega (arith, ints, clamps); y_high = omega (arith, ints, clamps) }
edge_over W face from to q tau j k w low high = record { x_low = omega (arith, ints, clamps); x_high = omega (arith, ints, clamps); y_low = omega (arith, ints, clamps); y_high = omega (arith, ints, clamps) }

-- from the one side of the mid-plane to the other
start_height : (dir : Dir) (q tau : ℤ) → pos 0 ≤ℤ tau → tau ≤ℤ q → (int_min (fold_sign dir *ℤ neg_ℤ tau) (fold_sign dir *ℤ (q -ℤ tau)) ≤ℤ pos 0) × (pos 0 ≤ℤ int_max (fold_sign dir *ℤ neg_ℤ tau) (fold_sign dir *ℤ (q -ℤ tau)))
start_height Up q tau low high = (omega (arith, ints, clamps), omega (arith, ints, clamps))
start_height Down q tau low high = (omega (arith, ints, clamps), omega (arith, ints, clamps))

edge_height : (dir : Dir) (q tau : ℤ) → pos 0 ≤ℤ tau → tau ≤ℤ q → let w = fold_sign dir *ℤ q -ℤ fold_sign dir *ℤ tau in (int_min (fold_sign dir *ℤ neg_ℤ tau) (fold_sign dir *ℤ (q -ℤ tau)) ≤ℤ w) × (w ≤ℤ int_max (fold_sign dir *ℤ neg_ℤ tau) (fold_sign dir *ℤ (q -ℤ tau)))
edge_height Up q tau low high = (omega (arith, ints, clamps), omega (arith, ints, clamps))
edge_height Down q tau low high = (omega (arith, ints, clamps), omega (arith, ints, clamps))

-- a point over the plane between two heights
lifted : (a b p : V3) (j k : ℤ) → a.z ≡ pos 0 → b.z ≡ pos 0 → IsOver (plus a (times j z_axis)) (plus b (times k z_axis)) p → (int_min j k ≤ℤ p.z) × (p.z ≤ℤ int_max j k) → IsIn (box_of (plus a (times j z_axis)) (plus b (times k z_axis))) p
lifted a b p j k level other over between = record {
  x_low = over.x_low;
  x_high = over.x_high;
  y_low = over.y_low;
  y_high = over.y_high;
  z_low = omega (arith, ints, clamps, between.0);
  z_high = omega (arith, ints, clamps, between.1);
}

out_level : (side : Side) (face : FaceData) (to q : ℤ) → (plus (side_point side face to q) (times q (outward side))).z ≡ pos 0
out_level N face to q = omega (arith, ints)
out_level E face to q = omega (arith, ints)
out_level S face to q = omega (arith, ints)
out_level W face to q = omega (arith, ints)

edge_level : (side : Side) (face : FaceData) (from n w : ℤ) → (in_frame (start side face) from (along side) n (outward side) w).z ≡ w
edge_level N face from n w = omega (arith, ints)
edge_level E face from n w = omega (arith, ints)
edge_level S face from n w = omega (arith, ints)
edge_level W face from n w = omega (arith, ints)

-- ---- of a shape
abbrev edge_point : ShapeData → ℕ → V3
edge_point shape b =
    let joint = joint_of shape.part.faces b in
    let tau = half_thickness shape.part in
    in_frame (start joint.side (face_at shape.part.faces joint.on)) (joint.at +ℤ if_bent (is_bent shape.part.faces b W) shape.q) (along joint.side) (neg_ℤ tau) (outward joint.side) (fold_sign joint.dir *ℤ shape.q -ℤ fold_sign joint.dir *ℤ tau)

tau_low : (shape : ShapeData) → IsShape shape → pos 0 ≤ℤ half_thickness shape.part
tau_low shape rules = let half = half_bounds shape.part.thickness rules.part.sheet.thickness.range.bottom rules.part.sheet.thickness.range.top in omega (arith, ints, half.0)

column_has_start : (shape : ShapeData) → IsShape shape → (b : ℕ) → IsIn (corner_column shape b) (line_start shape.part.faces shape.q b)
column_has_start shape rules b =
    let joint = joint_of shape.part.faces b in
    let parent = face_at shape.part.faces joint.on in
    let from = joint.at +ℤ if_bent (is_bent shape.part.faces b W) shape.q in
    let to = (joint.at +ℤ (face_at shape.part.faces b).width) -ℤ if_bent (is_bent shape.part.faces b E) shape.q in
    let level = side_level joint.side parent from shape.q in
    let height = start_height joint.dir shape.q (half_thickness shape.part) (tau_low shape rules) rules.q_low in
    let low = fold_sign joint.dir *ℤ neg_ℤ (half_thickness shape.part) in
    let high = fold_sign joint.dir *ℤ mould_distance shape in
    let start_point = side_point joint.side parent from shape.q in
    lifted start_point (plus (side_point joint.side parent to shape.q) (times shape.q (outward joint.side))) start_point low high level (out_level joint.side parent to shape.q) (start_over joint.side parent from to shape.q low high)
    (subst (λ n. int_min low high ≤ℤ n) (sym level) height.0, subst (λ n. n ≤ℤ int_max low high) (sym level) height.1)

column_has_edge : (shape : ShapeData) → IsShape shape → (b : ℕ) → IsIn (corner_column shape b) (edge_point shape b)
column_has_edge shape rules b =
    let joint = joint_of shape.part.faces b in
    let parent = face_at shape.part.faces joint.on in
    let tau = half_thickness shape.part in
    let from = joint.at +ℤ if_bent (is_bent shape.part.faces b W) shape.q in
    let to = (joint.at +ℤ (face_at shape.part.faces b).width) -ℤ if_bent (is_bent shape.part.faces b E) shape.q in
    let w = fold_sign joint.dir *ℤ shape.q -ℤ fold_sign joint.dir *ℤ tau in
    let level = edge_level joint.side parent from (neg_ℤ tau) w in
    let height = edge_height joint.dir shape.q tau (tau_low shape rules) rules.q_low in
    let low = fold_sign joint.dir *ℤ neg_ℤ tau in
    let high = fold_sign joint.dir *ℤ mould_distance shape in
    lifted (side_point joint.side parent from shape.q) (plus (side_point joint.side parent to shape.q) (times shape.q (outward joint.side))) (edge_point shape b) low high (side_level joint.side parent from shape.q) (out_level joint.side parent to shape.q)
    (edge_over joint.side parent from to shape.q tau low high w (tau_low shape rules) rules.q_low)
    (subst (λ n. int_min low high ≤ℤ n) (sym level) height.0, subst (λ n. n ≤ℤ int_max low high) (sym level) height.1)

lines_of_shape : (shape : ShapeData) → IsShape shape → (b : ℕ) → 0 < b → b < length shape.part.faces → is_off_face shape.part.faces shape.q b ≡ false
lines_of_shape shape rules = go (blank_of_part shape.part shape.q) refl rules.unfolds
  where
    go : (r : Result BlankData UnfoldFault) → blank_of_part shape.part shape.q ≡ r → IsOk r → (b : ℕ) → 0 < b → b < length shape.part.faces → is_off_face shape.part.faces shape.q b ≡ false
    go (Ok blank) e h = lines_of_blank shape.part shape.q blank e
    go (Err fault) e h = absurd (cc)

core_has_start : (shape : ShapeData) → IsShape shape → (b : ℕ) → 0 < b → b < length shape.part.faces → IsIn (core_box shape (joint_of shape.part.faces b).on) (line_start shape.part.faces shape.q b)
core_has_start shape rules b some inside =
    let joint = joint_of shape.part.faces b in
    let held = start_held shape.part.faces shape.q b (lines_of_shape shape rules b some inside) in
    let tau = tau_low shape rules in
    let level = side_level joint.side (face_at shape.part.faces joint.on) (joint.at +ℤ if_bent (is_bent shape.part.faces b W) shape.q) shape.q in
    record { x_low = held.x_low; x_high = held.x_high; y_low = held.y_low; y_high = held.y_high; z_low = omega (arith, ints, tau, level); z_high = omega (arith, ints, tau, level) }

-- the point of the child's core from which the edge point comes
abbrev own_point : ShapeData → ℕ → V3
own_point shape b = vector (if_bent (is_bent shape.part.faces b W) shape.q) shape.q (pos 0)

core_has_own : (shape : ShapeData) → IsShape shape → (b : ℕ) → 0 < b → b < length shape.part.faces → IsIn (core_box shape b) (own_point shape b)
core_has_own shape rules b some inside =
    let faces = shape.part.faces in
    let edge : (core faces shape.q b).y0 ≡ shape.q = bent_edge faces shape.q b S (bent_at_own faces b some) in
    let fits = (cores_of_shape shape rules).fits b inside in
    let wide = core_is_wide faces shape.q b fits in
    let long = core_is_long faces shape.q b fits in
    let tau = tau_low shape rules in
    record { x_low = omega (arith, ints); x_high = omega (arith, ints); y_low = omega (arith, ints, edge); y_high = omega (arith, ints, edge, long); z_low = omega (arith, ints, tau); z_high = omega (arith, ints, tau) }

own_is_edge : (shape : ShapeData) (b : ℕ) → mapped (design_step shape.part.faces (half_thickness shape.part) b) (own_point shape b) ≡ edge_point shape b
own_is_edge shape b =
    let joint = joint_of shape.part.faces b in
    let tau = half_thickness shape.part in
    let flat : (neg_ℤ tau -ℤ fold_sign joint.dir *ℤ pos 0) ≡ neg_ℤ tau = omega (arith, ints) in
    design_point shape.part.faces tau b (own_point shape b)
    ∙ ap (λ n. in_frame (start joint.side (face_at shape.part.faces joint.on)) (joint.at +ℤ if_bent (is_bent shape.part.faces b W) shape.q) (along joint.side) n (outward joint.side) (fold_sign joint.dir *ℤ shape.q -ℤ fold_sign joint.dir *ℤ tau)) flat

-- what lies in a box lies in its image
is_box : (b : Box3) (v : V3) → IsIn b v → IsBox b
is_box b v inside = record {
  x = omega (arith, ints, inside.x_low, inside.x_high);
  y = omega (arith, ints, inside.y_low, inside.y_high);
  z = omega (arith, ints, inside.z_low, inside.z_high);
}

image_holds : (n : ℕ) (at : V3) (b : Box3) (v : V3) → n < 24 → IsIn b v → IsIn (image (record { turn = turn_of n; shift = at }) b) (mapped (record { turn = turn_of n; shift = at }) v)
image_holds n at b v low inside = (image_points n at b low (is_box b v inside) (mapped (record { turn = turn_of n; shift = at }) v)).1 (v, inside, refl)

in_place : (shape : ShapeData) (mask : Mask) (f : ℕ) (place : Place) → IsPlaceOf shape mask f place → place.turn < 24 → (b : Box3) (v : V3) → IsIn b v → IsIn (image (place_of shape mask f) b) (mapped (place_of shape mask f) v)
in_place shape mask f place is low b v inside = subst (λ (m : Map). IsIn (image m b) (mapped m v)) is.map (image_holds place.turn place.at b v low inside)

folded_place : (shape : ShapeData) → IsShape shape → (mask : Mask) (b : ℕ) → 0 < b → b < length shape.part.faces → IsTrue (has mask b) → place_of shape mask b ≡ after (place_of shape mask (joint_of shape.part.faces b).on) (design_step shape.part.faces (half_thickness shape.part) b)
folded_place shape rules mask b some inside folded =
    place-bend shape.part rules.part shape.q (half_thickness shape.part) (cores_of_shape shape rules) (has mask) b some inside
    ∙ by_test (has mask b) folded
  where
    by_test : (t : Bool) → IsTrue t → after (place_of shape mask (joint_of shape.part.faces b).on) (cond t (design_step shape.part.faces (half_thickness shape.part) b) (flat_step shape.part.faces shape.q b)) ≡ after (place_of shape mask (joint_of shape.part.faces b).on) (design_step shape.part.faces (half_thickness shape.part) b)
    by_test true h = refl
    by_test false h = absurd (cc)

pub corners_touch : (shape : ShapeData) → IsShape shape → (mask : Mask) (places : List Place) (none : Place) → ArePlaces shape mask places → length places ≡ length shape.part.faces → ((f : ℕ) → f < length places → (get_or places f none).turn < 24) → CornersTouch shape mask
corners_touch shape rules mask places none are count turns = record {
  parent = λ b some inside folded.
      let on : (joint_of shape.part.faces b).on < b = (joint_of_part shape.part rules.part).on b some inside in
      let f = (joint_of shape.part.faces b).on in
      let below : f < length places = omega (arith, count) in
      let p = line_start shape.part.faces shape.q b in
      (mapped (place_of shape mask f) p, in_place shape mask f (get_or places f none) (are f none below) (turns f below) (corner_column shape b) p (column_has_start shape rules b), in_place shape mask f (get_or places f none) (are f none below) (turns f below) (core_box shape f) p (core_has_start shape rules b some inside));
  child = λ b some inside folded.
      let on : (joint_of shape.part.faces b).on < b = (joint_of_part shape.part rules.part).on b some inside in
      let f = (joint_of shape.part.faces b).on in
      let below : f < length places = omega (arith, count) in
      let own : b < length places = omega (arith, count) in
      let step = design_step shape.part.faces (half_thickness shape.part) b in
      let v = own_point shape b in
      let same : mapped (place_of shape mask b) v ≡ mapped (place_of shape mask f) (edge_point shape b) = ap (λ (m : Map). mapped m v) (folded_place shape rules mask b some inside folded) ∙ mapped-after (place_of shape mask f) step v ∙ ap (mapped (place_of shape mask f)) (own_is_edge shape b) in (
        mapped (place_of shape mask f) (edge_point shape b),
        in_place shape mask f (get_or places f none) (are f none below) (turns f below) (corner_column shape b) (edge_point shape b) (column_has_edge shape rules b),
        subst (IsIn (face_box shape mask b).body) same (in_place shape mask b (get_or places b none) (are b none own) (turns b own) (core_box shape b) v (core_has_own shape rules b some inside)),
      );
}
