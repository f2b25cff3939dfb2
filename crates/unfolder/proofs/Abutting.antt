-- At each bend line the cores of its two faces abut in the blank.
use Rattle.std.proofs.Common.{◌≡◌, ℕ, ◌<◌, ℤ, pos, neg_ℤ, ◌+ℤ◌, ◌-ℤ◌, ◌*ℤ◌, ◌≤ℤ◌, Bool, true, false, ◌||◌, ◌&&◌, ◌==◌, List, length, get_or, Some, None, refl, sym, ◌∙◌, ap, subst, arith}
use Rattle.std.specs.Prelude.{Option, int_le, not, unwrap_or}
use Rattle.std.specs.List.{list_any}
use Rattle.std.proofs.lemmas.Int.{ints}
use Rattle.std.proofs.lemmas.List.Folds.{list_any_at}
use Rattle.std.proofs.lemmas.List.FromFn.{get_or-map-range_with_len}
use Rattle.brake_base.specs.Vectors.{vector}
use Rattle.brake_base.specs.Turns.{mapped}
use Rattle.brake_base.proofs.Vectors.{same_point}
use Rattle.brake_base.proofs.Maps.{mapped-after}
use Rattle.part_file.specs.declared.part.Dir.{Dir}
use Rattle.part_file.specs.declared.part.Joint.{Joint}
use Rattle.part_file.specs.declared.part.Side.{Side}
use Rattle.part_file.specs.declared.part.Side.TheVariants.{N, E, S, W}
use Rattle.part_file.specs.Part.{PartData, FaceData, IsPart, no_face, face_at, joint_at, is_bent, is_joint_on, same_side, start, along, outward}
use Rattle.unfolder.specs.declared.blank.FlatRect.{FlatRect}
use Rattle.unfolder.specs.declared.blank.BendLine.{BendLine}
use Rattle.unfolder.specs.Cores.{in_plane, no_joint, joint_of, side_point, if_bent, core, is_too_small, line_start, parent_line, holds, is_off_face}
use Rattle.unfolder.specs.Blank.{BlankData, flat_step, flat, flat_image, line_image, flat_face, flat_faces, no_flat_face, bend_line, bend_lines}
use Rattle.unfolder.specs.Edges.{AreBetween, IsOnEdge, AbutsAtLines, printed_rect}
use Rattle.unfolder.specs.Edges.IsOnEdge.{left, right, lower, upper}
use Rattle.unfolder.specs.Fold.{printed_line}
use Rattle.unfolder.proofs.ChainLemmas.{joint_of_part, to_root-bend}
use Rattle.unfolder.proofs.HingeLaws.{in_frame}
use Rattle.unfolder.proofs.FlatMaps.{side_level, flat_is_flat}
use Rattle.unfolder.proofs.FoldLaws.{side_point_is, flat_point, core_is_wide, core_is_long}
use Rattle.unfolder.proofs.PlaceLaws.{AreCores, printed_line_is}
use Rattle.unfolder.proofs.Edges.{edge_image}

-- ---- a line of the parent, as far inside the side as its core's edge
-- the edge of a rectangle that is this far inside a side of the face
abbrev pub IsEdgeOf : FlatRect → Side → FaceData → ℤ → Type 0
IsEdgeOf r N face q = r.y1 ≡ (face.length -ℤ q)
IsEdgeOf r E face q = r.x1 ≡ (face.width -ℤ q)
IsEdgeOf r S face q = r.y0 ≡ q
IsEdgeOf r W face q = r.x0 ≡ q

pub record IsHeld (r : FlatRect) (p : ℤ × ℤ) : Type 0 where
  pub x_low : r.x0 ≤ℤ p.0
  pub x_high : p.0 ≤ℤ r.x1
  pub y_low : r.y0 ≤ℤ p.1
  pub y_high : p.1 ≤ℤ r.y1

and_left : (a b : Bool) → (a && b) ≡ true → a ≡ true
and_left true b h = refl
and_left false b h = h

and_right : (a b : Bool) → (a && b) ≡ true → b ≡ true
and_right true b h = h
and_right false b h = absurd (let c = h in cc)

not_false : (a : Bool) → not a ≡ false → a ≡ true
not_false true h = refl
not_false false h = absurd (let c = h in cc)

le_true : (a b : ℤ) → int_le a b ≡ true → a ≤ℤ b
le_true a b h = grind (arith, ints)

held : (r : FlatRect) (p : ℤ × ℤ) → holds r p ≡ true → IsHeld r p
held r p h =
    let x = and_left (int_le r.x0 p.0 && int_le p.0 r.x1) (int_le r.y0 p.1 && int_le p.1 r.y1) h in
    let y = and_right (int_le r.x0 p.0 && int_le p.0 r.x1) (int_le r.y0 p.1 && int_le p.1 r.y1) h in
    record {
      x_low = le_true _ _ (and_left (int_le r.x0 p.0) (int_le p.0 r.x1) x);
      x_high = le_true _ _ (and_right (int_le r.x0 p.0) (int_le p.0 r.x1) x);
      y_low = le_true _ _ (and_left (int_le r.y0 p.1) (int_le p.1 r.y1) y);
      y_high = le_true _ _ (and_right (int_le r.y0 p.1) (int_le p.1 r.y1) y);
    }

abbrev side_line : ℕ → Dir → Side → FaceData → ℤ → ℤ → ℤ → BendLine
side_line b dir side face from to q = record { bend = b; from = in_plane (side_point side face from q); to = in_plane (side_point side face to q); dir = dir }

across_x : (r : FlatRect) (a b : ℤ × ℤ) → IsHeld r a → IsHeld r b → AreBetween r.x0 r.x1 a.0 b.0
across_x r a b first second = record { a_low = first.x_low; a_high = first.x_high; b_low = second.x_low; b_high = second.x_high }

across_y : (r : FlatRect) (a b : ℤ × ℤ) → IsHeld r a → IsHeld r b → AreBetween r.y0 r.y1 a.1 b.1
across_y r a b first second = record { a_low = first.y_low; a_high = first.y_high; b_low = second.y_low; b_high = second.y_high }

on_side : (r : FlatRect) (n : ℕ) (dir : Dir) (side : Side) (face : FaceData) (from to q : ℤ) → IsEdgeOf r side face q → IsHeld r (in_plane (side_point side face from q)) → IsHeld r (in_plane (side_point side face to q)) → IsOnEdge r (side_line n dir side face from to q)
on_side r n dir N face from to q edge a b = upper (omega (arith, ints, edge)) (omega (arith, ints, edge)) (across_x r _ _ a b)
on_side r n dir E face from to q edge a b = right (omega (arith, ints, edge)) (omega (arith, ints, edge)) (across_y r _ _ a b)
on_side r n dir S face from to q edge a b = lower (omega (arith, ints, edge)) (omega (arith, ints, edge)) (across_x r _ _ a b)
on_side r n dir W face from to q edge a b = left (omega (arith, ints, edge)) (omega (arith, ints, edge)) (across_y r _ _ a b)

-- the core's edge at a bent side
pub bent_edge : (faces : List FaceData) (q : ℤ) (f : ℕ) (side : Side) → is_bent faces f side ≡ true → IsEdgeOf (core faces q f) side (face_at faces f) q
bent_edge faces q f N bent = ap (λ t. (face_at faces f).length -ℤ if_bent t q) bent
bent_edge faces q f E bent = ap (λ t. (face_at faces f).width -ℤ if_bent t q) bent
bent_edge faces q f S bent = ap (λ t. if_bent t q) bent
bent_edge faces q f W bent = ap (λ t. if_bent t q) bent

same_side_self : (side : Side) → same_side side side ≡ true
same_side_self N = refl
same_side_self E = refl
same_side_self S = refl
same_side_self W = refl

or_true : (a b : Bool) → b ≡ true → (a || b) ≡ true
or_true true b h = refl
or_true false b h = h

own_number : (n : ℕ) → (n == n) ≡ true
own_number n = grind arith

both_true : (a b : Bool) → a ≡ true → b ≡ true → (a && b) ≡ true
both_true a b e f = rw (e, f) refl

on_itself : (found : Option Joint) (joint : Joint) → found ≡ Some joint → is_joint_on (unwrap_or found no_joint).on (unwrap_or found no_joint).side found ≡ true
on_itself None joint e = absurd (cc)
on_itself (Some own) joint e = both_true (own.on == own.on) (same_side own.side own.side) (own_number own.on) (same_side_self own.side)

-- a bend joins its parent there
bent_at_joint : (p : PartData) → IsPart p → (b : ℕ) → 0 < b → b < length p.faces → is_bent p.faces (joint_of p.faces b).on (joint_of p.faces b).side ≡ true
bent_at_joint p part b some inside =
    let joint = joint_of p.faces b in
    let known = (part.each_face b inside).placed.joined.joint some in
    or_true (same_side S joint.side && not (joint.on == 0)) (list_any (λ face. is_joint_on joint.on joint.side face.joint) p.faces)
    (list_any_at (λ face. is_joint_on joint.on joint.side face.joint) p.faces b no_face inside (on_itself (joint_at p.faces b) known.0 known.1.has))

not_zero : (b : ℕ) → 0 < b → not (b == 0) ≡ true
not_zero b h = grind arith

true_or : (a b : Bool) → a ≡ true → (a || b) ≡ true
true_or a b h = rw h refl

-- a child is bent at its own S
pub bent_at_own : (faces : List FaceData) (b : ℕ) → 0 < b → is_bent faces b S ≡ true
bent_at_own faces b h = true_or (not (b == 0)) (list_any (λ face. is_joint_on b S face.joint) faces) (not_zero b h)

-- the start of a line lies in the parent's core
pub start_held : (faces : List FaceData) (q : ℤ) (b : ℕ) → is_off_face faces q b ≡ false → IsHeld (core faces q (joint_of faces b).on) (in_plane (line_start faces q b))
start_held faces q b kept =
    let r = core faces q (joint_of faces b).on in
    let line = parent_line faces q b in
    held r line.from (and_left (holds r line.from) (holds r line.to) (not_false (holds r line.from && holds r line.to) kept))

parent_edge : (p : PartData) → IsPart p → (q : ℤ) (b : ℕ) → 0 < b → b < length p.faces → is_off_face p.faces q b ≡ false → IsOnEdge (core p.faces q (joint_of p.faces b).on) (parent_line p.faces q b)
parent_edge p part q b some inside kept =
    let joint = joint_of p.faces b in
    let r = core p.faces q joint.on in
    let line = parent_line p.faces q b in
    let both = not_false (holds r line.from && holds r line.to) kept in
    on_side r b joint.dir joint.side (face_at p.faces joint.on) (joint.at +ℤ if_bent (is_bent p.faces b W) q) ((joint.at +ℤ (face_at p.faces b).width) -ℤ if_bent (is_bent p.faces b E) q) q
    (bent_edge p.faces q joint.on joint.side (bent_at_joint p part b some inside))
    (held r line.from (and_left (holds r line.from) (holds r line.to) both))
    (held r line.to (and_right (holds r line.from) (holds r line.to) both))

-- ---- the same line in the frame of the child, whose S edge it is
abbrev child_line : List FaceData → ℤ → ℕ → BendLine
child_line faces q b = let r = core faces q b in record { bend = b; from = (r.x0, q); to = (r.x1, q); dir = (joint_of faces b).dir }

child_edge : (faces : List FaceData) (q : ℤ) (b : ℕ) → 0 < b → is_too_small (core faces q b) ≡ false → IsOnEdge (core faces q b) (child_line faces q b)
child_edge faces q b some fits =
    let edge : (core faces q b).y0 ≡ q = bent_edge faces q b S (bent_at_own faces b some) in
    let wide = core_is_wide faces q b fits in
    lower (sym edge) (sym edge) (record { a_low = omega (arith, ints); a_high = omega (arith, ints); b_low = omega (arith, ints); b_high = omega (arith, ints) })

-- a point of the child's S edge, as a point of the parent's side
on_parent : (faces : List FaceData) (q : ℤ) (b : ℕ) (x : ℤ) → let joint = joint_of faces b in mapped (flat_step faces q b) (vector x q (pos 0)) ≡ side_point joint.side (face_at faces joint.on) (joint.at +ℤ x) q
on_parent faces q b x =
    let joint = joint_of faces b in
    let parent = face_at faces joint.on in
    let depth : (q -ℤ pos 2 *ℤ q) ≡ neg_ℤ q = omega (arith, ints) in
    flat_point faces q b (vector x q (pos 0))
    ∙ ap (λ n. in_frame (start joint.side parent) (joint.at +ℤ x) (along joint.side) n (outward joint.side) (pos 0)) depth
    ∙ sym (side_point_is joint.side parent (joint.at +ℤ x) q)

in_blank : (p : PartData) → IsPart p → (q : ℤ) (b : ℕ) (x along_parent : ℤ) → 0 < b → b < length p.faces → ((joint_of p.faces b).at +ℤ x) ≡ along_parent
    → let joint = joint_of p.faces b in let l = side_point joint.side (face_at p.faces joint.on) along_parent q in mapped (flat p.faces q b) (vector x q (pos 0)) ≡ mapped (flat p.faces q joint.on) (vector l.x l.y (pos 0))
in_blank p part q b x along_parent some inside at =
    let joint = joint_of p.faces b in
    let parent = face_at p.faces joint.on in
    let l = side_point joint.side parent along_parent q in
    let planar : l ≡ vector l.x l.y (pos 0) = same_point _ _ refl refl (side_level joint.side parent along_parent q) in
    ap (λ m. mapped m (vector x q (pos 0))) (to_root-bend p.faces (flat_step p.faces q) (joint_of_part p part) b some inside)
    ∙ mapped-after (flat p.faces q joint.on) (flat_step p.faces q b) (vector x q (pos 0))
    ∙ ap (mapped (flat p.faces q joint.on)) (on_parent p.faces q b x ∙ ap (λ n. side_point joint.side parent n q) at ∙ planar)

bend_line_of_child : (p : PartData) → IsPart p → (q : ℤ) (b : ℕ) → 0 < b → b < length p.faces → line_image (flat p.faces q b) (child_line p.faces q b) ≡ bend_line p.faces q b
bend_line_of_child p part q b some inside =
    let joint = joint_of p.faces b in
    let r = core p.faces q b in
    let from = in_blank p part q b r.x0 (joint.at +ℤ if_bent (is_bent p.faces b W) q) some inside refl in
    let to = in_blank p part q b r.x1 ((joint.at +ℤ (face_at p.faces b).width) -ℤ if_bent (is_bent p.faces b E) q) some inside (omega (arith, ints)) in
    λ i. record { bend = b; from = in_plane (from i); to = in_plane (to i); dir = joint.dir }

-- ---- the printed blank
printed_rect_is : (faces : List FaceData) (q : ℤ) (blank : BlankData) (f : ℕ) → blank.faces ≡ flat_faces faces q → f < length faces → printed_rect blank f ≡ flat_image (flat faces q f) (core faces q f)
printed_rect_is faces q blank f printed inside = ap (λ fs. (get_or fs f no_flat_face).rect) printed ∙ ap (λ face. face.rect) (get_or-map-range_with_len (flat_face faces q) 0 (length faces) f f no_flat_face inside (omega arith))

ordered : (faces : List FaceData) (q : ℤ) (f : ℕ) → is_too_small (core faces q f) ≡ false → ((core faces q f).x0 ≤ℤ (core faces q f).x1) × ((core faces q f).y0 ≤ℤ (core faces q f).y1)
ordered faces q f fits =
    let wide = core_is_wide faces q f fits in
    let long = core_is_long faces q f fits in
    (omega (arith, ints), omega (arith, ints))

-- the lines of a part none of whose bends is off its parent's core
pub abuts_at_lines : (p : PartData) → IsPart p → (q : ℤ) (blank : BlankData) → AreCores p.faces q → ((b : ℕ) → 0 < b → b < length p.faces → is_off_face p.faces q b ≡ false) → blank.faces ≡ flat_faces p.faces q → blank.bends ≡ bend_lines p.faces q → AbutsAtLines p blank
abuts_at_lines p part q blank cores kept printed bends = record {
  child = λ b some inside.
      let order = ordered p.faces q b (cores.fits b inside) in
      let line : line_image (flat p.faces q b) (child_line p.faces q b) ≡ printed_line blank b = bend_line_of_child p part q b some inside ∙ sym (printed_line_is p.faces q blank b bends some inside) in
      let on = edge_image (flat p.faces q b) (flat_is_flat p part q b inside) (core p.faces q b) (child_line p.faces q b) order.0 order.1 (child_edge p.faces q b some (cores.fits b inside)) in
      subst (λ r. IsOnEdge r (printed_line blank b)) (sym (printed_rect_is p.faces q blank b printed inside)) (subst (IsOnEdge (flat_image (flat p.faces q b) (core p.faces q b))) line on);
  parent = λ b some inside.
      let on : (joint_of p.faces b).on < b = (joint_of_part p part).on b some inside in
      let f = (joint_of p.faces b).on in
      let below : f < length p.faces = omega arith in
      let order = ordered p.faces q f (cores.fits f below) in
      let edge = edge_image (flat p.faces q f) (flat_is_flat p part q f below) (core p.faces q f) (parent_line p.faces q b) order.0 order.1 (parent_edge p part q b some inside (kept b some inside)) in
      subst (λ r. IsOnEdge r (printed_line blank b)) (sym (printed_rect_is p.faces q blank f printed below)) (subst (IsOnEdge (flat_image (flat p.faces q f) (core p.faces q f))) (sym (printed_line_is p.faces q blank b bends some inside)) edge);
}
