-- The printed blank, hinged at one bend, takes the child from where it lies flat to where it stands in the design.
use Rattle.std.proofs.Common.{◌≡◌, ℕ, zero, suc, ◌+◌, ◌<◌, ◌≤◌, ◌%◌, ℤ, pos, neg_ℤ, ◌+ℤ◌, ◌-ℤ◌, ◌*ℤ◌, ◌≤ℤ◌, Bool, true, false, List, [], ◌∷◌, length, refl, sym, ◌∙◌, ap, subst, arith}
use Rattle.std.proofs.lemmas.Int.{ints}
use Rattle.std.specs.Prelude.{int_lt, ◌||◌}
use Rattle.algebra.proofs.Ring.{ring, var, whole, ◌⊕◌, ◌⊖◌, ◌⊗◌}
use Rattle.algebra.proofs.Ring.Expression.{minus as opposite}
use Rattle.brake_base.specs.declared.space.V3.{V3}
use Rattle.brake_base.specs.Vectors.{vector, plus, origin}
use Rattle.brake_base.specs.Turns.{Matrix, apply, identity, Map, mapped, after}
use Rattle.brake_base.proofs.Vectors.{same_point}
use Rattle.brake_base.proofs.Whole.{sums}
use Rattle.brake_base.proofs.Maps.{same_matrix, same_map, mapped-after, mapped-origin}
use Rattle.part_file.specs.declared.part.Side.{Side}
use Rattle.part_file.specs.declared.part.Side.TheVariants.{E, W}
use Rattle.part_file.specs.Part.{PartData, FaceData, IsPart, face_at, start, along, outward, is_bent}
use Rattle.unfolder.specs.declared.blank.BendLine.{BendLine}
use Rattle.unfolder.specs.Cores.{z_axis, joint_of, side_point, if_bent, core, is_too_small}
use Rattle.unfolder.specs.Blank.{flat_step, flat, bend_line}
use Rattle.unfolder.specs.Design.{fold_sign, design_step}
use Rattle.unfolder.specs.Fold.{line_origin, line_along, line_outward, hinged_about, hinge}
use Rattle.unfolder.proofs.ChainLemmas.{joint_of_part}
use Rattle.unfolder.proofs.HingeLaws.{IsHeading, in_frame, hinged-in_frame, mapped-map_through, sign_of_stretch, quarter_on, mapped-in_frame}
use Rattle.unfolder.proofs.FlatMaps.{IsFlatMap, side_level, mapped_level, flat_is_flat, heading_of, stays_up}

-- ---- points of the child in the frame of the parent's side
pub side_point_is : (side : Side) (face : FaceData) (distance depth : ℤ) → side_point side face distance depth ≡ in_frame (start side face) distance (along side) (neg_ℤ depth) (outward side) (pos 0)
side_point_is side face distance depth = same_point _ _ (omega (arith, sums)) (omega (arith, sums)) (omega (arith, sums))

-- the coordinates of a point of the child that lies flat, one axis at a time
flat_axis : (p d o u at q x y z : ℤ) → (((x *ℤ d) +ℤ (y *ℤ o)) +ℤ (z *ℤ u)) +ℤ ((p +ℤ (at *ℤ d)) +ℤ (neg_ℤ (pos 2 *ℤ q) *ℤ o)) ≡ ((p +ℤ ((at +ℤ x) *ℤ d)) +ℤ ((y -ℤ pos 2 *ℤ q) *ℤ o)) +ℤ (z *ℤ u)
flat_axis p d o u at q x y z =
    let P = var 0 in
    let D = var 1 in
    let O = var 2 in
    let U = var 3 in
    let A = var 4 in
    let Q = var 5 in
    let X = var 6 in
    let Y = var 7 in
    let Z = var 8 in
    ring (p ∷ d ∷ o ∷ u ∷ at ∷ q ∷ x ∷ y ∷ z ∷ []) (((X ⊗ D ⊕ Y ⊗ O) ⊕ Z ⊗ U) ⊕ ((P ⊕ A ⊗ D) ⊕ opposite (whole (pos 2) ⊗ Q) ⊗ O)) (((P ⊕ (A ⊕ X) ⊗ D) ⊕ (Y ⊖ whole (pos 2) ⊗ Q) ⊗ O) ⊕ Z ⊗ U) tt

pub flat_point : (faces : List FaceData) (q : ℤ) (b : ℕ) (v : V3) → mapped (flat_step faces q b) v ≡ in_frame (start (joint_of faces b).side (face_at faces (joint_of faces b).on)) ((joint_of faces b).at +ℤ v.x) (along (joint_of faces b).side) (v.y -ℤ pos 2 *ℤ q) (outward (joint_of faces b).side) v.z
unfolding mapped apply
flat_point faces q b v =
    let joint = joint_of faces b in
    let p = start joint.side (face_at faces joint.on) in
    let d = along joint.side in
    let o = outward joint.side in
    same_point _ _ (flat_axis p.x d.x o.x (pos 0) joint.at q v.x v.y v.z) (flat_axis p.y d.y o.y (pos 0) joint.at q v.x v.y v.z) (flat_axis p.z d.z o.z (pos 1) joint.at q v.x v.y v.z)

-- the coordinates of a point of the child that stands in the design
design_axis : (p d o u at tau s x y z : ℤ) → (((x *ℤ d) +ℤ (y *ℤ (s *ℤ u))) +ℤ (z *ℤ (neg_ℤ s *ℤ o))) +ℤ (((p +ℤ (at *ℤ d)) +ℤ (neg_ℤ tau *ℤ o)) +ℤ (neg_ℤ s *ℤ (tau *ℤ u))) ≡ ((p +ℤ ((at +ℤ x) *ℤ d)) +ℤ ((neg_ℤ tau -ℤ s *ℤ z) *ℤ o)) +ℤ ((s *ℤ y -ℤ s *ℤ tau) *ℤ u)
design_axis p d o u at tau s x y z =
    let P = var 0 in
    let D = var 1 in
    let O = var 2 in
    let U = var 3 in
    let A = var 4 in
    let T = var 5 in
    let F = var 6 in
    let X = var 7 in
    let Y = var 8 in
    let Z = var 9 in
    ring (p ∷ d ∷ o ∷ u ∷ at ∷ tau ∷ s ∷ x ∷ y ∷ z ∷ []) (((X ⊗ D ⊕ Y ⊗ (F ⊗ U)) ⊕ Z ⊗ (opposite F ⊗ O)) ⊕ (((P ⊕ A ⊗ D) ⊕ opposite T ⊗ O) ⊕ opposite F ⊗ (T ⊗ U))) (((P ⊕ (A ⊕ X) ⊗ D) ⊕ (opposite T ⊖ F ⊗ Z) ⊗ O) ⊕ (F ⊗ Y ⊖ F ⊗ T) ⊗ U) tt

pub design_point : (faces : List FaceData) (tau : ℤ) (b : ℕ) (v : V3) → mapped (design_step faces tau b) v ≡ in_frame (start (joint_of faces b).side (face_at faces (joint_of faces b).on)) ((joint_of faces b).at +ℤ v.x) (along (joint_of faces b).side) (neg_ℤ tau -ℤ fold_sign (joint_of faces b).dir *ℤ v.z) (outward (joint_of faces b).side) (fold_sign (joint_of faces b).dir *ℤ v.y -ℤ fold_sign (joint_of faces b).dir *ℤ tau)
unfolding mapped apply
design_point faces tau b v =
    let joint = joint_of faces b in
    let s = fold_sign joint.dir in
    let p = start joint.side (face_at faces joint.on) in
    let d = along joint.side in
    let o = outward joint.side in
    same_point _ _ (design_axis p.x d.x o.x (pos 0) joint.at tau s v.x v.y v.z) (design_axis p.y d.y o.y (pos 0) joint.at tau s v.x v.y v.z) (design_axis p.z d.z o.z (pos 1) joint.at tau s v.x v.y v.z)

-- ---- the hinge of a line in the frame of the parent's side
-- a flat point, seen from the line's start
from_line_axis : (p d o u at a q x y z : ℤ) → ((p +ℤ ((at +ℤ x) *ℤ d)) +ℤ ((y -ℤ pos 2 *ℤ q) *ℤ o)) +ℤ (z *ℤ u) ≡ (((((p +ℤ (a *ℤ d)) +ℤ (neg_ℤ q *ℤ o)) +ℤ (pos 0 *ℤ u)) +ℤ (((at +ℤ x) -ℤ a) *ℤ d)) +ℤ ((y -ℤ q) *ℤ o)) +ℤ (z *ℤ u)
from_line_axis p d o u at a q x y z =
    let P = var 0 in
    let D = var 1 in
    let O = var 2 in
    let U = var 3 in
    let A = var 4 in
    let B = var 5 in
    let Q = var 6 in
    let X = var 7 in
    let Y = var 8 in
    let Z = var 9 in
    ring (p ∷ d ∷ o ∷ u ∷ at ∷ a ∷ q ∷ x ∷ y ∷ z ∷ []) (((P ⊕ (A ⊕ X) ⊗ D) ⊕ (Y ⊖ whole (pos 2) ⊗ Q) ⊗ O) ⊕ Z ⊗ U) (((((P ⊕ B ⊗ D) ⊕ opposite Q ⊗ O) ⊕ whole (pos 0) ⊗ U) ⊕ ((A ⊕ X) ⊖ B) ⊗ D) ⊕ (Y ⊖ Q) ⊗ O ⊕ Z ⊗ U) tt

-- the hinged point, seen from the side's start: h is q less tau
from_start_axis : (p d o u at a q tau s x y z : ℤ) → (((((p +ℤ (a *ℤ d)) +ℤ (neg_ℤ q *ℤ o)) +ℤ (pos 0 *ℤ u)) +ℤ (((at +ℤ x) -ℤ a) *ℤ d)) +ℤ (((q -ℤ tau) -ℤ s *ℤ z) *ℤ o)) +ℤ ((s *ℤ ((q -ℤ tau) +ℤ (y -ℤ q))) *ℤ u) ≡ ((p +ℤ ((at +ℤ x) *ℤ d)) +ℤ ((neg_ℤ tau -ℤ s *ℤ z) *ℤ o)) +ℤ ((s *ℤ y -ℤ s *ℤ tau) *ℤ u)
from_start_axis p d o u at a q tau s x y z =
    let P = var 0 in
    let D = var 1 in
    let O = var 2 in
    let U = var 3 in
    let A = var 4 in
    let B = var 5 in
    let Q = var 6 in
    let T = var 7 in
    let F = var 8 in
    let X = var 9 in
    let Y = var 10 in
    let Z = var 11 in
    ring (p ∷ d ∷ o ∷ u ∷ at ∷ a ∷ q ∷ tau ∷ s ∷ x ∷ y ∷ z ∷ []) (((((P ⊕ B ⊗ D) ⊕ opposite Q ⊗ O) ⊕ whole (pos 0) ⊗ U) ⊕ ((A ⊕ X) ⊖ B) ⊗ D) ⊕ ((Q ⊖ T) ⊖ F ⊗ Z) ⊗ O ⊕ (F ⊗ ((Q ⊖ T) ⊕ (Y ⊖ Q))) ⊗ U) (((P ⊕ (A ⊕ X) ⊗ D) ⊕ (opposite T ⊖ F ⊗ Z) ⊗ O) ⊕ (F ⊗ Y ⊖ F ⊗ T) ⊗ U) tt

-- the hinge takes the flat point of the child to the designed one
hinged_child : (d o : V3) → IsHeading d o → (p : V3) (s at a q tau x y z : ℤ) → hinged_about (in_frame p a d (neg_ℤ q) o (pos 0)) d o s (q -ℤ tau) (in_frame p (at +ℤ x) d (y -ℤ pos 2 *ℤ q) o z) ≡ in_frame p (at +ℤ x) d (neg_ℤ tau -ℤ s *ℤ z) o (s *ℤ y -ℤ s *ℤ tau)
hinged_child d o heading p s at a q tau x y z =
    let line = in_frame p a d (neg_ℤ q) o (pos 0) in
    let seen : in_frame p (at +ℤ x) d (y -ℤ pos 2 *ℤ q) o z ≡ in_frame line ((at +ℤ x) -ℤ a) d (y -ℤ q) o z = same_point _ _ (from_line_axis p.x d.x o.x (pos 0) at a q x y z) (from_line_axis p.y d.y o.y (pos 0) at a q x y z) (from_line_axis p.z d.z o.z (pos 1) at a q x y z) in
    ap (hinged_about line d o s (q -ℤ tau)) seen
    ∙ hinged-in_frame d o heading line s (q -ℤ tau) ((at +ℤ x) -ℤ a) (y -ℤ q) z
    ∙ same_point _ _ (from_start_axis p.x d.x o.x (pos 0) at a q tau s x y z) (from_start_axis p.y d.y o.y (pos 0) at a q tau s x y z) (from_start_axis p.z d.z o.z (pos 1) at a q tau s x y z)

-- ---- the printed line of a bend
-- a point of a side as it lies in the blank
laid_point : (m : Map) → IsFlatMap m → (side : Side) (face : FaceData) (distance depth : ℤ) → let l = side_point side face distance depth in let v = mapped m (vector l.x l.y (pos 0)) in
    vector v.x v.y (pos 0) ≡ in_frame (mapped m (start side face)) distance (apply m.turn (along side)) (neg_ℤ depth) (apply m.turn (outward side)) (pos 0)
laid_point m flat side face distance depth =
    let l = side_point side face distance depth in
    let planar : vector l.x l.y (pos 0) ≡ l = same_point _ _ refl refl (sym (side_level side face distance depth)) in
    let level : (mapped m (vector l.x l.y (pos 0))).z ≡ pos 0 = mapped_level m flat (vector l.x l.y (pos 0)) refl in
    let v = mapped m (vector l.x l.y (pos 0)) in
    let whole_point : vector v.x v.y (pos 0) ≡ v = same_point _ _ refl refl (sym level) in
    whole_point ∙ ap (mapped m) (planar ∙ side_point_is side face distance depth) ∙ mapped-in_frame m (start side face) distance (along side) (neg_ℤ depth) (outward side) (pos 0) (stays_up m flat)

-- from one end of a line to the other
length_axis : (p d o u a b q : ℤ) → (((p +ℤ (b *ℤ d)) +ℤ (neg_ℤ q *ℤ o)) +ℤ (pos 0 *ℤ u)) -ℤ (((p +ℤ (a *ℤ d)) +ℤ (neg_ℤ q *ℤ o)) +ℤ (pos 0 *ℤ u)) ≡ (b -ℤ a) *ℤ d
length_axis p d o u a b q =
    let P = var 0 in
    let D = var 1 in
    let O = var 2 in
    let U = var 3 in
    let A = var 4 in
    let B = var 5 in
    let Q = var 6 in
    ring (p ∷ d ∷ o ∷ u ∷ a ∷ b ∷ q ∷ []) ((((P ⊕ B ⊗ D) ⊕ opposite Q ⊗ O) ⊕ whole (pos 0) ⊗ U) ⊖ (((P ⊕ A ⊗ D) ⊕ opposite Q ⊗ O) ⊕ whole (pos 0) ⊗ U)) ((B ⊖ A) ⊗ D) tt

-- no size of the core is below 1
not_below : (a b : Bool) → (a || b) ≡ false → a ≡ false
not_below false b h = refl
not_below true b h = h

at_least_one : (n : ℤ) → int_lt n (pos 1) ≡ false → pos 1 ≤ℤ n
at_least_one n h = grind (arith, ints)

pub core_is_wide : (faces : List FaceData) (q : ℤ) (b : ℕ) → is_too_small (core faces q b) ≡ false → pos 1 ≤ℤ ((core faces q b).x1 -ℤ (core faces q b).x0)
core_is_wide faces q b fits = at_least_one _ (not_below _ _ fits)

not_below_either : (a b : Bool) → (a || b) ≡ false → b ≡ false
not_below_either false b h = h
not_below_either true b h = absurd (let c = h in cc)

pub core_is_long : (faces : List FaceData) (q : ℤ) (b : ℕ) → is_too_small (core faces q b) ≡ false → pos 1 ≤ℤ ((core faces q b).y1 -ℤ (core faces q b).y0)
core_is_long faces q b fits = at_least_one _ (not_below_either _ _ fits)

-- where the printed line of bend b starts, and its two directions
pub record IsLaidLine (faces : List FaceData) (q : ℤ) (b : ℕ) (m : Map) (line : BendLine) : Type 0 where
  pub origin : line_origin line ≡ in_frame (mapped m (start (joint_of faces b).side (face_at faces (joint_of faces b).on))) ((joint_of faces b).at +ℤ if_bent (is_bent faces b W) q) (apply m.turn (along (joint_of faces b).side)) (neg_ℤ q) (apply m.turn (outward (joint_of faces b).side)) (pos 0)
  pub along : line_along line ≡ apply m.turn (along (joint_of faces b).side)
  pub outward : line_outward line ≡ apply m.turn (outward (joint_of faces b).side)

laid_line : (faces : List FaceData) (q : ℤ) (b : ℕ) → IsFlatMap (flat faces q (joint_of faces b).on) → is_too_small (core faces q b) ≡ false → IsLaidLine faces q b (flat faces q (joint_of faces b).on) (bend_line faces q b)
laid_line faces q b flat_parent fits =
    let joint = joint_of faces b in
    let parent = face_at faces joint.on in
    let m = flat faces q joint.on in
    let d = apply m.turn (along joint.side) in
    let o = apply m.turn (outward joint.side) in
    let p = mapped m (start joint.side parent) in
    let heading = heading_of m flat_parent joint.side in
    let a = joint.at +ℤ if_bent (is_bent faces b W) q in
    let z = (joint.at +ℤ (face_at faces b).width) -ℤ if_bent (is_bent faces b E) q in
    let from = laid_point m flat_parent joint.side parent a q in
    let to = laid_point m flat_parent joint.side parent z q in
    let wide = core_is_wide faces q b fits in
    let long : pos 1 ≤ℤ (z -ℤ a) = omega (arith, ints) in
    let line = bend_line faces q b in
    let x : line.to.0 -ℤ line.from.0 ≡ (z -ℤ a) *ℤ d.x = (λ i. (to i).x -ℤ (from i).x) ∙ length_axis p.x d.x o.x (pos 0) a z q in
    let y : line.to.1 -ℤ line.from.1 ≡ (z -ℤ a) *ℤ d.y = (λ i. (to i).y -ℤ (from i).y) ∙ length_axis p.y d.y o.y (pos 0) a z q in
    let direction : line_along line ≡ d = sign_of_stretch d o heading (z -ℤ a) _ _ long x y in
    record {
      origin = from;
      along = direction;
      outward = ap (λ (v : V3). vector (neg_ℤ v.y) v.x (pos 0)) direction ∙ quarter_on d o heading;
    }

hinge_is : (h : ℤ) (line : BendLine) (a d o p : V3) → line_origin line ≡ a → line_along line ≡ d → line_outward line ≡ o → mapped (hinge h line) p ≡ hinged_about a d o (fold_sign line.dir) h p
unfolding hinge
hinge_is h line a d o p at along_is outward_is = mapped-map_through (line_origin line) (line_along line) (line_outward line) (fold_sign line.dir) h p ∙ (λ i. hinged_about (at i) (along_is i) (outward_is i) (fold_sign line.dir) h p)

-- the printed blank, hinged at bend b, takes each point of the child from where it lies flat to where it stands on its parent
pub hinged_point : (faces : List FaceData) (q tau : ℤ) (b : ℕ) → IsFlatMap (flat faces q (joint_of faces b).on) → is_too_small (core faces q b) ≡ false → (v : V3)
    → mapped (hinge (q -ℤ tau) (bend_line faces q b)) (mapped (flat faces q (joint_of faces b).on) (mapped (flat_step faces q b) v)) ≡ mapped (flat faces q (joint_of faces b).on) (mapped (design_step faces tau b) v)
hinged_point faces q tau b flat_parent fits v =
    let joint = joint_of faces b in
    let parent = face_at faces joint.on in
    let m = flat faces q joint.on in
    let d = apply m.turn (along joint.side) in
    let o = apply m.turn (outward joint.side) in
    let p = mapped m (start joint.side parent) in
    let s = fold_sign joint.dir in
    let line = laid_line faces q b flat_parent fits in
    let a = joint.at +ℤ if_bent (is_bent faces b W) q in
    let lies : mapped m (mapped (flat_step faces q b) v) ≡ in_frame p (joint.at +ℤ v.x) d (v.y -ℤ pos 2 *ℤ q) o v.z = ap (mapped m) (flat_point faces q b v) ∙ mapped-in_frame m (start joint.side parent) (joint.at +ℤ v.x) (along joint.side) (v.y -ℤ pos 2 *ℤ q) (outward joint.side) v.z (stays_up m flat_parent) in
    let stands : mapped m (mapped (design_step faces tau b) v) ≡ in_frame p (joint.at +ℤ v.x) d (neg_ℤ tau -ℤ s *ℤ v.z) o (s *ℤ v.y -ℤ s *ℤ tau) = ap (mapped m) (design_point faces tau b v) ∙ mapped-in_frame m (start joint.side parent) (joint.at +ℤ v.x) (along joint.side) (neg_ℤ tau -ℤ s *ℤ v.z) (outward joint.side) (s *ℤ v.y -ℤ s *ℤ tau) (stays_up m flat_parent) in
    hinge_is (q -ℤ tau) (bend_line faces q b) (in_frame p a d (neg_ℤ q) o (pos 0)) d o (mapped m (mapped (flat_step faces q b) v)) line.origin line.along line.outward
    ∙ ap (hinged_about (in_frame p a d (neg_ℤ q) o (pos 0)) d o s (q -ℤ tau)) lies
    ∙ hinged_child d o (heading_of m flat_parent joint.side) p s joint.at a q tau v.x v.y v.z
    ∙ sym stands

-- ---- maps that agree on points
cancel : (u v w : V3) → plus u w ≡ plus v w → u ≡ v
cancel u v w same = same_point _ _ (let e = ap (λ (k : V3). k.x) same in omega (arith, sums)) (let e = ap (λ (k : V3). k.y) same in omega (arith, sums)) (let e = ap (λ (k : V3). k.z) same in omega (arith, sums))

unit_images : (m : Matrix) → (apply m identity.x ≡ m.x) × (apply m identity.y ≡ m.y) × (apply m identity.z ≡ m.z)
unfolding apply
unit_images m = (same_point _ _ (omega (arith, ints)) (omega (arith, ints)) (omega (arith, ints)), same_point _ _ (omega (arith, ints)) (omega (arith, ints)) (omega (arith, ints)), same_point _ _ (omega (arith, ints)) (omega (arith, ints)) (omega (arith, ints)))

pub same_by_points : (f g : Map) → ((v : V3) → mapped f v ≡ mapped g v) → f ≡ g
unfolding mapped
same_by_points f g same =
    let shift : f.shift ≡ g.shift = sym (mapped-origin f) ∙ same origin ∙ mapped-origin g in
    let turned = λ (v : V3). cancel (apply f.turn v) (apply g.turn v) g.shift (ap (plus (apply f.turn v)) (sym shift) ∙ same v) in
    let from = unit_images f.turn in
    let to = unit_images g.turn in
    same_map f g (same_matrix f.turn g.turn (sym from.0 ∙ turned identity.x ∙ to.0) (sym from.1 ∙ turned identity.y ∙ to.1) (sym from.2 ∙ turned identity.z ∙ to.2)) shift

-- the same of the maps: after the step to where the child lies flat, the hinge is the step of the design
pub hinge-after_flat : (p : PartData) → IsPart p → (q tau : ℤ) (b : ℕ) → 0 < b → b < length p.faces → is_too_small (core p.faces q b) ≡ false
    → after (hinge (q -ℤ tau) (bend_line p.faces q b)) (after (flat p.faces q (joint_of p.faces b).on) (flat_step p.faces q b)) ≡ after (flat p.faces q (joint_of p.faces b).on) (design_step p.faces tau b)
hinge-after_flat p part q tau b some inside fits =
    let on : (joint_of p.faces b).on < b = (joint_of_part p part).on b some inside in
    let m = flat p.faces q (joint_of p.faces b).on in
    let flat_parent = flat_is_flat p part q (joint_of p.faces b).on (omega arith) in
    let h = hinge (q -ℤ tau) (bend_line p.faces q b) in
    same_by_points _ _ (λ v.
    mapped-after h (after m (flat_step p.faces q b)) v
    ∙ ap (mapped h) (mapped-after m (flat_step p.faces q b) v)
    ∙ hinged_point p.faces q tau b flat_parent fits v
    ∙ sym (mapped-after m (design_step p.faces tau b) v))
