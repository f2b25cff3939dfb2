-- Where the flanges of a side lie in the flat blank.
use Rattle.std.proofs.Common.{◌≡◌, ℤ, pos, neg_ℤ, ◌+ℤ◌, ◌-ℤ◌, ◌*ℤ◌, ◌≤ℤ◌, ap, ◌∙◌, arith}
use Rattle.std.specs.Int.{int_min, int_max}
use Rattle.std.proofs.lemmas.Int.{ints, clamps}
use Rattle.brake_base.specs.Vectors.{vector}
use Rattle.brake_base.specs.Turns.{Map, apply, multiply, mapped, after, stay}
use Rattle.brake_base.proofs.Vectors.{same_point}
use Rattle.brake_base.proofs.Maps.{mapped-after, mapped-stay, stay-after}
use Rattle.part_file.specs.declared.part.Side.{Side}
use Rattle.part_file.specs.declared.part.Side.TheVariants.{N, E, S, W}
use Rattle.part_file.specs.Part.{FaceData, side_length}
use Rattle.unfolder.specs.declared.blank.FlatRect.{FlatRect}
use Rattle.unfolder.specs.Cores.{side_point}
use Rattle.unfolder.specs.Blank.{side_matrix, flat_image}
use Rattle.part_gen.proofs.Sides.{but_north, but_east, but_south, but_west}
use Rattle.part_gen.proofs.Rectangles.{inner, outer, IsOnSide}

-- the step to the frame of a face that stands so far along a side of its parent
abbrev pub step_on : Side → FaceData → ℤ → ℤ → Map
step_on side parent at q = record { turn = side_matrix side; shift = side_point side parent at (pos 2 *ℤ q) }

-- where face 0's core ends at a side, outwards
abbrev pub edge_of : FaceData → ℤ → Side → ℤ
edge_of root q N = root.length -ℤ q
edge_of root q E = root.width -ℤ q
edge_of root q S = neg_ℤ q
edge_of root q W = neg_ℤ q

-- a rectangle of the frame of a side, as wide as its flanges, from one distance to another
abbrev pub strip : ℤ → ℤ → ℤ → FlatRect
strip width from to = record { x0 = pos 0; x1 = width -ℤ pos 0; y0 = from; y1 = to }

-- where a rectangle of the frame of a side lies in the blank
abbrev pub strip_image : Side → FaceData → ℤ → ℤ → ℤ → ℤ → FlatRect
strip_image side root q width from to = flat_image (step_on side root (pos 2000) q) (strip width from to)

-- such a rectangle lies on its side alone, and from and to its distances less q from the edge
pub record IsStrip (root : FaceData) (q : ℤ) (side : Side) (from to : ℤ) (r : FlatRect) : Type 0 where
  pub on_side : IsOnSide (edge_of root q) side r
  pub begins : inner side r ≡ (edge_of root q side -ℤ q) +ℤ from
  pub ends : outer side r ≡ (edge_of root q side -ℤ q) +ℤ to

-- how large face 0 and the half deduction are
pub record AreSizes (root : FaceData) (q : ℤ) : Type 0 where
  pub q_low : pos 1 ≤ℤ q
  pub q_high : q ≤ℤ pos 2000
  pub wide : pos 80000 ≤ℤ root.width
  pub long : pos 80000 ≤ℤ root.length

pub strip_is : (side : Side) (root : FaceData) (q from to : ℤ) → AreSizes root q → q ≤ℤ from → from ≤ℤ to → IsStrip root q side from to (strip_image side root q (side_length side root -ℤ pos 4000) from to)
unfolding mapped apply multiply
strip_is N root q from to sizes low order = record {
  on_side = record {
    beyond = omega (arith, ints, clamps);
    aside = but_north (λ side. outer side (strip_image N root q (root.width -ℤ pos 4000) from to) ≤ℤ edge_of root q side) (omega (arith, ints, clamps)) (omega (arith, ints, clamps)) (omega (arith, ints, clamps));
  };
  begins = omega (arith, ints, clamps);
  ends = omega (arith, ints, clamps);
}
strip_is E root q from to sizes low order = record {
  on_side = record {
    beyond = omega (arith, ints, clamps);
    aside = but_east (λ side. outer side (strip_image E root q (root.length -ℤ pos 4000) from to) ≤ℤ edge_of root q side) (omega (arith, ints, clamps)) (omega (arith, ints, clamps)) (omega (arith, ints, clamps));
  };
  begins = omega (arith, ints, clamps);
  ends = omega (arith, ints, clamps);
}
strip_is S root q from to sizes low order = record {
  on_side = record {
    beyond = omega (arith, ints, clamps);
    aside = but_south (λ side. outer side (strip_image S root q (root.width -ℤ pos 4000) from to) ≤ℤ edge_of root q side) (omega (arith, ints, clamps)) (omega (arith, ints, clamps)) (omega (arith, ints, clamps));
  };
  begins = omega (arith, ints, clamps);
  ends = omega (arith, ints, clamps);
}
strip_is W root q from to sizes low order = record {
  on_side = record {
    beyond = omega (arith, ints, clamps);
    aside = but_west (λ side. outer side (strip_image W root q (root.length -ℤ pos 4000) from to) ≤ℤ edge_of root q side) (omega (arith, ints, clamps)) (omega (arith, ints, clamps)) (omega (arith, ints, clamps));
  };
  begins = omega (arith, ints, clamps);
  ends = omega (arith, ints, clamps);
}

-- a face that stands at 0 along the far side of a first flange lies in the frame of its side too, further out
shifted : (parent : FaceData) (q x y : ℤ) → mapped (step_on N parent (pos 0) q) (vector x y (pos 0)) ≡ vector x (y +ℤ (parent.length -ℤ (pos 2 *ℤ q))) (pos 0)
unfolding mapped apply multiply
shifted parent q x y = same_point _ _ (omega (arith, ints)) (omega (arith, ints)) (omega (arith, ints))

image_after : (m : Map) (parent : FaceData) (q width from to : ℤ)
    → flat_image (after m (step_on N parent (pos 0) q)) (strip width from to) ≡ flat_image m (strip width (from +ℤ (parent.length -ℤ (pos 2 *ℤ q))) (to +ℤ (parent.length -ℤ (pos 2 *ℤ q))))
image_after m parent q width from to =
    let step = step_on N parent (pos 0) q in
    let a : mapped (after m step) (vector (pos 0) from (pos 0)) ≡ mapped m (vector (pos 0) (from +ℤ (parent.length -ℤ (pos 2 *ℤ q))) (pos 0)) = mapped-after m step (vector (pos 0) from (pos 0)) ∙ ap (mapped m) (shifted parent q (pos 0) from) in
    let c : mapped (after m step) (vector (width -ℤ pos 0) to (pos 0)) ≡ mapped m (vector (width -ℤ pos 0) (to +ℤ (parent.length -ℤ (pos 2 *ℤ q))) (pos 0)) = mapped-after m step (vector (width -ℤ pos 0) to (pos 0)) ∙ ap (mapped m) (shifted parent q (width -ℤ pos 0) to) in
    λ i. record { x0 = int_min (a i).x (c i).x; x1 = int_max (a i).x (c i).x; y0 = int_min (a i).y (c i).y; y1 = int_max (a i).y (c i).y }

-- the images of a first and of a second flange, whose frames follow on from face 0's
pub first_image : (side : Side) (root : FaceData) (q width from to : ℤ) → flat_image (after stay (step_on side root (pos 2000) q)) (strip width from to) ≡ strip_image side root q width from to
first_image side root q width from to = ap (λ (m : Map). flat_image m (strip width from to)) (stay-after (step_on side root (pos 2000) q))

pub second_image : (side : Side) (root parent : FaceData) (q width from to : ℤ)
    → flat_image (after (after stay (step_on side root (pos 2000) q)) (step_on N parent (pos 0) q)) (strip width from to) ≡ strip_image side root q width (from +ℤ (parent.length -ℤ (pos 2 *ℤ q))) (to +ℤ (parent.length -ℤ (pos 2 *ℤ q)))
second_image side root parent q width from to =
    ap (λ (m : Map). flat_image (after m (step_on N parent (pos 0) q)) (strip width from to)) (stay-after (step_on side root (pos 2000) q))
    ∙ image_after (step_on side root (pos 2000) q) parent q width from to

-- a rectangle in face 0's own frame stays as it is
pub root_image : (r : FlatRect) → r.x0 ≤ℤ r.x1 → r.y0 ≤ℤ r.y1 → flat_image stay r ≡ r
root_image r wide long =
    let a : mapped stay (vector r.x0 r.y0 (pos 0)) ≡ vector r.x0 r.y0 (pos 0) = mapped-stay (vector r.x0 r.y0 (pos 0)) in
    let c : mapped stay (vector r.x1 r.y1 (pos 0)) ≡ vector r.x1 r.y1 (pos 0) = mapped-stay (vector r.x1 r.y1 (pos 0)) in
    let x0 : int_min r.x0 r.x1 ≡ r.x0 = omega (arith, ints, clamps) in
    let x1 : int_max r.x0 r.x1 ≡ r.x1 = omega (arith, ints, clamps) in
    let y0 : int_min r.y0 r.y1 ≡ r.y0 = omega (arith, ints, clamps) in
    let y1 : int_max r.y0 r.y1 ≡ r.y1 = omega (arith, ints, clamps) in
    (λ i. record { x0 = int_min (a i).x (c i).x; x1 = int_max (a i).x (c i).x; y0 = int_min (a i).y (c i).y; y1 = int_max (a i).y (c i).y })
    ∙ (λ i. record { x0 = x0 i; x1 = x1 i; y0 = y0 i; y1 = y1 i })
