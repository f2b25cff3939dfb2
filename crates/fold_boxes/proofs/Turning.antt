-- Boxes and points under a turn and a shift, after another map.
use Rattle.std.proofs.Common.{◌≡◌, inl, inr, ℕ, ◌≤◌, ℤ, ◌+ℤ◌, ◌*ℤ◌, unsigned_abs, sym, ◌∙◌, arith}
use Rattle.std.proofs.lemmas.Int.{ints, clamps}
use Rattle.std.specs.Int.{int_min, int_max}
use Rattle.brake_base.specs.declared.space.V3.{V3}
use Rattle.brake_base.specs.declared.space.Box3.{Box3}
use Rattle.brake_base.specs.Vectors.{vector, least, greatest, IsWithin}
use Rattle.brake_base.specs.Turns.{Map, IsTurn, apply, mapped, after}
use Rattle.brake_base.specs.Boxes.{box_of, image, IsBoxWithin}
use Rattle.brake_base.proofs.Vectors.{same_point, same_box}
use Rattle.brake_base.proofs.Maps.{mapped-after}
use Rattle.brake_base.proofs.Images.{Axis, along_x, along_y, along_z, axis}
use Rattle.fold_boxes.specs.Posing.{IsNearShift, IsNearCorner}

-- a sum of three products with a row's entries
abbrev along_row : ℤ → ℤ → ℤ → V3 → ℤ
along_row a b c v = (v.x *ℤ a +ℤ v.y *ℤ b) +ℤ v.z *ℤ c

-- its lesser value at the ends of the least box that holds two points is that at the points
lesser : (a b c s : ℤ) (u v : V3) → Axis a b c
    → int_min (along_row a b c (least u v) +ℤ s) (along_row a b c (greatest u v) +ℤ s) ≡ int_min (along_row a b c u +ℤ s) (along_row a b c v +ℤ s)
lesser a b c s u v (along_x (inl e) f g) = rw (e, f, g) (omega (arith, ints, clamps))
lesser a b c s u v (along_x (inr e) f g) = rw (e, f, g) (omega (arith, ints, clamps))
lesser a b c s u v (along_y e (inl f) g) = rw (e, f, g) (omega (arith, ints, clamps))
lesser a b c s u v (along_y e (inr f) g) = rw (e, f, g) (omega (arith, ints, clamps))
lesser a b c s u v (along_z e f (inl g)) = rw (e, f, g) (omega (arith, ints, clamps))
lesser a b c s u v (along_z e f (inr g)) = rw (e, f, g) (omega (arith, ints, clamps))

greater : (a b c s : ℤ) (u v : V3) → Axis a b c
    → int_max (along_row a b c (least u v) +ℤ s) (along_row a b c (greatest u v) +ℤ s) ≡ int_max (along_row a b c u +ℤ s) (along_row a b c v +ℤ s)
greater a b c s u v (along_x (inl e) f g) = rw (e, f, g) (omega (arith, ints, clamps))
greater a b c s u v (along_x (inr e) f g) = rw (e, f, g) (omega (arith, ints, clamps))
greater a b c s u v (along_y e (inl f) g) = rw (e, f, g) (omega (arith, ints, clamps))
greater a b c s u v (along_y e (inr f) g) = rw (e, f, g) (omega (arith, ints, clamps))
greater a b c s u v (along_z e f (inl g)) = rw (e, f, g) (omega (arith, ints, clamps))
greater a b c s u v (along_z e f (inr g)) = rw (e, f, g) (omega (arith, ints, clamps))

-- the least box around the images of two points is that around the images of their least box's ends
ends : (m : Map) (u v : V3) → IsTurn m.turn → box_of (mapped m (least u v)) (mapped m (greatest u v)) ≡ box_of (mapped m u) (mapped m v)
unfolding mapped apply
ends m u v turn =
    let t = m.turn in
    let s = m.shift in
    let x = axis t.x.x t.y.x t.z.x turn.x_row in
    let y = axis t.x.y t.y.y t.z.y turn.y_row in
    let z = axis t.x.z t.y.z t.z.z turn.z_row in
    same_box _ _
    (same_point _ _ (lesser t.x.x t.y.x t.z.x s.x u v x) (lesser t.x.y t.y.y t.z.y s.y u v y) (lesser t.x.z t.y.z t.z.z s.z u v z))
    (same_point _ _ (greater t.x.x t.y.x t.z.x s.x u v x) (greater t.x.y t.y.y t.z.y s.y u v y) (greater t.x.z t.y.z t.z.z s.z u v z))

-- the image of an image is the image under one map after the other
pub image_after : (f g : Map) (b : Box3) → IsTurn f.turn → image f (image g b) ≡ image (after f g) b
unfolding image
image_after f g b turn =
    ends f (mapped g b.lo) (mapped g b.hi) turn ∙ (λ i. box_of (sym (mapped-after f g b.lo) i) (sym (mapped-after f g b.hi) i))

pub row_within : (a b c : ℤ) (n : ℕ) (v : V3) → Axis a b c → IsWithin n v → unsigned_abs (along_row a b c v) ≤ n
row_within a b c n v (along_x (inl e) f g) h = rw (e, f, g) (omega (arith, ints, h.x))
row_within a b c n v (along_x (inr e) f g) h = rw (e, f, g) (omega (arith, ints, h.x))
row_within a b c n v (along_y e (inl f) g) h = rw (e, f, g) (omega (arith, ints, h.y))
row_within a b c n v (along_y e (inr f) g) h = rw (e, f, g) (omega (arith, ints, h.y))
row_within a b c n v (along_z e f (inl g)) h = rw (e, f, g) (omega (arith, ints, h.z))
row_within a b c n v (along_z e f (inr g)) h = rw (e, f, g) (omega (arith, ints, h.z))

near_point : (m : Map) (v : V3) → IsTurn m.turn → IsNearShift m.shift → IsWithin 300000000 v → IsNearCorner (mapped m v)
unfolding mapped apply
near_point m v turn near within =
    let t = m.turn in
    let x = row_within t.x.x t.y.x t.z.x 300000000 v (axis t.x.x t.y.x t.z.x turn.x_row) within in
    let y = row_within t.x.y t.y.y t.z.y 300000000 v (axis t.x.y t.y.y t.z.y turn.y_row) within in
    let z = row_within t.x.z t.y.z t.z.z 300000000 v (axis t.x.z t.y.z t.z.z turn.z_row) within in
    near_sum (along_row t.x.x t.y.x t.z.x v) (along_row t.x.y t.y.y t.z.y v) (along_row t.x.z t.y.z t.z.z v) m.shift x y z near
  where
    near_sum : (a b c : ℤ) (s : V3) → unsigned_abs a ≤ 300000000 → unsigned_abs b ≤ 300000000 → unsigned_abs c ≤ 300000000 → IsNearShift s → IsNearCorner (vector (a +ℤ s.x) (b +ℤ s.y) (c +ℤ s.z))
    near_sum a b c s x y z near = record { x = omega (arith, ints, x, near.x); y = omega (arith, ints, y, near.y); z = omega (arith, ints, z, near.z) }

near_least : (u v : V3) → IsNearCorner u → IsNearCorner v → IsNearCorner (least u v)
near_least u v p q = record { x = omega (arith, ints, clamps, p.x, q.x); y = omega (arith, ints, clamps, p.y, q.y); z = omega (arith, ints, clamps, p.z, q.z) }

near_greatest : (u v : V3) → IsNearCorner u → IsNearCorner v → IsNearCorner (greatest u v)
near_greatest u v p q = record { x = omega (arith, ints, clamps, p.x, q.x); y = omega (arith, ints, clamps, p.y, q.y); z = omega (arith, ints, clamps, p.z, q.z) }

-- a box of the part is near under the map of a pose
pub near_image : (m : Map) (b : Box3) → IsTurn m.turn → IsNearShift m.shift → IsBoxWithin 300000000 b → IsNearCorner (image m b).lo × IsNearCorner (image m b).hi
unfolding image
near_image m b turn near within =
    let lo = near_point m b.lo turn near within.lo in
    let hi = near_point m b.hi turn near within.hi in
    (near_least _ _ lo hi, near_greatest _ _ lo hi)
