-- The clear law doesn't change under a quarter turn, nor under the reflection, which swaps the rays.
use Rattle.std.proofs.Common.{◌≢◌, inl, inr, ℤ, pos, neg_ℤ, arith, [], ◌∷◌, ap, ◌∙◌}
use Rattle.algebra.proofs.Order.{signs, nonneg_as}
use Rattle.algebra.proofs.Laws.{neg_ℤ-*ℤ}
use Rattle.algebra.proofs.Ring.{ring, var, ◌⊕◌, ◌⊖◌, ◌⊗◌, minus}
use Rattle.brake_base.specs.declared.plane.Rect.{Rect}
use Rattle.sector_geom.specs.Plane.{Point, Holds, IsInside, numerators}
use Rattle.sector_geom.specs.Clear.{IsInWedge, IsOnSide, IsOnLevel, IsOnRay, IsSpecial, AllWithin, AllBeyond}
use Rattle.sector_geom.specs.Clear.IsSpecial.{corner, lower_side, upper_side, lower_level, upper_level, foot_on_side, foot_on_level, origin}
use Rattle.sector_geom.proofs.Wedge.{IsWedge}
use Rattle.sector_geom.proofs.Turns.{over, back, back_rect, forth, flip, flip_rect, cross-back, dot-back, cross-forth, dot-forth, norm-forth, cross-flip, dot-flip, norm-flip, cross_opposite}

-- ---- the reflection
pub IsWedge-flip : (l u : Point) → IsWedge l u → IsWedge (flip u) (flip l)
IsWedge-flip l u (inl h) = inl (rw (cross-flip l u) h)
IsWedge-flip l u (inr h) = inr (cross-flip l u ∙ h.0, rw (dot-flip l u) h.1)

pub IsInWedge-flip : (l u p : Point) → IsInWedge l u p → IsInWedge (flip u) (flip l) (flip p)
IsInWedge-flip l u p h = record {
  after_lower = rw (cross-flip p u) (omega (arith, signs, cross_opposite u p, h.before_upper));
  before_upper = rw (cross-flip p l) (omega (arith, signs, cross_opposite l p, h.after_lower));
}

pub IsInside-flip : (r : Rect) (p : Point) (d : ℤ) → IsInside r (over p d) → IsInside (flip_rect r) (over (flip p) d)
IsInside-flip r p d h = record {
  positive = h.positive;
  left = h.left;
  right = h.right;
  low = rw (neg_ℤ-*ℤ r.z1 d) (omega (arith, signs, h.high));
  high = rw (neg_ℤ-*ℤ r.z0 d) (omega (arith, signs, h.low));
}

Holds-flip_out : (r : Rect) (q : Point) (e : ℤ) → Holds (flip_rect r) (over q e) → Holds r (over (flip q) e)
Holds-flip_out r q e h = record {
  positive = h.positive;
  left = h.left;
  right = h.right;
  low = omega (arith, signs, neg_ℤ-*ℤ r.z0 e, h.high);
  high = omega (arith, signs, neg_ℤ-*ℤ r.z1 e, h.low);
}

level_out : (r : Rect) (q : Point) (e : ℤ) → IsOnLevel (flip_rect r) (over q e) → IsOnLevel r (over (flip q) e)
level_out r q e (inl h) = inr (omega (arith, signs, neg_ℤ-*ℤ r.z1 e))
level_out r q e (inr h) = inl (omega (arith, signs, neg_ℤ-*ℤ r.z0 e))

ray_out : (l q : Point) → IsOnRay (flip l) q → IsOnRay l (flip q)
ray_out l q h = record {
  along = ring (l.0 ∷ l.1 ∷ q.0 ∷ q.1 ∷ []) (var 0 ⊗ minus (var 3) ⊖ var 1 ⊗ var 2) (minus (var 0 ⊗ var 3 ⊖ minus (var 1) ⊗ var 2)) tt ∙ ap neg_ℤ h.along;
  forward = nonneg_as (ring (l.0 ∷ l.1 ∷ q.0 ∷ q.1 ∷ []) (var 0 ⊗ var 2 ⊕ var 1 ⊗ minus (var 3)) (var 0 ⊗ var 2 ⊕ minus (var 1) ⊗ var 3) tt) h.forward;
}

wedge_out : (l u q : Point) → IsInWedge (flip u) (flip l) q → IsInWedge l u (flip q)
wedge_out l u q h = record {
  after_lower = omega (arith, signs, ring (l.0 ∷ l.1 ∷ q.0 ∷ q.1 ∷ []) (var 0 ⊗ minus (var 3) ⊖ var 1 ⊗ var 2) (minus (var 0 ⊗ var 3 ⊖ minus (var 1) ⊗ var 2)) tt, h.before_upper);
  before_upper = omega (arith, signs, ring (u.0 ∷ u.1 ∷ q.0 ∷ q.1 ∷ []) (var 0 ⊗ minus (var 3) ⊖ var 1 ⊗ var 2) (minus (var 0 ⊗ var 3 ⊖ minus (var 1) ⊗ var 2)) tt, h.after_lower);
}

nonzero_out : (a : ℤ) → (neg_ℤ a ≢ pos 0) → a ≢ pos 0
nonzero_out a f e = f (ap neg_ℤ e)

IsSpecial-flip_out : (l u : Point) (r : Rect) (q : Point) (e : ℤ) → IsSpecial (flip u) (flip l) (flip_rect r) (over q e) → IsSpecial l u r (over (flip q) e)
IsSpecial-flip_out l u r q e (corner s t w) = corner s (level_out r q e t) (wedge_out l u q w)
IsSpecial-flip_out l u r q e (lower_side s o n) = upper_side s (ray_out u q o) n
IsSpecial-flip_out l u r q e (upper_side s o n) = lower_side s (ray_out l q o) n
IsSpecial-flip_out l u r q e (lower_level t o n) = upper_level (level_out r q e t) (ray_out u q o) (nonzero_out u.1 n)
IsSpecial-flip_out l u r q e (upper_level t o n) = lower_level (level_out r q e t) (ray_out l q o) (nonzero_out l.1 n)
IsSpecial-flip_out l u r q e (foot_on_side s z w) = foot_on_side s (ap neg_ℤ z) (wedge_out l u q w)
IsSpecial-flip_out l u r q e (foot_on_level t z w) = foot_on_level (level_out r q e t) z (wedge_out l u q w)
IsSpecial-flip_out l u r q e (origin y z) = origin y (ap neg_ℤ z)

pub AllWithin-flip : (l u : Point) (r : Rect) (n : ℤ) → AllWithin l u r n → AllWithin (flip u) (flip l) (flip_rect r) n
AllWithin-flip l u r n all q h t = rw norm-flip at (all (over (flip (numerators q)) q.d) (Holds-flip_out r (numerators q) q.d h) (IsSpecial-flip_out l u r (numerators q) q.d t))

pub AllBeyond-flip : (l u : Point) (r : Rect) (n : ℤ) → AllBeyond l u r n → AllBeyond (flip u) (flip l) (flip_rect r) n
AllBeyond-flip l u r n all q h t = rw norm-flip at (all (over (flip (numerators q)) q.d) (Holds-flip_out r (numerators q) q.d h) (IsSpecial-flip_out l u r (numerators q) q.d t))

-- ---- the quarter turn
pub IsWedge-back : (l u : Point) → IsWedge l u → IsWedge (back l) (back u)
IsWedge-back l u (inl h) = inl (rw (cross-back l u) h)
IsWedge-back l u (inr h) = inr (cross-back l u ∙ h.0, rw (dot-back l u) h.1)

pub IsInWedge-back : (l u p : Point) → IsInWedge l u p → IsInWedge (back l) (back u) (back p)
IsInWedge-back l u p h = record {
  after_lower = rw (cross-back l p) h.after_lower;
  before_upper = rw (cross-back u p) h.before_upper;
}

pub IsInside-back : (r : Rect) (p : Point) (d : ℤ) → IsInside r (over p d) → IsInside (back_rect r) (over (back p) d)
IsInside-back r p d h = record {
  positive = h.positive;
  left = h.low;
  right = h.high;
  low = rw (neg_ℤ-*ℤ r.y1 d) (omega (arith, signs, h.right));
  high = rw (neg_ℤ-*ℤ r.y0 d) (omega (arith, signs, h.left));
}

Holds-back_out : (r : Rect) (q : Point) (e : ℤ) → Holds (back_rect r) (over q e) → Holds r (over (forth q) e)
Holds-back_out r q e h = record {
  positive = h.positive;
  left = omega (arith, signs, neg_ℤ-*ℤ r.y0 e, h.high);
  right = omega (arith, signs, neg_ℤ-*ℤ r.y1 e, h.low);
  low = h.left;
  high = h.right;
}

side_out : (r : Rect) (q : Point) (e : ℤ) → IsOnLevel (back_rect r) (over q e) → IsOnSide r (over (forth q) e)
side_out r q e (inl h) = inr (omega (arith, signs, neg_ℤ-*ℤ r.y1 e))
side_out r q e (inr h) = inl (omega (arith, signs, neg_ℤ-*ℤ r.y0 e))

turned_ray : (l q : Point) → IsOnRay (back l) q → IsOnRay l (forth q)
turned_ray l q h = record { along = cross-forth l q ∙ h.along; forward = rw (dot-forth l q) h.forward }

turned_wedge : (l u q : Point) → IsInWedge (back l) (back u) q → IsInWedge l u (forth q)
turned_wedge l u q h = record { after_lower = rw (cross-forth l q) h.after_lower; before_upper = rw (cross-forth u q) h.before_upper }

IsSpecial-back_out : (l u : Point) (r : Rect) (q : Point) (e : ℤ) → IsSpecial (back l) (back u) (back_rect r) (over q e) → IsSpecial l u r (over (forth q) e)
IsSpecial-back_out l u r q e (corner s t w) = corner (side_out r q e t) s (turned_wedge l u q w)
IsSpecial-back_out l u r q e (lower_side s o n) = lower_level s (turned_ray l q o) n
IsSpecial-back_out l u r q e (upper_side s o n) = upper_level s (turned_ray u q o) n
IsSpecial-back_out l u r q e (lower_level t o n) = lower_side (side_out r q e t) (turned_ray l q o) (nonzero_out l.0 n)
IsSpecial-back_out l u r q e (upper_level t o n) = upper_side (side_out r q e t) (turned_ray u q o) (nonzero_out u.0 n)
IsSpecial-back_out l u r q e (foot_on_side s z w) = foot_on_level s (ap neg_ℤ z) (turned_wedge l u q w)
IsSpecial-back_out l u r q e (foot_on_level t y w) = foot_on_side (side_out r q e t) y (turned_wedge l u q w)
IsSpecial-back_out l u r q e (origin y z) = origin (ap neg_ℤ z) y

pub AllWithin-back : (l u : Point) (r : Rect) (n : ℤ) → AllWithin l u r n → AllWithin (back l) (back u) (back_rect r) n
AllWithin-back l u r n all q h t = rw norm-forth at (all (over (forth (numerators q)) q.d) (Holds-back_out r (numerators q) q.d h) (IsSpecial-back_out l u r (numerators q) q.d t))

pub AllBeyond-back : (l u : Point) (r : Rect) (n : ℤ) → AllBeyond l u r n → AllBeyond (back l) (back u) (back_rect r) n
AllBeyond-back l u r n all q h t = rw norm-forth at (all (over (forth (numerators q)) q.d) (Holds-back_out r (numerators q) q.d h) (IsSpecial-back_out l u r (numerators q) q.d t))
