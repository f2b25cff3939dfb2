-- The special points of a rectangle meet a bound exactly where those do that the code looks at, one by one.
use Rattle.std.proofs.Common.{◌≡◌, ◌⊎◌, inl, inr, ℤ, pos, ◌-ℤ◌, ◌*ℤ◌, neg_ℤ, ◌≤ℤ◌, ◌<ℤ◌, arith, [], ◌∷◌, ap, sym, ◌∙◌, refl}
use Rattle.algebra.proofs.Order.{signs, nonneg-mul, nonneg_by_factor, nonneg_as, positive-nonneg, le_from, le_to, le_of_same, le_of_lt}
use Rattle.algebra.proofs.Ring.{ring, var, whole, ◌⊕◌, ◌⊖◌, ◌⊗◌, minus}
use Rattle.brake_base.specs.declared.plane.Rect.{Rect}
use Rattle.sector_geom.specs.declared.sector.Sector.{Sector}
use Rattle.sector_geom.specs.declared.special_points.Bound.{Bound}
use Rattle.sector_geom.specs.declared.special_points.Bound.TheVariants.{AtMost, AtLeast}
use Rattle.sector_geom.specs.Plane.{Point, cross_of, norm_of, numerators, Holds, HasInterior}
use Rattle.sector_geom.specs.Clear.{IsInWedge, IsOnRay, IsOnSide, IsOnLevel}
use Rattle.sector_geom.specs.Clear.IsSpecial.{corner, lower_side, upper_side, lower_level, upper_level, foot_on_side, foot_on_level, origin}
use Rattle.sector_geom.specs.SpecialPoints.{IsBoundMet, PointMeetsBound, PointsAreMet, CrossingsAreMet, AllMeet}
use Rattle.sector_geom.proofs.Turns.{over}
use Rattle.sector_geom.proofs.Crossings.{IsBoundMet-scaled}

one : pos 0 <ℤ pos 1
one = omega (arith, signs)

times_one : (a : ℤ) → a ≡ a *ℤ pos 1
times_one a = ring (a ∷ []) (var 0) (var 0 ⊗ whole (pos 1)) tt

-- A point with whole coordinates, times d, lies in the wedge: so does the point.
in_wedge : (l u p : Point) (y z d : ℤ) → pos 0 <ℤ d → p.0 ≡ y *ℤ d → p.1 ≡ z *ℤ d → IsInWedge l u p → IsInWedge l u (y, z)
in_wedge l u p y z d pd ey ez w = record {
  after_lower = nonneg_by_factor pd (nonneg_as (scaled l) (w.after_lower));
  before_upper = le_from (nonneg_by_factor pd (nonneg_as (minus_scaled u) (le_to w.before_upper)));
}
  where
    scaled : (l : Point) → d *ℤ cross_of l (y, z) ≡ cross_of l p
    scaled l =
        ring (d ∷ l.0 ∷ l.1 ∷ y ∷ z ∷ []) (var 0 ⊗ (var 1 ⊗ var 4 ⊖ var 2 ⊗ var 3)) (var 1 ⊗ (var 4 ⊗ var 0) ⊖ var 2 ⊗ (var 3 ⊗ var 0)) tt
        ∙ ap (λ x. l.0 *ℤ x -ℤ l.1 *ℤ (y *ℤ d)) (sym ez) ∙ ap (λ x. l.0 *ℤ p.1 -ℤ l.1 *ℤ x) (sym ey)

    minus_scaled : (u : Point) → d *ℤ (pos 0 -ℤ cross_of u (y, z)) ≡ pos 0 -ℤ cross_of u p
    minus_scaled u =
        ring (d ∷ u.0 ∷ u.1 ∷ y ∷ z ∷ []) (var 0 ⊗ (whole (pos 0) ⊖ (var 1 ⊗ var 4 ⊖ var 2 ⊗ var 3))) (whole (pos 0) ⊖ (var 1 ⊗ (var 4 ⊗ var 0) ⊖ var 2 ⊗ (var 3 ⊗ var 0))) tt
        ∙ ap (λ x. pos 0 -ℤ (u.0 *ℤ x -ℤ u.1 *ℤ (y *ℤ d))) (sym ez) ∙ ap (λ x. pos 0 -ℤ (u.0 *ℤ p.1 -ℤ u.1 *ℤ x)) (sym ey)

-- It meets the bound where the point does.
point_met : (s : Sector) (bound : Bound) (p : Point) (y z d : ℤ) → pos 0 <ℤ d → p.0 ≡ y *ℤ d → p.1 ≡ z *ℤ d → PointMeetsBound s bound (y, z) → IsInWedge s.lower s.upper p → IsBoundMet bound p d
point_met s bound p y z d pd ey ez met w =
    IsBoundMet-scaled bound p (y, z) d (pos 1) one (sym (times_one p.0) ∙ ey) (sym (times_one p.1) ∙ ez) (met (in_wedge s.lower s.upper p y z d pd ey ez w))

-- y and z in each other's place.
abbrev swap : Point → Point
swap p = (p.1, p.0)

IsOnRay-swap : (ray p : Point) → IsOnRay ray p → IsOnRay (swap ray) (swap p)
IsOnRay-swap ray p h = record {
  along = ring (ray.0 ∷ ray.1 ∷ p.0 ∷ p.1 ∷ []) (var 1 ⊗ var 2 ⊖ var 0 ⊗ var 3) (minus (var 0 ⊗ var 3 ⊖ var 1 ⊗ var 2)) tt ∙ ap neg_ℤ h.along;
  forward = nonneg_as (ring (ray.0 ∷ ray.1 ∷ p.0 ∷ p.1 ∷ []) (var 1 ⊗ var 3 ⊕ var 0 ⊗ var 2) (var 0 ⊗ var 2 ⊕ var 1 ⊗ var 3) tt) h.forward;
}

norm-swap : (p : Point) → norm_of (swap p) ≡ norm_of p
norm-swap p = ring (p.0 ∷ p.1 ∷ []) (var 1 ⊗ var 1 ⊕ var 0 ⊗ var 0) (var 0 ⊗ var 0 ⊕ var 1 ⊗ var 1) tt

IsBoundMet-swap : (bound : Bound) (p : Point) (d : ℤ) → IsBoundMet bound (swap p) d → IsBoundMet bound p d
IsBoundMet-swap (AtMost n) p d h = rw (norm-swap p) at h
IsBoundMet-swap (AtLeast n) p d h = rw (norm-swap p) at h

-- A side or a level that holds a point below or above 0 does so itself.
below : (a d x : ℤ) → pos 0 <ℤ d → x ≡ pos 0 → (a *ℤ d) ≤ℤ x → a ≤ℤ pos 0
below a d x pd e h = le_from (nonneg_by_factor pd (nonneg_as (ring (a ∷ d ∷ []) (var 1 ⊗ (whole (pos 0) ⊖ var 0)) (whole (pos 0) ⊖ var 0 ⊗ var 1) tt) (omega (arith, signs))))

above : (a d x : ℤ) → pos 0 <ℤ d → x ≡ pos 0 → x ≤ℤ (a *ℤ d) → pos 0 ≤ℤ a
above a d x pd e h = nonneg_by_factor pd (nonneg_as (ring (a ∷ d ∷ []) (var 1 ⊗ var 0) (var 0 ⊗ var 1) tt) (omega (arith, signs)))

no_multiple : (x d : ℤ) → x ≡ pos 0 → x ≡ pos 0 *ℤ d
no_multiple x d e = e ∙ ring (d ∷ []) (whole (pos 0)) (whole (pos 0) ⊗ var 0) tt

origin_in_wedge : (l u p : Point) → p.0 ≡ pos 0 → p.1 ≡ pos 0 → IsInWedge l u p
origin_in_wedge l u p y z = record { after_lower = le_of_same (sym (zero l)); before_upper = le_of_same (zero u) }
  where
    zero : (l : Point) → cross_of l p ≡ pos 0
    zero l = ap (λ x. l.0 *ℤ x -ℤ l.1 *ℤ p.0) z ∙ ap (λ x. l.0 *ℤ pos 0 -ℤ l.1 *ℤ x) y ∙ ring (l.0 ∷ l.1 ∷ []) (var 0 ⊗ whole (pos 0) ⊖ var 1 ⊗ whole (pos 0)) (whole (pos 0)) tt

-- From the points that are looked at to all special points.
pub all_meet_in : (s : Sector) (r : Rect) (bound : Bound) → PointsAreMet s r bound → CrossingsAreMet s r bound → AllMeet s.lower s.upper r bound
all_meet_in s r bound m x p h (corner side level w) = at_corner side level
  where
    at_corner : IsOnSide r p → IsOnLevel r p → IsBoundMet bound (numerators p) p.d
    at_corner (inl y) (inl z) = point_met s bound (numerators p) r.y0 r.z0 p.d h.positive y z m.0.0.0 w
    at_corner (inl y) (inr z) = point_met s bound (numerators p) r.y0 r.z1 p.d h.positive y z m.0.0.1 w
    at_corner (inr y) (inl z) = point_met s bound (numerators p) r.y1 r.z0 p.d h.positive y z m.0.1.0 w
    at_corner (inr y) (inr z) = point_met s bound (numerators p) r.y1 r.z1 p.d h.positive y z m.0.1.1 w
all_meet_in s r bound m x p h (lower_side (inl y) on across) = x.0.0.0 (numerators p) p.d h.positive y h.low h.high on across
all_meet_in s r bound m x p h (lower_side (inr y) on across) = x.0.0.1 (numerators p) p.d h.positive y h.low h.high on across
all_meet_in s r bound m x p h (upper_side (inl y) on across) = x.1.0.0 (numerators p) p.d h.positive y h.low h.high on across
all_meet_in s r bound m x p h (upper_side (inr y) on across) = x.1.0.1 (numerators p) p.d h.positive y h.low h.high on across
all_meet_in s r bound m x p h (lower_level (inl z) on across) = IsBoundMet-swap bound (numerators p) p.d (x.0.1.0 (p.z, p.y) p.d h.positive z h.left h.right (IsOnRay-swap s.lower (numerators p) on) across)
all_meet_in s r bound m x p h (lower_level (inr z) on across) = IsBoundMet-swap bound (numerators p) p.d (x.0.1.1 (p.z, p.y) p.d h.positive z h.left h.right (IsOnRay-swap s.lower (numerators p) on) across)
all_meet_in s r bound m x p h (upper_level (inl z) on across) = IsBoundMet-swap bound (numerators p) p.d (x.1.1.0 (p.z, p.y) p.d h.positive z h.left h.right (IsOnRay-swap s.upper (numerators p) on) across)
all_meet_in s r bound m x p h (upper_level (inr z) on across) = IsBoundMet-swap bound (numerators p) p.d (x.1.1.1 (p.z, p.y) p.d h.positive z h.left h.right (IsOnRay-swap s.upper (numerators p) on) across)
all_meet_in s r bound m x p h (foot_on_side (inl y) z w) =
    point_met s bound (numerators p) r.y0 (pos 0) p.d h.positive y (no_multiple p.z p.d z) (m.1.0.1 (below r.z0 p.d p.z h.positive z h.low) (above r.z1 p.d p.z h.positive z h.high)).0 w
all_meet_in s r bound m x p h (foot_on_side (inr y) z w) =
    point_met s bound (numerators p) r.y1 (pos 0) p.d h.positive y (no_multiple p.z p.d z) (m.1.0.1 (below r.z0 p.d p.z h.positive z h.low) (above r.z1 p.d p.z h.positive z h.high)).1 w
all_meet_in s r bound m x p h (foot_on_level (inl z) y w) =
    point_met s bound (numerators p) (pos 0) r.z0 p.d h.positive (no_multiple p.y p.d y) z (m.1.0.0 (below r.y0 p.d p.y h.positive y h.left) (above r.y1 p.d p.y h.positive y h.right)).0 w
all_meet_in s r bound m x p h (foot_on_level (inr z) y w) =
    point_met s bound (numerators p) (pos 0) r.z1 p.d h.positive (no_multiple p.y p.d y) z (m.1.0.0 (below r.y0 p.d p.y h.positive y h.left) (above r.y1 p.d p.y h.positive y h.right)).1 w
all_meet_in s r bound m x p h (origin y z) =
    point_met s bound (numerators p) (pos 0) (pos 0) p.d h.positive (no_multiple p.y p.d y) (no_multiple p.z p.d z)
    (m.1.1 (below r.y0 p.d p.y h.positive y h.left) (above r.y1 p.d p.y h.positive y h.right) (below r.z0 p.d p.z h.positive z h.low) (above r.z1 p.d p.z h.positive z h.high))
    (origin_in_wedge s.lower s.upper (numerators p) y z)

-- The rectangle holds a point with whole coordinates between its own.
holds : (r : Rect) (y z : ℤ) → r.y0 ≤ℤ y → y ≤ℤ r.y1 → r.z0 ≤ℤ z → z ≤ℤ r.z1 → Holds r (over (y, z) (pos 1))
holds r y z a b c d = record {
  positive = one;
  left = omega (arith, signs, a, times_one r.y0);
  right = omega (arith, signs, b, times_one r.y1);
  low = omega (arith, signs, c, times_one r.z0);
  high = omega (arith, signs, d, times_one r.z1);
}

same : (a : ℤ) → a ≤ℤ a
same a = le_of_same refl

-- The corners, the feet and the origin are special points.
pub points_met : (s : Sector) (r : Rect) (bound : Bound) → HasInterior r → AllMeet s.lower s.upper r bound → PointsAreMet s r bound
points_met s r bound i all = (
  ((at_corner r.y0 r.z0 (inl refl) (inl refl), at_corner r.y0 r.z1 (inl refl) (inr refl)), (at_corner r.y1 r.z0 (inr refl) (inl refl), at_corner r.y1 r.z1 (inr refl) (inr refl))),
  ((λ a b. (on_level r.z0 (inl refl) a b, on_level r.z1 (inr refl) a b), λ a b. (on_side r.y0 (inl refl) a b, on_side r.y1 (inr refl) a b)), λ a b c d w. all (over (pos 0, pos 0) (pos 1)) (holds r (pos 0) (pos 0) a b c d) (origin refl refl)),
)
  where
    wide : r.y0 ≤ℤ r.y1
    wide = le_of_lt i.wide

    high : r.z0 ≤ℤ r.z1
    high = le_of_lt i.high

    in_y : (y : ℤ) → (y ≡ r.y0) ⊎ (y ≡ r.y1) → (r.y0 ≤ℤ y) × (y ≤ℤ r.y1)
    in_y y (inl e) = (omega (arith, signs), omega (arith, signs, wide))
    in_y y (inr e) = (omega (arith, signs, wide), omega (arith, signs))

    in_z : (z : ℤ) → (z ≡ r.z0) ⊎ (z ≡ r.z1) → (r.z0 ≤ℤ z) × (z ≤ℤ r.z1)
    in_z z (inl e) = (omega (arith, signs), omega (arith, signs, high))
    in_z z (inr e) = (omega (arith, signs, high), omega (arith, signs))

    side : (y z : ℤ) → (y ≡ r.y0) ⊎ (y ≡ r.y1) → IsOnSide r (over (y, z) (pos 1))
    side y z (inl e) = inl (e ∙ times_one r.y0)
    side y z (inr e) = inr (e ∙ times_one r.y1)

    level : (y z : ℤ) → (z ≡ r.z0) ⊎ (z ≡ r.z1) → IsOnLevel r (over (y, z) (pos 1))
    level y z (inl e) = inl (e ∙ times_one r.z0)
    level y z (inr e) = inr (e ∙ times_one r.z1)

    at_corner : (y z : ℤ) → (y ≡ r.y0) ⊎ (y ≡ r.y1) → (z ≡ r.z0) ⊎ (z ≡ r.z1) → PointMeetsBound s bound (y, z)
    at_corner y z ey ez w = all (over (y, z) (pos 1)) (holds r y z (in_y y ey).0 (in_y y ey).1 (in_z z ez).0 (in_z z ez).1) (corner (side y z ey) (level y z ez) w)

    on_level : (z : ℤ) → (z ≡ r.z0) ⊎ (z ≡ r.z1) → r.y0 ≤ℤ pos 0 → pos 0 ≤ℤ r.y1 → PointMeetsBound s bound (pos 0, z)
    on_level z ez a b w = all (over (pos 0, z) (pos 1)) (holds r (pos 0) z a b (in_z z ez).0 (in_z z ez).1) (foot_on_level (level (pos 0) z ez) refl w)

    on_side : (y : ℤ) → (y ≡ r.y0) ⊎ (y ≡ r.y1) → r.z0 ≤ℤ pos 0 → pos 0 ≤ℤ r.z1 → PointMeetsBound s bound (y, pos 0)
    on_side y ey a b w = all (over (y, pos 0) (pos 1)) (holds r y (pos 0) (in_y y ey).0 (in_y y ey).1 a b) (foot_on_side (side y (pos 0) ey) refl w)

-- An edge between two others.
between : (a low high d : ℤ) → pos 0 <ℤ d → low ≤ℤ a → a ≤ℤ high → ((low *ℤ d) ≤ℤ (a *ℤ d)) × ((a *ℤ d) ≤ℤ (high *ℤ d))
between a low high d pd l h = (
  le_from (nonneg_as (ring (a ∷ low ∷ d ∷ []) (var 0 ⊗ var 2 ⊖ var 1 ⊗ var 2) ((var 0 ⊖ var 1) ⊗ var 2) tt) (nonneg-mul (le_to l) (positive-nonneg pd))),
  le_from (nonneg_as (ring (a ∷ high ∷ d ∷ []) (var 1 ⊗ var 2 ⊖ var 0 ⊗ var 2) ((var 1 ⊖ var 0) ⊗ var 2) tt) (nonneg-mul (le_to h) (positive-nonneg pd))),
)

held_on_side : (r : Rect) (p : Point) (d y : ℤ) → pos 0 <ℤ d → r.y0 ≤ℤ y → y ≤ℤ r.y1 → p.0 ≡ y *ℤ d → (r.z0 *ℤ d) ≤ℤ p.1 → p.1 ≤ℤ (r.z1 *ℤ d) → Holds r (over p d)
held_on_side r p d y pd a b e l h =
    let o = between y r.y0 r.y1 d pd a b in
    record { positive = pd; left = omega (arith, signs, o.0); right = omega (arith, signs, o.1); low = l; high = h }

held_on_level : (r : Rect) (p : Point) (d z : ℤ) → pos 0 <ℤ d → r.z0 ≤ℤ z → z ≤ℤ r.z1 → p.1 ≡ z *ℤ d → (r.y0 *ℤ d) ≤ℤ p.0 → p.0 ≤ℤ (r.y1 *ℤ d) → Holds r (over p d)
held_on_level r p d z pd a b e l h =
    let o = between z r.z0 r.z1 d pd a b in
    record { positive = pd; left = l; right = h; low = omega (arith, signs, o.0); high = omega (arith, signs, o.1) }

-- The crossings are special points.
pub crossings_met : (s : Sector) (r : Rect) (bound : Bound) → HasInterior r → AllMeet s.lower s.upper r bound → CrossingsAreMet s r bound
crossings_met s r bound i all = (
  (
    (
      λ p d pd e l h on across. all (over p d) (held_on_side r p d r.y0 pd (same r.y0) wide e l h) (lower_side (inl e) on across),
      λ p d pd e l h on across. all (over p d) (held_on_side r p d r.y1 pd wide (same r.y1) e l h) (lower_side (inr e) on across),
    ),
    (
      λ p d pd e l h on across. IsBoundMet-swap bound p d (all (over (swap p) d) (held_on_level r (swap p) d r.z0 pd (same r.z0) high e l h) (lower_level (inl e) (IsOnRay-swap (swap s.lower) p on) across)),
      λ p d pd e l h on across. IsBoundMet-swap bound p d (all (over (swap p) d) (held_on_level r (swap p) d r.z1 pd high (same r.z1) e l h) (lower_level (inr e) (IsOnRay-swap (swap s.lower) p on) across)),
    ),
  ),
  (
    (
      λ p d pd e l h on across. all (over p d) (held_on_side r p d r.y0 pd (same r.y0) wide e l h) (upper_side (inl e) on across),
      λ p d pd e l h on across. all (over p d) (held_on_side r p d r.y1 pd wide (same r.y1) e l h) (upper_side (inr e) on across),
    ),
    (
      λ p d pd e l h on across. IsBoundMet-swap bound p d (all (over (swap p) d) (held_on_level r (swap p) d r.z0 pd (same r.z0) high e l h) (upper_level (inl e) (IsOnRay-swap (swap s.upper) p on) across)),
      λ p d pd e l h on across. IsBoundMet-swap bound p d (all (over (swap p) d) (held_on_level r (swap p) d r.z1 pd high (same r.z1) e l h) (upper_level (inr e) (IsOnRay-swap (swap s.upper) p on) across)),
    ),
  ),
)
  where
    wide : r.y0 ≤ℤ r.y1
    wide = le_of_lt i.wide

    high : r.z0 ≤ℤ r.z1
    high = le_of_lt i.high
