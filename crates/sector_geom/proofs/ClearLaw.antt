-- The clear law.
use Rattle.std.proofs.Common.{◌≡◌, ◌⊎◌, inl, inr, ℤ, pos, ◌-ℤ◌, ◌*ℤ◌, neg_ℤ, ◌≤ℤ◌, ◌<ℤ◌, arith, [], ◌∷◌}
use Rattle.algebra.proofs.Order.{signs, nonneg-mul, positive-nonneg, nonneg_by_factor, nonneg_as, by_sign, le_to, lt_to}
use Rattle.algebra.proofs.Ring.{ring, var, whole, ◌⊕◌, ◌⊖◌, ◌⊗◌, minus}
use Rattle.brake_base.specs.declared.plane.Rect.{Rect}
use Rattle.sector_geom.specs.declared.sector.Sector.{Sector}
use Rattle.sector_geom.specs.Plane.{Point, IsInside, cross_of, numerators}
use Rattle.sector_geom.specs.Clear.{EachCorner, IsClear, IsApart}
use Rattle.sector_geom.proofs.Wedge.{IsSound}
use Rattle.sector_geom.proofs.Turns.{over, flip}
use Rattle.sector_geom.proofs.Symmetry.{IsWedge-flip}
use Rattle.sector_geom.proofs.OuterCase.{far, ray_off}
use Rattle.sector_geom.proofs.InnerCase.{near}

-- a corner (y, z) of the rectangle, farthest along the ray's left side, is behind it
behind : (a b y z : ℤ) (p : Point) (d : ℤ) → pos 0 <ℤ d → (a *ℤ z -ℤ b *ℤ y) ≤ℤ pos 0 → pos 0 ≤ℤ (a *ℤ p.1 -ℤ b *ℤ p.0)
    → pos 0 ≤ℤ (a *ℤ (z *ℤ d -ℤ p.1)) → pos 0 ≤ℤ (b *ℤ (p.0 -ℤ y *ℤ d)) → (pos 0 ≤ℤ neg_ℤ (a *ℤ (z *ℤ d -ℤ p.1))) × (pos 0 ≤ℤ neg_ℤ (b *ℤ (p.0 -ℤ y *ℤ d)))
behind a b y z p d pd out seen ha hb =
    let e = ring (a ∷ b ∷ y ∷ z ∷ p.0 ∷ p.1 ∷ d ∷ []) (var 6 ⊗ (whole (pos 0) ⊖ (var 0 ⊗ var 3 ⊖ var 1 ⊗ var 2)) ⊕ (var 0 ⊗ var 5 ⊖ var 1 ⊗ var 4) ⊕ (var 0 ⊗ (var 3 ⊗ var 6 ⊖ var 5) ⊕ var 1 ⊗ (var 4 ⊖ var 2 ⊗ var 6))) (whole (pos 0)) tt in
    let g = nonneg-mul (positive-nonneg pd) (le_to out) in
    (omega (arith, signs), omega (arith, signs))

zero_by : (a g : ℤ) → pos 0 <ℤ g → pos 0 ≤ℤ a → pos 0 ≤ℤ neg_ℤ (a *ℤ g) → a ≡ pos 0
zero_by a g pg pa h =
    let b : pos 0 ≤ℤ neg_ℤ a = nonneg_by_factor pg (nonneg_as (ring (a ∷ g ∷ []) (var 1 ⊗ minus (var 0)) (minus (var 0 ⊗ var 1)) tt) h) in
    omega (arith, signs)

zero_by_neg : (a g : ℤ) → pos 0 <ℤ g → a <ℤ pos 0 → pos 0 ≤ℤ neg_ℤ (a *ℤ neg_ℤ g) → ⊥
zero_by_neg a g pg na h =
    let b : pos 0 ≤ℤ a = nonneg_by_factor pg (nonneg_as (ring (a ∷ g ∷ []) (var 1 ⊗ var 0) (minus (var 0 ⊗ minus (var 1))) tt) h) in
    omega (arith, signs)

-- no point inside lies on the left of a ray that has all corners on its right
pub all_behind : (l : Point) (r : Rect) (p : Point) (d : ℤ) → ((l.0 ≡ pos 0) → (l.1 ≡ pos 0) → ⊥) → IsInside r (over p d) → EachCorner r (λ c. cross_of l c ≤ℤ pos 0) → pos 0 ≤ℤ cross_of l p → ⊥
all_behind l r p d off h out seen = cases (by_sign l.0) (by_sign l.1)
  where
    up : pos 0 <ℤ (r.z1 *ℤ d -ℤ p.1)
    up = lt_to h.high

    down : pos 0 <ℤ (p.1 -ℤ r.z0 *ℤ d)
    down = lt_to h.low

    right : pos 0 <ℤ (r.y1 *ℤ d -ℤ p.0)
    right = lt_to h.right

    left : pos 0 <ℤ (p.0 -ℤ r.y0 *ℤ d)
    left = lt_to h.left

    minus_both : (a x y : ℤ) → a <ℤ pos 0 → pos 0 <ℤ (y -ℤ x) → (pos 0 ≤ℤ (a *ℤ (x -ℤ y)))
    minus_both a x y na g = nonneg_as (ring (a ∷ x ∷ y ∷ []) (var 0 ⊗ (var 1 ⊖ var 2)) ((whole (pos 0) ⊖ var 0) ⊗ (var 2 ⊖ var 1)) tt) (nonneg-mul (positive-nonneg (lt_to na)) (positive-nonneg g))

    none : (a x y : ℤ) → a <ℤ pos 0 → pos 0 <ℤ (y -ℤ x) → (pos 0 ≤ℤ neg_ℤ (a *ℤ (x -ℤ y))) → ⊥
    none a x y na g h = zero_by_neg a (y -ℤ x) g na (nonneg_as (ring (a ∷ x ∷ y ∷ []) (minus (var 0 ⊗ minus (var 2 ⊖ var 1))) (minus (var 0 ⊗ (var 1 ⊖ var 2))) tt) h)

    cases : ((pos 0 ≤ℤ l.0) ⊎ (l.0 <ℤ pos 0)) → ((pos 0 ≤ℤ l.1) ⊎ (l.1 <ℤ pos 0)) → ⊥
    cases (inl a) (inl b) =
        let q = behind l.0 l.1 r.y0 r.z1 p d h.positive out.1 seen (nonneg-mul a (positive-nonneg up)) (nonneg-mul b (positive-nonneg left)) in
        off (zero_by l.0 _ up a q.0) (zero_by l.1 _ left b q.1)
    cases (inl a) (inr b) =
        let q = behind l.0 l.1 r.y1 r.z1 p d h.positive out.3 seen (nonneg-mul a (positive-nonneg up)) (minus_both l.1 p.0 (r.y1 *ℤ d) b right) in
        none l.1 p.0 (r.y1 *ℤ d) b right q.1
    cases (inr a) (inl b) =
        let q = behind l.0 l.1 r.y0 r.z0 p d h.positive out.0 seen (minus_both l.0 (r.z0 *ℤ d) p.1 a down) (nonneg-mul b (positive-nonneg left)) in
        none l.0 (r.z0 *ℤ d) p.1 a down q.0
    cases (inr a) (inr b) =
        let q = behind l.0 l.1 r.y1 r.z0 p d h.positive out.2 seen (minus_both l.0 (r.z0 *ℤ d) p.1 a down) (minus_both l.1 p.0 (r.y1 *ℤ d) b right) in
        none l.0 (r.z0 *ℤ d) p.1 a down q.0

cross-minus : (u c : Point) → cross_of (neg_ℤ u.0, neg_ℤ u.1) c ≡ neg_ℤ (cross_of u c)
cross-minus u c = ring (u.0 ∷ u.1 ∷ c.0 ∷ c.1 ∷ []) (minus (var 0) ⊗ var 3 ⊖ minus (var 1) ⊗ var 2) (minus (var 0 ⊗ var 3 ⊖ var 1 ⊗ var 2)) tt

-- The clear law, in each of the four cases.
pub clear_law : (s : Sector) (r : Rect) → IsSound s → IsClear s r → IsApart s r
clear_law s r o (inl out) p i h = all_behind s.lower r (numerators p) p.d (ray_off s.lower s.upper o.wedge) h out i.after_lower
clear_law s r o (inr (inl out)) p i h =
    let u = s.upper in
    let turn : (c : Point) → pos 0 ≤ℤ cross_of u c → cross_of (neg_ℤ u.0, neg_ℤ u.1) c ≤ℤ pos 0 = λ c g. omega (arith, signs, cross-minus u c) in
    all_behind (neg_ℤ u.0, neg_ℤ u.1) r (numerators p) p.d (λ y z. ray_off (flip u) (flip s.lower) (IsWedge-flip s.lower u o.wedge) (omega (arith, signs)) z) h (turn _ out.0, turn _ out.1, turn _ out.2, turn _ out.3) (omega (arith, signs, cross-minus u (numerators p), i.before_upper))
clear_law s r o (inr (inr (inl all))) p i h =
    near s.lower s.upper r s.far2 (numerators p) p.d (record { wedge = o.wedge; seen = record { after_lower = i.after_lower; before_upper = i.before_upper }; inside = h; all = all; within = i.within_far }) o.extended
clear_law s r o (inr (inr (inr all))) p i h =
    far s.lower s.upper r s.near2 (numerators p) p.d (record { wedge = o.wedge; seen = record { after_lower = i.after_lower; before_upper = i.before_upper }; inside = h; all = all; beyond = i.beyond_near })
