-- The clear law of noses.
use Rattle.std.proofs.Common.{◌≡◌, inl, inr, ◌↔◌, IsTrue, ℤ, pos, ◌+ℤ◌, ◌-ℤ◌, ◌*ℤ◌, neg_ℤ, ◌≤ℤ◌, ◌<ℤ◌, arith, [], ◌∷◌, sym, subst, ◌∙◌}
use lib.Signed.{le_z}
use Rattle.algebra.proofs.Widths.{le_iff}
use Rattle.algebra.proofs.Order.{signs, nonneg-mul, nonneg-add, positive-mul, positive-nonneg, le_to, lt_to, positive-add, zero_clash, by_order, nonneg-square}
use Rattle.algebra.proofs.Ring.{ring, var, whole, ◌⊕◌, ◌⊖◌, ◌⊗◌, minus}
use Rattle.brake_base.specs.declared.plane.Rect.{Rect}
use Rattle.brake_base.specs.declared.plane.Rat2.{Rat2}
use Rattle.brake_base.specs.declared.plane.Quarter.{Quarter}
use Rattle.brake_base.specs.declared.plane.Quarter.TheVariants.{Q1, Q2, Q3, Q4}
use Rattle.sector_geom.specs.declared.sector.Sector.{Sector}
use Rattle.sector_geom.specs.declared.sector.Sweep.TheVariants.{Eighth}
use Rattle.sector_geom.specs.Plane.{Point, cross_of, norm_of, numerators, HasInterior}
use Rattle.sector_geom.specs.Pieces.{LiesIn}
use Rattle.sector_geom.specs.Covers.{IsInSector, IsCoverBy}
use Rattle.sector_geom.specs.Corners.{least_angle}
use Rattle.sector_geom.proofs.CornerTables.{table_cover, table_cover_is}
use Rattle.sector_geom.specs.Clear.{IsClearOfNose, IsApartFromNose}

-- a ray left of the nose
past : (l p : Point) → pos 0 <ℤ neg_ℤ l.0 → pos 0 ≤ℤ l.1 → l.1 ≤ℤ neg_ℤ l.0 → pos 0 <ℤ (p.1 -ℤ p.0) → pos 0 <ℤ (p.1 +ℤ p.0) → pos 0 ≤ℤ cross_of l p → ⊥
past l p a b c r t seen =
    let L = var 0 in let M = var 1 in let Y = var 2 in let Z = var 3 in
    let two : pos 0 ≤ℤ pos 2 = omega (arith, signs) in
    zero_clash (ring (l.0 ∷ l.1 ∷ p.0 ∷ p.1 ∷ []) ((minus L ⊕ M) ⊗ (Z ⊕ Y) ⊕ ((minus L ⊖ M) ⊗ (Z ⊖ Y) ⊕ whole (pos 2) ⊗ (L ⊗ Z ⊖ M ⊗ Y))) (whole (pos 0)) tt)
    (positive-add (positive-mul (positive-add a b) t) (nonneg-add (nonneg-mul (le_to c) (positive-nonneg r)) (nonneg-mul two seen)))

-- a cover whose lower ray points below the axis does not turn as far as the nose
short : (q : Quarter) (r : Rect) → LiesIn q r → HasInterior r → (p : Rat2) → (least_angle q r).1 <ℤ pos 0 → IsInSector (table_cover q Eighth r) p → pos 0 <ℤ (p.z -ℤ p.y) → pos 0 <ℤ (p.z +ℤ p.y) → ⊥
short Q1 r l h p low i a b = omega (arith, signs, l.1)
short Q2 r l h p low i a b = omega (arith, signs, l.1, h.high)
short Q3 r l h p low i a b =
    let Y0 = var 0 in let Y1 = var 1 in let Z0 = var 2 in let Z1 = var 3 in let Y = var 4 in let Z = var 5 in
    let P = Z ⊖ Y in let Q = Z ⊕ Y in
    let two : pos 0 ≤ℤ pos 2 = omega (arith, signs) in
    let n0 : pos 0 <ℤ neg_ℤ r.y0 = omega (arith, signs, l.0, h.wide) in
    let n1 : pos 0 ≤ℤ neg_ℤ r.z1 = omega (arith, signs, l.1) in
    zero_clash (ring (r.y0 ∷ r.y1 ∷ r.z0 ∷ r.z1 ∷ p.y ∷ p.z ∷ [])
    (minus Y0 ⊗ Q ⊕ (minus Z1 ⊗ P ⊕ (whole (pos 2) ⊗ (Y0 ⊗ Z ⊖ Z1 ⊗ Y) ⊕ ((whole (pos 0) ⊖ ((Y1 ⊖ Z0) ⊗ Z ⊖ (Y1 ⊕ Z0) ⊗ Y)) ⊕ ((Y1 ⊖ Y0) ⊗ P ⊕ (Z1 ⊖ Z0) ⊗ Q))))) (whole (pos 0)) tt)
    (positive-add (positive-mul n0 b) (nonneg-add (nonneg-mul n1 (positive-nonneg a)) (nonneg-add (nonneg-mul two i.after_lower) (nonneg-add (le_to i.before_upper) (nonneg-add (nonneg-mul (positive-nonneg (lt_to h.wide)) (positive-nonneg a)) (nonneg-mul (positive-nonneg (lt_to h.high)) (positive-nonneg b)))))))
short Q4 r l h p low i a b =
    let G = var 0 in let H = var 1 in let Y = var 2 in let Z = var 3 in
    let g : pos 0 <ℤ r.y1 = omega (arith, signs, l.0, h.wide) in
    let m : pos 0 ≤ℤ neg_ℤ r.z1 = omega (arith, signs, l.1) in
    zero_clash (ring (r.y1 ∷ r.z1 ∷ p.y ∷ p.z ∷ []) (G ⊗ (Z ⊖ Y) ⊕ (minus H ⊗ (Z ⊕ Y) ⊕ (whole (pos 0) ⊖ ((G ⊖ H) ⊗ Z ⊖ (G ⊕ H) ⊗ Y)))) (whole (pos 0)) tt)
    (positive-add (positive-mul g a) (nonneg-add (nonneg-mul m (positive-nonneg b)) (le_to i.before_upper)))

-- For the cover of a piece.
nose_law_cover : (q : Quarter) (r : Rect) → LiesIn q r → HasInterior r → (n : ℤ) → IsClearOfNose (table_cover q Eighth r) n → IsApartFromNose (table_cover q Eighth r) n
nose_law_cover q r l h n (inl far) p i m =
    let s = table_cover q Eighth r in
    let more = nonneg-mul (le_to far) (nonneg-square p.d) in
    let e = ring (s.near2 ∷ n ∷ p.d ∷ []) ((var 0 ⊖ whole (pos 2) ⊗ (var 1 ⊗ var 1)) ⊗ (var 2 ⊗ var 2)) (var 0 ⊗ (var 2 ⊗ var 2) ⊖ whole (pos 2) ⊗ (var 1 ⊗ var 1) ⊗ (var 2 ⊗ var 2)) tt in
    omega (arith, signs, i.beyond_near, m.near)
nose_law_cover q r l h n (inr (inl low)) p i m = short q r l h p low i (lt_to m.right) (omega (arith, signs, m.left))
nose_law_cover q r l h n (inr (inr b)) p i m = elim (by_order (neg_ℤ (least_angle q r).1)) [
  | inl low ↦ short q r l h p (omega (arith, signs)) i (lt_to m.right) (omega (arith, signs, m.left))
  | inr up ↦ past (least_angle q r) (numerators p) (omega (arith, signs, b.0)) (omega (arith, signs)) b.1 (lt_to m.right) (omega (arith, signs, m.left)) i.after_lower
]

-- No point of the cover of an eighth is inside a nose of which it is clear.
pub nose_law : (s : Sector) → IsCoverBy Eighth s → (n : ℤ) → IsClearOfNose s n → IsApartFromNose s n
nose_law s c n = subst (λ x. IsClearOfNose x n → IsApartFromNose x n) (table_cover_is c.quarter Eighth c.piece c.in_quarter c.interior ∙ sym c.value) (nose_law_cover c.quarter c.piece c.in_quarter c.interior n)

-- The nose's corners lie on the circle with the squared radius 2 * n * n.
pub nose_radius : (m n near2 : ℤ) → m ≡ norm_of (n, n) → IsTrue (le_z m near2) ↔ (pos 2 *ℤ (n *ℤ n)) ≤ℤ near2
nose_radius m n near2 e =
    let twice = e ∙ ring (n ∷ []) (var 0 ⊗ var 0 ⊕ var 0 ⊗ var 0) (whole (pos 2) ⊗ (var 0 ⊗ var 0)) tt in
    (λ t. omega (arith, signs, (le_iff m near2).0 t, twice), λ h. (le_iff m near2).1 (omega (arith, signs, h, twice)))
