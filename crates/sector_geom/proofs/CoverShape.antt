-- The cover of a piece with an interior spans a wedge of at most half a turn and a positive radius, and its numbers are in range.
use Rattle.std.proofs.Common.{inl, inr, ◌≤◌, ◌^◌, ◌*ℤ◌, pos, ◌≤ℤ◌, ◌<ℤ◌, unsigned_abs, arith, [], ◌∷◌, sym, subst, ◌∙◌}
use Rattle.algebra.proofs.Order.{signs, nonneg-mul, nonneg-add, nonneg-square, positive-mul, positive-nonneg, positive_as, lt_to, positive-add, by_order}
use Rattle.algebra.proofs.Ring.{ring, var, ◌⊕◌, ◌⊖◌, ◌⊗◌, minus}
use Rattle.algebra.proofs.Widths.{abs-mul, abs-add, abs-sub, abs-neg}
use Rattle.brake_base.specs.declared.plane.Rect.{Rect}
use Rattle.brake_base.specs.declared.plane.Quarter.{Quarter}
use Rattle.brake_base.specs.declared.plane.Quarter.TheVariants.{Q1, Q2, Q3, Q4}
use Rattle.sector_geom.specs.declared.sector.Sector.{Sector}
use Rattle.sector_geom.specs.declared.sector.Sweep.{Sweep}
use Rattle.sector_geom.specs.declared.sector.Sweep.TheVariants.{Eighth, Fourth}
use Rattle.sector_geom.specs.Plane.{Point, cross_of, dot_of, norm_of, HasInterior, IsInRange, IsCornerInRange}
use Rattle.sector_geom.specs.Pieces.{LiesIn}
use Rattle.sector_geom.specs.Covers.{swept, IsCoverBy, IsCover}
use Rattle.sector_geom.specs.Corners.{least_angle, greatest_angle, nearest_corner, farthest_corner}
use Rattle.sector_geom.proofs.CornerTables.{table_cover, table_cover_is}
use Rattle.sector_geom.proofs.CoverLaw.{Corners, corners_of, back_corners}
use Rattle.sector_geom.proofs.Turns.{back_rect, cross-back, dot-back, norm-back}
use Rattle.sector_geom.specs.SpecialPoints.{IsRayInRange, IsSectorInRange}
use Rattle.sector_geom.proofs.Wedge.{IsWedge, IsSound}

record IsSpread (c : Corners) : Type 0 where
  left : pos 0 <ℤ cross_of c.least c.greatest
  ahead : pos 0 ≤ℤ dot_of c.least c.greatest
  off : pos 0 <ℤ norm_of c.farthest

back_inside : (r : Rect) → HasInterior r → HasInterior (back_rect r)
back_inside r h = record { wide = h.high; high = omega (arith, signs, h.wide) }

IsSpread-back : (c : Corners) → IsSpread (back_corners c) → IsSpread c
IsSpread-back c s = record {
  left = rw cross-back at s.left;
  ahead = rw dot-back at s.ahead;
  off = rw norm-back at s.off;
}

spread_1 : (r : Rect) → LiesIn Q1 r → HasInterior r → IsSpread (corners_of r Q1)
spread_1 r l h =
    let Y0 = var 0 in let Y1 = var 1 in let Z0 = var 2 in let Z1 = var 3 in
    let xs = r.y0 ∷ r.y1 ∷ r.z0 ∷ r.z1 ∷ [] in
    let py : pos 0 <ℤ r.y1 = omega (arith, signs, l.0, h.wide) in
    let pz : pos 0 <ℤ r.z1 = omega (arith, signs, l.1, h.high) in
    record {
      left = positive_as (ring xs (Y1 ⊗ Z1 ⊖ Z0 ⊗ Y0) ((Y1 ⊖ Y0) ⊗ Z1 ⊕ Y0 ⊗ (Z1 ⊖ Z0)) tt) (positive-add (positive-mul (lt_to h.wide) pz) (nonneg-mul l.0 (positive-nonneg (lt_to h.high))));
      ahead = nonneg-add (nonneg-mul (positive-nonneg py) l.0) (nonneg-mul l.1 (positive-nonneg pz));
      off = positive-add (positive-mul py py) (nonneg-square r.z1);
    }

spread_2 : (r : Rect) → LiesIn Q2 r → HasInterior r → IsSpread (corners_of r Q2)
spread_2 r l h = IsSpread-back (corners_of r Q2) (spread_1 (back_rect r) (l.1, omega (arith, signs, l.0)) (back_inside r h))

spread_3 : (r : Rect) → LiesIn Q3 r → HasInterior r → IsSpread (corners_of r Q3)
spread_3 r l h = IsSpread-back (corners_of r Q3) (spread_2 (back_rect r) (l.1, omega (arith, signs, l.0)) (back_inside r h))

spread_4 : (r : Rect) → LiesIn Q4 r → HasInterior r → IsSpread (corners_of r Q4)
spread_4 r l h = IsSpread-back (corners_of r Q4) (spread_3 (back_rect r) (l.1, omega (arith, signs, l.0)) (back_inside r h))

spread : (q : Quarter) (r : Rect) → LiesIn q r → HasInterior r → IsSpread (corners_of r q)
spread Q1 r l h = spread_1 r l h
spread Q2 r l h = spread_2 r l h
spread Q3 r l h = spread_3 r l h
spread Q4 r l h = spread_4 r l h

wedge : (w : Sweep) (l g : Point) → pos 0 <ℤ cross_of l g → pos 0 ≤ℤ dot_of l g → IsWedge l (swept w g)
wedge Eighth l g c d = inl (positive_as (ring (l.0 ∷ l.1 ∷ g.0 ∷ g.1 ∷ []) (var 0 ⊗ (var 2 ⊕ var 3) ⊖ var 1 ⊗ (var 2 ⊖ var 3)) ((var 0 ⊗ var 3 ⊖ var 1 ⊗ var 2) ⊕ (var 0 ⊗ var 2 ⊕ var 1 ⊗ var 3)) tt) (positive-add c d))
wedge Fourth l g c d =
    let e = ring (l.0 ∷ l.1 ∷ g.0 ∷ g.1 ∷ []) (var 0 ⊗ var 2 ⊖ var 1 ⊗ minus (var 3)) (var 0 ⊗ var 2 ⊕ var 1 ⊗ var 3) tt in
    let f = ring (l.0 ∷ l.1 ∷ g.0 ∷ g.1 ∷ []) (var 0 ⊗ minus (var 3) ⊕ var 1 ⊗ var 2) (minus (var 0 ⊗ var 3 ⊖ var 1 ⊗ var 2)) tt in
    elim (by_order (dot_of l g)) [
      | inl p ↦ inl (positive_as e p)
      | inr n ↦ inr (omega (arith, signs, e), omega (arith, signs, f))
    ]

pub IsSound-cover : (quarter : Quarter) (sweep : Sweep) (r : Rect) → LiesIn quarter r → HasInterior r → IsSound (table_cover quarter sweep r)
IsSound-cover q w r l h =
    let s = spread q r l h in
    record { wedge = wedge w (least_angle q r) (greatest_angle q r) s.left s.ahead; extended = s.off }

-- The numbers of a cover.
least_in_range : (q : Quarter) (r : Rect) → IsInRange r → IsCornerInRange (least_angle q r)
least_in_range Q1 r h = record { y = h.y1; z = h.z0 }
least_in_range Q2 r h = record { y = h.y1; z = h.z1 }
least_in_range Q3 r h = record { y = h.y0; z = h.z1 }
least_in_range Q4 r h = record { y = h.y0; z = h.z0 }

greatest_in_range : (q : Quarter) (r : Rect) → IsInRange r → IsCornerInRange (greatest_angle q r)
greatest_in_range Q1 r h = record { y = h.y0; z = h.z1 }
greatest_in_range Q2 r h = record { y = h.y0; z = h.z0 }
greatest_in_range Q3 r h = record { y = h.y1; z = h.z0 }
greatest_in_range Q4 r h = record { y = h.y1; z = h.z1 }

nearest_in_range : (q : Quarter) (r : Rect) → IsInRange r → IsCornerInRange (nearest_corner q r)
nearest_in_range Q1 r h = record { y = h.y0; z = h.z0 }
nearest_in_range Q2 r h = record { y = h.y1; z = h.z0 }
nearest_in_range Q3 r h = record { y = h.y1; z = h.z1 }
nearest_in_range Q4 r h = record { y = h.y0; z = h.z1 }

farthest_in_range : (q : Quarter) (r : Rect) → IsInRange r → IsCornerInRange (farthest_corner q r)
farthest_in_range Q1 r h = record { y = h.y1; z = h.z1 }
farthest_in_range Q2 r h = record { y = h.y0; z = h.z1 }
farthest_in_range Q3 r h = record { y = h.y0; z = h.z0 }
farthest_in_range Q4 r h = record { y = h.y1; z = h.z0 }

norm_in_range : (p : Point) → IsCornerInRange p → unsigned_abs (norm_of p) ≤ 2 ^ 61
norm_in_range p h =
    let y = abs-mul p.0 p.0 (2 ^ 30) (2 ^ 30) h.y h.y in
    let z = abs-mul p.1 p.1 (2 ^ 30) (2 ^ 30) h.z h.z in
    abs-add (p.0 *ℤ p.0) (p.1 *ℤ p.1) (2 ^ 60) (2 ^ 60) y z

swept_in_range : (w : Sweep) (p : Point) → IsCornerInRange p → IsRayInRange (swept w p)
swept_in_range Eighth p h = record { y = abs-sub p.0 p.1 (2 ^ 30) (2 ^ 30) h.y h.z; z = abs-add p.0 p.1 (2 ^ 30) (2 ^ 30) h.y h.z }
swept_in_range Fourth p h = record { y = rw (abs-neg p.1) (omega (arith, h.z)); z = omega (arith, h.y) }

-- What the tests of a sector rest on.
pub record IsTestable (s : Sector) : Type 0 where
  pub sound : IsSound s
  pub in_range : IsSectorInRange s
  pub near2 : unsigned_abs s.near2 ≤ 2 ^ 61
  pub far2 : unsigned_abs s.far2 ≤ 2 ^ 61

testable_cover : (w : Sweep) (q : Quarter) (r : Rect) → IsInRange r → LiesIn q r → HasInterior r → IsTestable (table_cover q w r)
testable_cover w q r i l h = record {
  sound = IsSound-cover q w r l h;
  in_range = record {
    lower = let c = least_in_range q r i in record { y = omega (arith, c.y); z = omega (arith, c.z) };
    upper = swept_in_range w (greatest_angle q r) (greatest_in_range q r i);
  };
  near2 = norm_in_range (nearest_corner q r) (nearest_in_range q r i);
  far2 = norm_in_range (farthest_corner q r) (farthest_in_range q r i);
}

testable_by : (w : Sweep) (s : Sector) → IsCoverBy w s → IsTestable s
testable_by w s c = subst IsTestable (table_cover_is c.quarter w c.piece c.in_quarter c.interior ∙ sym c.value) (testable_cover w c.quarter c.piece c.in_range c.in_quarter c.interior)

pub testable : (s : Sector) → IsCover s → IsTestable s
testable s (inl c) = testable_by Eighth s c
testable s (inr c) = testable_by Fourth s c

pub cover_of_some : (w : Sweep) (s : Sector) → IsCoverBy w s → IsCover s
cover_of_some Eighth s c = inl c
cover_of_some Fourth s c = inr c
