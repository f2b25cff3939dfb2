-- The cover law: bounds at the corners of a piece in the first quarter, quarter turns of these for the others, and their turn by a triple.
use Rattle.std.proofs.Common.{◌≡◌, ℤ, pos, ◌+ℤ◌, ◌-ℤ◌, ◌*ℤ◌, ◌≤ℤ◌, ◌<ℤ◌, arith, [], ◌∷◌, ap, ◌∙◌, sym, subst}
use Rattle.algebra.proofs.Order.{signs, nonneg-mul, nonneg-add, nonneg-square, positive-nonneg, nonneg_by_factor, nonneg_as, le_from, le_to}
use Rattle.algebra.proofs.Ring.{ring, var, whole, ◌⊕◌, ◌⊖◌, ◌⊗◌, minus}
use Rattle.algebra.proofs.Laws.{neg_ℤ-*ℤ}
use Rattle.brake_base.specs.declared.plane.Rect.{Rect}
use Rattle.brake_base.specs.declared.plane.Quarter.{Quarter}
use Rattle.brake_base.specs.declared.plane.Quarter.TheVariants.{Q1, Q2, Q3, Q4}
use Rattle.sector_geom.specs.declared.sector.Sweep.{Sweep}
use Rattle.sector_geom.specs.declared.sector.Sweep.TheVariants.{Eighth, Fourth}
use Rattle.sector_geom.specs.Plane.{Point, cross_of, dot_of, norm_of, numerators, Holds, HasInterior}
use Rattle.sector_geom.specs.Motion.{Triple}
use Rattle.sector_geom.specs.Pieces.{LiesIn}
use Rattle.sector_geom.specs.Covers.{swept, cover_of, IsTurnOf, HoldsTurned}
use Rattle.sector_geom.specs.Corners.{least_angle, greatest_angle, nearest_corner, farthest_corner}
use Rattle.sector_geom.proofs.CornerTables.{table_cover, table_cover_is}
use Rattle.sector_geom.proofs.Turns.{over, back, back_rect, cross-back, dot-back, norm-back}

-- The corners of a piece that bound it.
pub record Corners : Type 0 where
  pub least : Point
  pub greatest : Point
  pub nearest : Point
  pub farthest : Point

abbrev pub corners_of : Rect → Quarter → Corners
corners_of r quarter = record { least = least_angle quarter r; greatest = greatest_angle quarter r; nearest = nearest_corner quarter r; farthest = farthest_corner quarter r }

-- a point of a piece lies between the corners
pub record IsBounded (c : Corners) (p : Point) (d : ℤ) : Type 0 where
  pub after_least : pos 0 ≤ℤ cross_of c.least p
  pub ahead_least : pos 0 ≤ℤ dot_of c.least p
  pub before_greatest : pos 0 ≤ℤ cross_of p c.greatest
  pub ahead_greatest : pos 0 ≤ℤ dot_of c.greatest p
  pub beyond_nearest : pos 0 ≤ℤ (norm_of p -ℤ norm_of c.nearest *ℤ (d *ℤ d))
  pub within_farthest : pos 0 ≤ℤ (norm_of c.farthest *ℤ (d *ℤ d) -ℤ norm_of p)

-- in the first quarter
core : (y0 y1 z0 z1 y z d : ℤ) → pos 0 ≤ℤ y0 → pos 0 ≤ℤ z0 → pos 0 <ℤ d → (y0 *ℤ d) ≤ℤ y → y ≤ℤ (y1 *ℤ d) → (z0 *ℤ d) ≤ℤ z → z ≤ℤ (z1 *ℤ d)
    → IsBounded (record { least = (y1, z0); greatest = (y0, z1); nearest = (y0, z0); farthest = (y1, z1) }) (y, z) d
core y0 y1 z0 z1 y z d py0 pz0 pd ly ry lz rz =
    let Y0 = var 0 in let Y1 = var 1 in let Z0 = var 2 in let Z1 = var 3 in let Y = var 4 in let Z = var 5 in let D = var 6 in
    let xs = y0 ∷ y1 ∷ z0 ∷ z1 ∷ y ∷ z ∷ d ∷ [] in
    let pd' = positive-nonneg pd in
    let a0 = nonneg-mul py0 pd' in
    let b0 = nonneg-mul pz0 pd' in
    let py : pos 0 ≤ℤ y = omega (arith, signs) in
    let pz : pos 0 ≤ℤ z = omega (arith, signs) in
    let dy1 : pos 0 ≤ℤ (y1 *ℤ d) = omega (arith, signs) in
    let dz1 : pos 0 ≤ℤ (z1 *ℤ d) = omega (arith, signs) in
    let py1 : pos 0 ≤ℤ y1 = nonneg_by_factor pd (nonneg_as (ring xs (D ⊗ Y1) (Y1 ⊗ D) tt) dy1) in
    let pz1 : pos 0 ≤ℤ z1 = nonneg_by_factor pd (nonneg_as (ring xs (D ⊗ Z1) (Z1 ⊗ D) tt) dz1) in
    record {
      after_least = nonneg_by_factor pd (nonneg_as (ring xs (D ⊗ (Y1 ⊗ Z ⊖ Z0 ⊗ Y)) ((Y1 ⊗ D ⊖ Y) ⊗ Z ⊕ Y ⊗ (Z ⊖ Z0 ⊗ D)) tt)
          (nonneg-add (nonneg-mul (le_to ry) pz) (nonneg-mul py (le_to lz))));
      ahead_least = nonneg-add (nonneg-mul py1 py) (nonneg-mul pz0 pz);
      before_greatest = nonneg_by_factor pd (nonneg_as (ring xs (D ⊗ (Y ⊗ Z1 ⊖ Z ⊗ Y0)) (Y ⊗ (Z1 ⊗ D ⊖ Z) ⊕ Z ⊗ (Y ⊖ Y0 ⊗ D)) tt)
          (nonneg-add (nonneg-mul py (le_to rz)) (nonneg-mul pz (le_to ly))));
      ahead_greatest = nonneg-add (nonneg-mul py0 py) (nonneg-mul pz1 pz);
      beyond_nearest = nonneg_as (ring xs (Y ⊗ Y ⊕ Z ⊗ Z ⊖ (Y0 ⊗ Y0 ⊕ Z0 ⊗ Z0) ⊗ (D ⊗ D)) ((Y ⊖ Y0 ⊗ D) ⊗ (Y ⊕ Y0 ⊗ D) ⊕ (Z ⊖ Z0 ⊗ D) ⊗ (Z ⊕ Z0 ⊗ D)) tt)
          (nonneg-add (nonneg-mul (le_to ly) (nonneg-add py a0)) (nonneg-mul (le_to lz) (nonneg-add pz b0)));
      within_farthest = nonneg_as (ring xs ((Y1 ⊗ Y1 ⊕ Z1 ⊗ Z1) ⊗ (D ⊗ D) ⊖ (Y ⊗ Y ⊕ Z ⊗ Z)) ((Y1 ⊗ D ⊖ Y) ⊗ (Y1 ⊗ D ⊕ Y) ⊕ (Z1 ⊗ D ⊖ Z) ⊗ (Z1 ⊗ D ⊕ Z)) tt)
          (nonneg-add (nonneg-mul (le_to ry) (nonneg-add dy1 py)) (nonneg-mul (le_to rz) (nonneg-add dz1 pz)));
    }

abbrev pub back_corners : Corners → Corners
back_corners c = record { least = back c.least; greatest = back c.greatest; nearest = back c.nearest; farthest = back c.farthest }

IsBounded-back : (c : Corners) (p : Point) (d : ℤ) → IsBounded (back_corners c) (back p) d → IsBounded c p d
IsBounded-back c p d b = record {
  after_least = nonneg_as (sym (cross-back c.least p)) b.after_least;
  ahead_least = nonneg_as (sym (dot-back c.least p)) b.ahead_least;
  before_greatest = nonneg_as (sym (cross-back p c.greatest)) b.before_greatest;
  ahead_greatest = nonneg_as (sym (dot-back c.greatest p)) b.ahead_greatest;
  beyond_nearest = rw (norm-back p, norm-back c.nearest) at b.beyond_nearest;
  within_farthest = rw (norm-back p, norm-back c.farthest) at b.within_farthest;
}

Holds-back : (r : Rect) (p : Point) (d : ℤ) → Holds r (over p d) → Holds (back_rect r) (over (back p) d)
Holds-back r p d h = record {
  positive = h.positive;
  left = h.low;
  right = h.high;
  low = rw (neg_ℤ-*ℤ r.y1 d) (omega (arith, signs, h.right));
  high = rw (neg_ℤ-*ℤ r.y0 d) (omega (arith, signs, h.left));
}

bounded_1 : (r : Rect) (p : Point) (d : ℤ) → LiesIn Q1 r → Holds r (over p d) → IsBounded (corners_of r Q1) p d
bounded_1 r p d l h = core r.y0 r.y1 r.z0 r.z1 p.0 p.1 d l.0 l.1 h.positive h.left h.right h.low h.high

bounded_2 : (r : Rect) (p : Point) (d : ℤ) → LiesIn Q2 r → Holds r (over p d) → IsBounded (corners_of r Q2) p d
bounded_2 r p d l h = IsBounded-back (corners_of r Q2) p d (bounded_1 (back_rect r) (back p) d (l.1, omega (arith, signs, l.0)) (Holds-back r p d h))

bounded_3 : (r : Rect) (p : Point) (d : ℤ) → LiesIn Q3 r → Holds r (over p d) → IsBounded (corners_of r Q3) p d
bounded_3 r p d l h = IsBounded-back (corners_of r Q3) p d (bounded_2 (back_rect r) (back p) d (l.1, omega (arith, signs, l.0)) (Holds-back r p d h))

bounded_4 : (r : Rect) (p : Point) (d : ℤ) → LiesIn Q4 r → Holds r (over p d) → IsBounded (corners_of r Q4) p d
bounded_4 r p d l h = IsBounded-back (corners_of r Q4) p d (bounded_3 (back_rect r) (back p) d (l.1, omega (arith, signs, l.0)) (Holds-back r p d h))

pub bounded : (q : Quarter) (r : Rect) (p : Point) (d : ℤ) → LiesIn q r → Holds r (over p d) → IsBounded (corners_of r q) p d
bounded Q1 r p d l h = bounded_1 r p d l h
bounded Q2 r p d l h = bounded_2 r p d l h
bounded Q3 r p d l h = bounded_3 r p d l h
bounded Q4 r p d l h = bounded_4 r p d l h

-- What the turns of both sweeps share: to where they reach, as a test of the cosine a/c and the sine b/c.
abbrev pub IsUpTo : Sweep → ℤ → ℤ → Type 0
IsUpTo Eighth a b = b ≤ℤ a
IsUpTo Fourth a b = pos 0 ≤ℤ a

record IsMotion (sweep : Sweep) (t : Triple) : Type 0 where
  squares : t.a *ℤ t.a +ℤ t.b *ℤ t.b ≡ t.c *ℤ t.c
  upward : pos 0 ≤ℤ t.b
  forward : pos 0 ≤ℤ t.a
  within : IsUpTo sweep t.a t.b

motion : (sweep : Sweep) (t : Triple) → IsTurnOf sweep t → IsMotion sweep t
motion Eighth t h = record { squares = h.squares; upward = h.upward; forward = omega (arith, signs, h.upward, h.half_right); within = h.half_right }
motion Fourth t h = record { squares = h.squares; upward = h.upward; forward = h.right; within = h.right }

-- The numerators of a turned point.
abbrev rotated : ℤ → ℤ → Point → Point
rotated a b p = (a *ℤ p.0 -ℤ b *ℤ p.1, b *ℤ p.0 +ℤ a *ℤ p.1)

cross-turned : (a b : ℤ) (p q : Point) → cross_of p (rotated a b q) ≡ a *ℤ cross_of p q +ℤ b *ℤ dot_of p q
cross-turned a b p q =
    let A = var 0 in let B = var 1 in let P = var 2 in let Q = var 3 in let Y = var 4 in let Z = var 5 in
    ring (a ∷ b ∷ p.0 ∷ p.1 ∷ q.0 ∷ q.1 ∷ []) (P ⊗ (B ⊗ Y ⊕ A ⊗ Z) ⊖ Q ⊗ (A ⊗ Y ⊖ B ⊗ Z)) (A ⊗ (P ⊗ Z ⊖ Q ⊗ Y) ⊕ B ⊗ (P ⊗ Y ⊕ Q ⊗ Z)) tt

last-turned : (w : Sweep) (a b : ℤ) (p q : Point) → IsUpTo w a b → pos 0 ≤ℤ b → pos 0 ≤ℤ cross_of q p → pos 0 ≤ℤ dot_of p q → pos 0 ≤ℤ (pos 0 -ℤ cross_of (swept w p) (rotated a b q))
last-turned Eighth a b p q ba pb cr ah =
    let A = var 0 in let B = var 1 in let P = var 2 in let Q = var 3 in let Y = var 4 in let Z = var 5 in
    let pa : pos 0 ≤ℤ a = omega (arith, signs) in
    nonneg_as (ring (a ∷ b ∷ p.0 ∷ p.1 ∷ q.0 ∷ q.1 ∷ []) (whole (pos 0) ⊖ ((P ⊖ Q) ⊗ (B ⊗ Y ⊕ A ⊗ Z) ⊖ (P ⊕ Q) ⊗ (A ⊗ Y ⊖ B ⊗ Z))) ((A ⊕ B) ⊗ (Y ⊗ Q ⊖ Z ⊗ P) ⊕ (A ⊖ B) ⊗ (P ⊗ Y ⊕ Q ⊗ Z)) tt)
    (nonneg-add (nonneg-mul (nonneg-add pa pb) cr) (nonneg-mul (le_to ba) ah))
last-turned Fourth a b p q pa pb cr ah =
    let A = var 0 in let B = var 1 in let P = var 2 in let Q = var 3 in let Y = var 4 in let Z = var 5 in
    nonneg_as (ring (a ∷ b ∷ p.0 ∷ p.1 ∷ q.0 ∷ q.1 ∷ []) (whole (pos 0) ⊖ (minus Q ⊗ (B ⊗ Y ⊕ A ⊗ Z) ⊖ P ⊗ (A ⊗ Y ⊖ B ⊗ Z))) (A ⊗ (P ⊗ Y ⊕ Q ⊗ Z) ⊕ B ⊗ (Y ⊗ Q ⊖ Z ⊗ P)) tt)
    (nonneg-add (nonneg-mul pa ah) (nonneg-mul pb cr))

norm-turned : (a b c : ℤ) (p : Point) → a *ℤ a +ℤ b *ℤ b ≡ c *ℤ c → norm_of (rotated a b p) ≡ (c *ℤ c) *ℤ norm_of p
norm-turned a b c p e =
    let A = var 0 in let B = var 1 in let Y = var 2 in let Z = var 3 in
    ring (a ∷ b ∷ p.0 ∷ p.1 ∷ []) ((A ⊗ Y ⊖ B ⊗ Z) ⊗ (A ⊗ Y ⊖ B ⊗ Z) ⊕ (B ⊗ Y ⊕ A ⊗ Z) ⊗ (B ⊗ Y ⊕ A ⊗ Z)) ((A ⊗ A ⊕ B ⊗ B) ⊗ (Y ⊗ Y ⊕ Z ⊗ Z)) tt
    ∙ ap (λ x. x *ℤ norm_of p) e

turned_near : (a b c n d : ℤ) (p : Point) → a *ℤ a +ℤ b *ℤ b ≡ c *ℤ c → pos 0 ≤ℤ (norm_of p -ℤ n *ℤ (d *ℤ d)) → (n *ℤ ((c *ℤ d) *ℤ (c *ℤ d))) ≤ℤ norm_of (rotated a b p)
turned_near a b c n d p e h =
    rw (norm-turned a b c p e)
    (le_from (nonneg_as (ring (c ∷ n ∷ d ∷ norm_of p ∷ []) (var 0 ⊗ var 0 ⊗ var 3 ⊖ var 1 ⊗ ((var 0 ⊗ var 2) ⊗ (var 0 ⊗ var 2))) (var 0 ⊗ var 0 ⊗ (var 3 ⊖ var 1 ⊗ (var 2 ⊗ var 2))) tt) (nonneg-mul (nonneg-square c) h)))

turned_far : (a b c n d : ℤ) (p : Point) → a *ℤ a +ℤ b *ℤ b ≡ c *ℤ c → pos 0 ≤ℤ (n *ℤ (d *ℤ d) -ℤ norm_of p) → norm_of (rotated a b p) ≤ℤ (n *ℤ ((c *ℤ d) *ℤ (c *ℤ d)))
turned_far a b c n d p e h =
    rw (norm-turned a b c p e)
    (le_from (nonneg_as (ring (c ∷ n ∷ d ∷ norm_of p ∷ []) (var 1 ⊗ ((var 0 ⊗ var 2) ⊗ (var 0 ⊗ var 2)) ⊖ var 0 ⊗ var 0 ⊗ var 3) (var 0 ⊗ var 0 ⊗ (var 1 ⊗ (var 2 ⊗ var 2) ⊖ var 3)) tt) (nonneg-mul (nonneg-square c) h)))

-- For the cover by the tables of corners.
table_cover_law : (quarter : Quarter) (sweep : Sweep) (r : Rect) → LiesIn quarter r → HoldsTurned r sweep (table_cover quarter sweep r)
table_cover_law quarter sweep r lies p t held turn =
    let b = bounded quarter r (numerators p) p.d lies held in
    let m = motion sweep t turn in
    record {
      after_lower = nonneg_as (cross-turned t.a t.b (least_angle quarter r) (numerators p)) (nonneg-add (nonneg-mul m.forward b.after_least) (nonneg-mul m.upward b.ahead_least));
      before_upper = le_from (last-turned sweep t.a t.b (greatest_angle quarter r) (numerators p) m.within m.upward b.before_greatest b.ahead_greatest);
      beyond_near = turned_near t.a t.b t.c (norm_of (nearest_corner quarter r)) p.d (numerators p) m.squares b.beyond_nearest;
      within_far = turned_far t.a t.b t.c (norm_of (farthest_corner quarter r)) p.d (numerators p) m.squares b.within_farthest;
    }

-- The cover law.
pub cover_law : (quarter : Quarter) (sweep : Sweep) (r : Rect) → LiesIn quarter r → HasInterior r → HoldsTurned r sweep (cover_of quarter sweep r)
cover_law quarter sweep r l h = subst (HoldsTurned r sweep) (table_cover_is quarter sweep r l h) (table_cover_law quarter sweep r l)
