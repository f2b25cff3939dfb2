-- The nearest and the farthest corner of a piece, by its quarter.
use Rattle.std.proofs.Common.{◌≡◌, ℤ, pos, ◌*ℤ◌, neg_ℤ, ◌≤ℤ◌, ◌<ℤ◌, arith, [], ◌∷◌, ap, sym, ◌∙◌}
use Rattle.std.proofs.lemmas.Int.{ints, clamps}
use Rattle.algebra.proofs.Order.{signs, nonneg-mul, nonneg-add, nonneg_as, positive-nonneg, le_from, lt_to}
use Rattle.algebra.proofs.Ring.{ring, var, ◌⊕◌, ◌⊖◌, ◌⊗◌, minus}
use Rattle.brake_base.specs.declared.plane.Rect.{Rect}
use Rattle.brake_base.specs.declared.plane.Quarter.{Quarter}
use Rattle.brake_base.specs.declared.plane.Quarter.TheVariants.{Q1, Q2, Q3, Q4}
use Rattle.sector_geom.specs.declared.sector.Sector.{Sector}
use Rattle.sector_geom.specs.declared.sector.Sweep.{Sweep}
use Rattle.sector_geom.specs.Plane.{norm_of, HasInterior, IsInRange}
use Rattle.sector_geom.specs.Pieces.{LiesIn}
use Rattle.sector_geom.specs.Corners.{least_angle, greatest_angle, nearest_corner, farthest_corner}
use Rattle.sector_geom.specs.Covers.{nearest2, farthest2, swept, cover_of, IsCoverBy}

-- The cover by these tables.
abbrev pub table_cover : Quarter → Sweep → Rect → Sector
table_cover quarter sweep r = record {
  near2 = norm_of (nearest_corner quarter r);
  far2 = norm_of (farthest_corner quarter r);
  lower = least_angle quarter r;
  upper = swept sweep (greatest_angle quarter r);
}

-- Above 0 squares grow, and below 0 they shrink.
squares_up : (a b : ℤ) → pos 0 ≤ℤ a → a <ℤ b → (a *ℤ a) ≤ℤ (b *ℤ b)
squares_up a b pa h =
    let pb : pos 0 ≤ℤ b = omega (arith, signs, pa, h) in
    le_from (nonneg_as (ring (a ∷ b ∷ []) (var 1 ⊗ var 1 ⊖ var 0 ⊗ var 0) ((var 1 ⊖ var 0) ⊗ (var 1 ⊕ var 0)) tt) (nonneg-mul (positive-nonneg (lt_to h)) (nonneg-add pb pa)))

squares_down : (a b : ℤ) → b ≤ℤ pos 0 → a <ℤ b → (b *ℤ b) ≤ℤ (a *ℤ a)
squares_down a b nb h =
    let pb : pos 0 ≤ℤ neg_ℤ b = omega (arith, signs, nb) in
    let pa : pos 0 ≤ℤ neg_ℤ a = omega (arith, signs, nb, h) in
    le_from (nonneg_as (ring (a ∷ b ∷ []) (var 0 ⊗ var 0 ⊖ var 1 ⊗ var 1) ((var 1 ⊖ var 0) ⊗ (minus (var 1) ⊕ minus (var 0))) tt) (nonneg-mul (positive-nonneg (lt_to h)) (nonneg-add pb pa)))

pub nearest_is : (quarter : Quarter) (r : Rect) → LiesIn quarter r → HasInterior r → nearest2 r ≡ norm_of (nearest_corner quarter r)
nearest_is Q1 r l h = omega (arith, ints, clamps, squares_up r.y0 r.y1 l.0 h.wide, squares_up r.z0 r.z1 l.1 h.high)
nearest_is Q2 r l h = omega (arith, ints, clamps, squares_down r.y0 r.y1 l.0 h.wide, squares_up r.z0 r.z1 l.1 h.high)
nearest_is Q3 r l h = omega (arith, ints, clamps, squares_down r.y0 r.y1 l.0 h.wide, squares_down r.z0 r.z1 l.1 h.high)
nearest_is Q4 r l h = omega (arith, ints, clamps, squares_up r.y0 r.y1 l.0 h.wide, squares_down r.z0 r.z1 l.1 h.high)

pub farthest_is : (quarter : Quarter) (r : Rect) → LiesIn quarter r → HasInterior r → farthest2 r ≡ norm_of (farthest_corner quarter r)
farthest_is Q1 r l h = omega (arith, ints, clamps, squares_up r.y0 r.y1 l.0 h.wide, squares_up r.z0 r.z1 l.1 h.high)
farthest_is Q2 r l h = omega (arith, ints, clamps, squares_down r.y0 r.y1 l.0 h.wide, squares_up r.z0 r.z1 l.1 h.high)
farthest_is Q3 r l h = omega (arith, ints, clamps, squares_down r.y0 r.y1 l.0 h.wide, squares_down r.z0 r.z1 l.1 h.high)
farthest_is Q4 r l h = omega (arith, ints, clamps, squares_up r.y0 r.y1 l.0 h.wide, squares_down r.z0 r.z1 l.1 h.high)

-- The two covers are one.
pub table_cover_is : (quarter : Quarter) (sweep : Sweep) (r : Rect) → LiesIn quarter r → HasInterior r → table_cover quarter sweep r ≡ cover_of quarter sweep r
table_cover_is quarter sweep r l h =
    let with : ℤ → ℤ → Sector = λ near far. record { near2 = near; far2 = far; lower = least_angle quarter r; upper = swept sweep (greatest_angle quarter r) } in
    ap (λ n. with n (norm_of (farthest_corner quarter r))) (sym (nearest_is quarter r l h)) ∙ ap (λ f. with (nearest2 r) f) (sym (farthest_is quarter r l h))

-- A sector that the tables give is the cover, and came from it.
pub cover_by_table : (quarter : Quarter) (sweep : Sweep) (r : Rect) (s : Sector) → LiesIn quarter r → HasInterior r → s ≡ table_cover quarter sweep r → s ≡ cover_of quarter sweep r
cover_by_table quarter sweep r s l h e = e ∙ table_cover_is quarter sweep r l h

pub is_cover_by_table : (quarter : Quarter) (sweep : Sweep) (r : Rect) (s : Sector) → IsInRange r → LiesIn quarter r → HasInterior r → s ≡ table_cover quarter sweep r → IsCoverBy sweep s
is_cover_by_table quarter sweep r s i l h e = record { piece = r; quarter = quarter; in_range = i; in_quarter = l; interior = h; value = cover_by_table quarter sweep r s l h e }
