-- Where a ray crosses an edge.
use Rattle.std.proofs.Common.{◌≡◌, ◌≢◌, ◌⊎◌, inl, inr, ◌≤◌, ◌^◌, ℤ, pos, ◌+ℤ◌, ◌-ℤ◌, ◌*ℤ◌, neg_ℤ, ◌≤ℤ◌, ◌<ℤ◌, unsigned_abs, arith, [], ◌∷◌, ap, sym, ◌∙◌, subst, refl}
use Rattle.algebra.proofs.Order.{signs, nonneg-mul, nonneg-add, nonneg-square, positive-mul, positive-nonneg, nonneg_by_factor, nonneg_as, le_from, le_to, lt_to, positive-add, zero_clash, by_order, le_of_same}
use Rattle.algebra.proofs.Ring.{ring, var, whole, ◌⊕◌, ◌⊖◌, ◌⊗◌, minus}
use Rattle.algebra.proofs.Laws.{difference_zero}
use Rattle.algebra.proofs.Widths.{abs-mul, abs-neg}
use lib.IntN.{*ℤ_comm, *ℤ-zero}
use Rattle.sector_geom.specs.declared.special_points.Bound.{Bound}
use Rattle.sector_geom.specs.declared.special_points.Bound.TheVariants.{AtMost, AtLeast}
use Rattle.sector_geom.specs.declared.special_points.Crossing.{Crossing}
use Rattle.sector_geom.specs.Plane.{Point}
use Rattle.sector_geom.specs.Clear.{IsOnRay}
use Rattle.sector_geom.specs.SpecialPoints.{IsBoundMet, IsCrossing, IsRayInRange, MissesLine, IsBetween, EdgeIsMet}

-- The same point under two denominators
pub IsBoundMet-scaled : (b : Bound) (p q : Point) (d e : ℤ) → pos 0 <ℤ e → (p.0 *ℤ e ≡ q.0 *ℤ d) → (p.1 *ℤ e ≡ q.1 *ℤ d) → IsBoundMet b q e → IsBoundMet b p d
IsBoundMet-scaled (AtMost n) p q d e pe y z h =
    let E = var 0 in let N = var 1 in let D = var 2 in let Y = var 3 in let Z = var 4 in
    le_from (nonneg_by_factor (positive-mul pe pe) (nonneg_as
    (ring (e ∷ n ∷ d ∷ p.0 ∷ p.1 ∷ []) (E ⊗ E ⊗ (N ⊗ (D ⊗ D) ⊖ (Y ⊗ Y ⊕ Z ⊗ Z))) (E ⊗ E ⊗ (N ⊗ (D ⊗ D)) ⊖ ((Y ⊗ E) ⊗ (Y ⊗ E) ⊕ (Z ⊗ E) ⊗ (Z ⊗ E))) tt
    ∙ ap (λ x. e *ℤ e *ℤ (n *ℤ (d *ℤ d)) -ℤ (x *ℤ x +ℤ (p.1 *ℤ e) *ℤ (p.1 *ℤ e))) y
    ∙ ap (λ x. e *ℤ e *ℤ (n *ℤ (d *ℤ d)) -ℤ ((q.0 *ℤ d) *ℤ (q.0 *ℤ d) +ℤ x *ℤ x)) z
    ∙ ring (e ∷ n ∷ d ∷ q.0 ∷ q.1 ∷ []) (E ⊗ E ⊗ (N ⊗ (D ⊗ D)) ⊖ ((Y ⊗ D) ⊗ (Y ⊗ D) ⊕ (Z ⊗ D) ⊗ (Z ⊗ D))) (D ⊗ D ⊗ (N ⊗ (E ⊗ E) ⊖ (Y ⊗ Y ⊕ Z ⊗ Z))) tt)
    (nonneg-mul (nonneg-square d) (le_to h))))
IsBoundMet-scaled (AtLeast n) p q d e pe y z h =
    let E = var 0 in let N = var 1 in let D = var 2 in let Y = var 3 in let Z = var 4 in
    le_from (nonneg_by_factor (positive-mul pe pe) (nonneg_as
    (ring (e ∷ n ∷ d ∷ p.0 ∷ p.1 ∷ []) (E ⊗ E ⊗ ((Y ⊗ Y ⊕ Z ⊗ Z) ⊖ N ⊗ (D ⊗ D))) (((Y ⊗ E) ⊗ (Y ⊗ E) ⊕ (Z ⊗ E) ⊗ (Z ⊗ E)) ⊖ E ⊗ E ⊗ (N ⊗ (D ⊗ D))) tt
    ∙ ap (λ x. (x *ℤ x +ℤ (p.1 *ℤ e) *ℤ (p.1 *ℤ e)) -ℤ e *ℤ e *ℤ (n *ℤ (d *ℤ d))) y
    ∙ ap (λ x. ((q.0 *ℤ d) *ℤ (q.0 *ℤ d) +ℤ x *ℤ x) -ℤ e *ℤ e *ℤ (n *ℤ (d *ℤ d))) z
    ∙ ring (e ∷ n ∷ d ∷ q.0 ∷ q.1 ∷ []) (((Y ⊗ D) ⊗ (Y ⊗ D) ⊕ (Z ⊗ D) ⊗ (Z ⊗ D)) ⊖ E ⊗ E ⊗ (N ⊗ (D ⊗ D))) (D ⊗ D ⊗ ((Y ⊗ Y ⊕ Z ⊗ Z) ⊖ N ⊗ (E ⊗ E))) tt)
    (nonneg-mul (nonneg-square d) (le_to h))))

nonzero_factor : (a b : ℤ) → a ≢ pos 0 → (a *ℤ b ≡ pos 0) → b ≡ pos 0
nonzero_factor a b n e = cases (by_order a) (by_order (neg_ℤ a))
  where
    same_sign : (a b : ℤ) → pos 0 <ℤ a → (a *ℤ b ≡ pos 0) → b ≡ pos 0
    same_sign a b pa e =
        let low = nonneg_by_factor pa (nonneg_as e (le_of_same refl)) in
        let high : pos 0 ≤ℤ neg_ℤ b = nonneg_by_factor pa (nonneg_as (ring (a ∷ b ∷ []) (var 0 ⊗ minus (var 1)) (minus (var 0 ⊗ var 1)) tt ∙ ap neg_ℤ e) (le_of_same refl)) in
        omega (arith, signs)

    cases : ((pos 0 <ℤ a) ⊎ (pos 0 ≤ℤ neg_ℤ a)) → ((pos 0 <ℤ neg_ℤ a) ⊎ (pos 0 ≤ℤ neg_ℤ (neg_ℤ a))) → b ≡ pos 0
    cases (inl pa) _ = same_sign a b pa e
    cases (inr _) (inl na) = same_sign (neg_ℤ a) b na (ring (a ∷ b ∷ []) (minus (var 0) ⊗ var 1) (minus (var 0 ⊗ var 1)) tt ∙ ap neg_ℤ e)
    cases (inr x) (inr y) = absurd (n (omega (arith, signs)))

-- Two points of a line that the ray crosses are one.
met_once : (ray : Point) (at : ℤ) (p q : Point) (d e : ℤ) → ray.0 ≢ pos 0 → (p.0 ≡ at *ℤ d) → (q.0 ≡ at *ℤ e) → IsOnRay ray p → IsOnRay ray q → (p.0 *ℤ e ≡ q.0 *ℤ d) × (p.1 *ℤ e ≡ q.1 *ℤ d)
met_once ray at p q d e n y z h g =
    let first : p.0 *ℤ e ≡ q.0 *ℤ d = ap (λ x. x *ℤ e) y ∙ ring (at ∷ d ∷ e ∷ []) (var 0 ⊗ var 1 ⊗ var 2) (var 0 ⊗ var 2 ⊗ var 1) tt ∙ ap (λ x. x *ℤ d) (sym z) in
    let R = var 0 in let S = var 1 in let Y = var 2 in let Z = var 3 in let D = var 4 in let Y' = var 5 in let Z' = var 6 in let E = var 7 in
    let xs = ray.0 ∷ ray.1 ∷ p.0 ∷ p.1 ∷ d ∷ q.0 ∷ q.1 ∷ e ∷ [] in
    let split = ring xs (R ⊗ (Z ⊗ E ⊖ Z' ⊗ D)) ((E ⊗ (R ⊗ Z ⊖ S ⊗ Y) ⊖ D ⊗ (R ⊗ Z' ⊖ S ⊗ Y')) ⊕ S ⊗ (Y ⊗ E ⊖ Y' ⊗ D)) tt in
    let gone : p.0 *ℤ e -ℤ q.0 *ℤ d ≡ pos 0 = omega (arith, signs) in
    let none : ray.0 *ℤ (p.1 *ℤ e -ℤ q.1 *ℤ d) ≡ pos 0 =
    split ∙ ap (λ x. (e *ℤ x -ℤ d *ℤ (ray.0 *ℤ q.1 -ℤ ray.1 *ℤ q.0)) +ℤ ray.1 *ℤ (p.0 *ℤ e -ℤ q.0 *ℤ d)) h.along
    ∙ ap (λ x. (e *ℤ pos 0 -ℤ d *ℤ x) +ℤ ray.1 *ℤ (p.0 *ℤ e -ℤ q.0 *ℤ d)) g.along
    ∙ ap (λ x. (e *ℤ pos 0 -ℤ d *ℤ pos 0) +ℤ ray.1 *ℤ x) gone
    ∙ ring (e ∷ d ∷ ray.1 ∷ []) ((var 0 ⊗ whole (pos 0) ⊖ var 1 ⊗ whole (pos 0)) ⊕ var 2 ⊗ whole (pos 0)) (whole (pos 0)) tt in
    (first, difference_zero _ _ (nonzero_factor ray.0 (p.1 *ℤ e -ℤ q.1 *ℤ d) n none))

-- Nothing stands on a line that the ray misses.
pub none_met : (ray : Point) (at : ℤ) (range : Point) (b : Bound) → MissesLine ray at → EdgeIsMet ray at range b
none_met ray at range b (inl e) p d pd y _ _ h n = absurd (n e)
none_met ray at range b (inr behind) p d pd y _ _ h n =
    let R = var 0 in let S = var 1 in let A = var 2 in let D = var 3 in let Z = var 4 in
    let xs = ray.0 ∷ ray.1 ∷ at ∷ d ∷ p.1 ∷ [] in
    let along : ray.0 *ℤ p.1 -ℤ ray.1 *ℤ (at *ℤ d) ≡ pos 0 = ap (λ x. ray.0 *ℤ p.1 -ℤ ray.1 *ℤ x) (sym y) ∙ h.along in
    let forward : pos 0 ≤ℤ (ray.0 *ℤ (at *ℤ d) +ℤ ray.1 *ℤ p.1) = subst (λ x. pos 0 ≤ℤ (ray.0 *ℤ x +ℤ ray.1 *ℤ p.1)) y h.forward in
    let pn = lt_to behind in
    let F = R ⊗ (A ⊗ D) ⊕ S ⊗ Z in
    let B = whole (pos 0) ⊖ A ⊗ R in
    zero_clash (ring xs ((B ⊗ B ⊕ (A ⊗ S) ⊗ (A ⊗ S)) ⊗ (B ⊗ D) ⊕ (A ⊗ R) ⊗ (A ⊗ R) ⊗ F) ((A ⊗ A ⊗ R ⊗ S) ⊗ (R ⊗ Z ⊖ S ⊗ (A ⊗ D))) tt ∙ ap (λ x. (at *ℤ at *ℤ ray.0 *ℤ ray.1) *ℤ x) along ∙ *ℤ-zero (at *ℤ at *ℤ ray.0 *ℤ ray.1))
    (positive-add (positive-mul (positive-add (positive-mul pn pn) (nonneg-square (at *ℤ ray.1))) (positive-mul pn pd)) (nonneg-mul (nonneg-square (at *ℤ ray.0)) forward))

pub crossing_met : (ray : Point) (at : ℤ) (range : Point) (b : Bound) (s : Crossing) → IsCrossing ray at s → IsBetween range s.z s.d → (IsBoundMet b (s.y, s.z) s.d → EdgeIsMet ray at range b) × (EdgeIsMet ray at range b → IsBoundMet b (s.y, s.z) s.d)
crossing_met ray at range b s o i = (
  λ m p d pd y l h r n. let e = met_once ray at p (s.y, s.z) d s.d n y o.on_line r o.on_ray in IsBoundMet-scaled b p (s.y, s.z) d s.d o.positive e.0 e.1 m,
  λ all. all (s.y, s.z) s.d o.positive o.on_line i.0 i.1 o.on_ray o.across,
)

-- What the code makes, where the ray points towards larger y.
pub crossing_ahead : (ray : Point) (at : ℤ) (s : Crossing) → IsRayInRange ray → unsigned_abs at ≤ 2 ^ 30 → pos 0 <ℤ ray.0 → pos 0 ≤ℤ at → (s.y ≡ ray.0 *ℤ at) → (s.z ≡ ray.1 *ℤ at) → (s.d ≡ ray.0) → IsCrossing ray at s
crossing_ahead ray at s r a pr pa y z d = record {
  in_range = record {
    y = rw y (omega (arith, abs-mul ray.0 at (2 ^ 31) (2 ^ 30) r.y a));
    z = rw z (omega (arith, abs-mul ray.1 at (2 ^ 31) (2 ^ 30) r.z a));
    d = rw d r.y;
  };
  positive = rw d pr;
  on_line = y ∙ *ℤ_comm ray.0 at ∙ ap (λ x. at *ℤ x) (sym d);
  on_ray = record {
    along = ap (λ x. ray.0 *ℤ x -ℤ ray.1 *ℤ s.y) z ∙ ap (λ x. ray.0 *ℤ (ray.1 *ℤ at) -ℤ ray.1 *ℤ x) y ∙ ring (ray.0 ∷ ray.1 ∷ at ∷ []) (var 0 ⊗ (var 1 ⊗ var 2) ⊖ var 1 ⊗ (var 0 ⊗ var 2)) (whole (pos 0)) tt;
    forward = rw (y, z) (nonneg_as (ring (ray.0 ∷ ray.1 ∷ at ∷ []) (var 0 ⊗ (var 0 ⊗ var 2) ⊕ var 1 ⊗ (var 1 ⊗ var 2)) ((var 0 ⊗ var 0 ⊕ var 1 ⊗ var 1) ⊗ var 2) tt) (nonneg-mul (nonneg-add (nonneg-square ray.0) (nonneg-square ray.1)) pa));
  };
  across = λ e. zero_clash e pr;
}

pub crossing_behind : (ray : Point) (at : ℤ) (s : Crossing) → IsRayInRange ray → unsigned_abs at ≤ 2 ^ 30 → ray.0 <ℤ pos 0 → at ≤ℤ pos 0 → (s.y ≡ neg_ℤ ray.0 *ℤ at) → (s.z ≡ neg_ℤ ray.1 *ℤ at) → (s.d ≡ neg_ℤ ray.0) → IsCrossing ray at s
crossing_behind ray at s r a nr na y z d = record {
  in_range = record {
    y = rw y (omega (arith, abs-mul (neg_ℤ ray.0) at (2 ^ 31) (2 ^ 30) (rw (abs-neg ray.0) r.y) a));
    z = rw z (omega (arith, abs-mul (neg_ℤ ray.1) at (2 ^ 31) (2 ^ 30) (rw (abs-neg ray.1) r.z) a));
    d = rw (d, abs-neg ray.0) r.y;
  };
  positive = rw d (omega (arith, signs));
  on_line = y ∙ *ℤ_comm (neg_ℤ ray.0) at ∙ ap (λ x. at *ℤ x) (sym d);
  on_ray = record {
    along = ap (λ x. ray.0 *ℤ x -ℤ ray.1 *ℤ s.y) z ∙ ap (λ x. ray.0 *ℤ (neg_ℤ ray.1 *ℤ at) -ℤ ray.1 *ℤ x) y ∙ ring (ray.0 ∷ ray.1 ∷ at ∷ []) (var 0 ⊗ (minus (var 1) ⊗ var 2) ⊖ var 1 ⊗ (minus (var 0) ⊗ var 2)) (whole (pos 0)) tt;
    forward = rw (y, z) (nonneg_as (ring (ray.0 ∷ ray.1 ∷ at ∷ []) (var 0 ⊗ (minus (var 0) ⊗ var 2) ⊕ var 1 ⊗ (minus (var 1) ⊗ var 2)) ((var 0 ⊗ var 0 ⊕ var 1 ⊗ var 1) ⊗ (whole (pos 0) ⊖ var 2)) tt) (nonneg-mul (nonneg-add (nonneg-square ray.0) (nonneg-square ray.1)) (le_to na)));
  };
  across = λ e. omega (arith, signs, e);
}

-- A point of the edge on the ray is the crossing, which is in the range too.
pub crossing_between : (ray : Point) (at : ℤ) (range : Point) (s : Crossing) (p : Point) (d : ℤ) → IsCrossing ray at s → pos 0 <ℤ d → (p.0 ≡ at *ℤ d) → (range.0 *ℤ d) ≤ℤ p.1 → p.1 ≤ℤ (range.1 *ℤ d) → IsOnRay ray p → IsBetween range s.z s.d
crossing_between ray at range s p d o pd y l h r =
    let e = (met_once ray at p (s.y, s.z) d s.d o.across y o.on_line r o.on_ray).1 in
    let D = var 0 in let E = var 1 in let Z = var 2 in let S = var 3 in let L = var 4 in
    let same : p.1 *ℤ s.d -ℤ s.z *ℤ d ≡ pos 0 = omega (arith, signs) in
    let below = ring (d ∷ s.d ∷ p.1 ∷ s.z ∷ range.0 ∷ []) (D ⊗ (S ⊖ L ⊗ E)) (E ⊗ (Z ⊖ L ⊗ D) ⊖ (Z ⊗ E ⊖ S ⊗ D)) tt ∙ ap (λ x. s.d *ℤ (p.1 -ℤ range.0 *ℤ d) -ℤ x) same ∙ ring (d ∷ s.d ∷ p.1 ∷ s.z ∷ range.0 ∷ []) (E ⊗ (Z ⊖ L ⊗ D) ⊖ whole (pos 0)) (E ⊗ (Z ⊖ L ⊗ D)) tt in
    let above = ring (d ∷ s.d ∷ p.1 ∷ s.z ∷ range.1 ∷ []) (D ⊗ (L ⊗ E ⊖ S)) (E ⊗ (L ⊗ D ⊖ Z) ⊕ (Z ⊗ E ⊖ S ⊗ D)) tt ∙ ap (λ x. s.d *ℤ (range.1 *ℤ d -ℤ p.1) +ℤ x) same ∙ ring (d ∷ s.d ∷ p.1 ∷ s.z ∷ range.1 ∷ []) (E ⊗ (L ⊗ D ⊖ Z) ⊕ whole (pos 0)) (E ⊗ (L ⊗ D ⊖ Z)) tt in (
      le_from (nonneg_by_factor pd (nonneg_as below (nonneg-mul (positive-nonneg o.positive) (le_to l)))),
      le_from (nonneg_by_factor pd (nonneg_as above (nonneg-mul (positive-nonneg o.positive) (le_to h)))),
    )
