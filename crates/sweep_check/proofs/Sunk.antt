-- Why what isn't tested against a sunk box never meets it, for one turn and one rise.
use Rattle.std.proofs.Common.{◌≡◌, inl, inr, ℤ, pos, ◌+ℤ◌, ◌-ℤ◌, ◌*ℤ◌, neg_ℤ, ◌≤ℤ◌, ◌<ℤ◌, arith, List, [], ◌∷◌, ap, ◌∙◌}
use Rattle.algebra.proofs.Order.{signs, nonneg-mul, nonneg-add, nonneg-square, positive-mul, positive-add, positive-nonneg, le_to, lt_to, zero_clash, by_order}
use Rattle.algebra.proofs.Ring.{ring, var, whole, ◌⊕◌, ◌⊖◌, ◌⊗◌, minus}
use Rattle.brake_base.specs.declared.plane.Rat2.{Rat2}
use Rattle.sector_geom.specs.Motion.{Triple, IsTriple, IsRise}

-- the cosine isn't 0, and no greater than 1
pub record IsSteady (t : Triple) : Type 0 where
  pub right : pos 0 <ℤ t.a
  pub short : pos 0 ≤ℤ (t.c -ℤ t.a)
  pub order : pos 0 ≤ℤ (t.a -ℤ t.b)

-- a factor of what is 0 by the squares of a triple
by_squares : (t : Triple) → IsTriple t → (k : ℤ) → k *ℤ (t.c *ℤ t.c -ℤ (t.a *ℤ t.a +ℤ t.b *ℤ t.b)) ≡ pos 0
by_squares t turn k =
    let none : t.c *ℤ t.c -ℤ (t.a *ℤ t.a +ℤ t.b *ℤ t.b) ≡ pos 0 = omega (arith, signs, turn.squares) in
    ap (λ x. k *ℤ x) none ∙ ring (k ∷ []) (var 0 ⊗ whole (pos 0)) (whole (pos 0)) tt

not_left : (t : Triple) → IsTriple t → pos 0 ≤ℤ neg_ℤ t.a → ⊥
not_left t turn left =
    let A = var 0 in let B = var 1 in let C = var 2 in
    let right : pos 0 ≤ℤ t.a = omega (arith, signs, turn.upward, turn.half_right) in
    zero_clash (ring (t.a ∷ t.b ∷ t.c ∷ []) (C ⊗ C ⊕ (minus A ⊗ A ⊕ (B ⊗ (A ⊖ B) ⊕ minus A ⊗ B))) (whole (pos 1) ⊗ (C ⊗ C ⊖ (A ⊗ A ⊕ B ⊗ B))) tt ∙ by_squares t turn (pos 1))
    (positive-add (positive-mul turn.positive turn.positive) (nonneg-add (nonneg-mul left right) (nonneg-add (nonneg-mul turn.upward (le_to turn.half_right)) (nonneg-mul left turn.upward))))

not_long : (t : Triple) → IsTriple t → pos 0 <ℤ (t.a -ℤ t.c) → ⊥
not_long t turn long =
    let A = var 0 in let B = var 1 in let C = var 2 in
    let both : pos 0 <ℤ (t.a +ℤ t.c) = omega (arith, signs, turn.upward, turn.half_right, turn.positive) in
    zero_clash (ring (t.a ∷ t.b ∷ t.c ∷ []) ((A ⊖ C) ⊗ (A ⊕ C) ⊕ B ⊗ B) (minus (whole (pos 1)) ⊗ (C ⊗ C ⊖ (A ⊗ A ⊕ B ⊗ B))) tt ∙ by_squares t turn (neg_ℤ (pos 1)))
    (positive-add (positive-mul long both) (nonneg-square t.b))

pub steady : (t : Triple) → IsTriple t → IsSteady t
steady t turn = record {
  right = elim (by_order t.a) [ inl some ↦ some | inr left ↦ absurd (not_left t turn left) ];
  short = elim (by_order (t.a -ℤ t.c)) [ inl long ↦ absurd (not_long t turn long) | inr short ↦ omega (arith, signs, short) ];
  order = le_to turn.half_right;
}

-- A point at or behind the punch's tip and no deeper than the sheet is thick, and how far the tools have risen.
pub record Rising (thickness half : ℤ) (t : Triple) (p : Rat2) (e d : ℤ) : Type 0 where
  pub turn : IsTriple t
  pub steady : IsSteady t
  pub thin : pos 0 ≤ℤ thickness
  pub opened : pos 0 ≤ℤ half
  pub positive : pos 0 <ℤ p.d
  pub behind : pos 0 ≤ℤ p.y
  pub high : pos 0 ≤ℤ (p.z +ℤ thickness *ℤ p.d)
  pub rise : IsRise thickness half t e d

-- the variables of the certificates below: the triple, the point, the rise, half the opening, the thickness, an end of the box, its top
abbrev values : ℤ → ℤ → Triple → Rat2 → ℤ → ℤ → ℤ → ℤ → List ℤ
values thickness half t p e d side top = t.a ∷ t.b ∷ t.c ∷ p.y ∷ p.z ∷ p.d ∷ e ∷ d ∷ half ∷ thickness ∷ side ∷ top ∷ []

-- how much of the rise is left, and how far below the risen top the turned point lies
left_of_rise : (thickness half : ℤ) (t : Triple) (p : Rat2) (e d : ℤ) → Rising thickness half t p e d → pos 0 ≤ℤ ((half *ℤ t.b -ℤ thickness *ℤ (t.c -ℤ t.a)) *ℤ d -ℤ e *ℤ t.a)
left_of_rise thickness half t p e d r = le_to r.rise.limit

-- A box that lies at least half the opening behind the tip.
pub behind_misses : (thickness half : ℤ) (t : Triple) (p : Rat2) (e d : ℤ) → Rising thickness half t p e d → (side top : ℤ) → half ≤ℤ side → pos 0 ≤ℤ (neg_ℤ top -ℤ thickness)
    → (side *ℤ (t.c *ℤ p.d)) <ℤ (t.a *ℤ p.y -ℤ t.b *ℤ p.z) → ((t.b *ℤ p.y +ℤ t.a *ℤ p.z) *ℤ d) <ℤ ((top *ℤ d +ℤ e) *ℤ (t.c *ℤ p.d)) → ⊥
behind_misses thickness half t p e d r side top far deep left under =
    let A = var 0 in let B = var 1 in let C = var 2 in let Y = var 3 in let Z = var 4 in let P = var 5 in
    let E = var 6 in let D = var 7 in let H = var 8 in let T = var 9 in let S = var 10 in let Top = var 11 in
    let Q = C ⊗ P in
    let q = positive-mul r.turn.positive r.positive in
    let pd = positive-nonneg r.rise.positive in
    let pa = positive-nonneg r.steady.right in
    let pb = r.turn.upward in
    let db = nonneg-mul pd pb in
    zero_clash
    (ring (values thickness half t p e d side top)
    (A ⊗ ((Top ⊗ D ⊕ E) ⊗ Q ⊖ (B ⊗ Y ⊕ A ⊗ Z) ⊗ D)
    ⊕ ((D ⊗ B) ⊗ ((A ⊗ Y ⊖ B ⊗ Z) ⊖ S ⊗ Q)
    ⊕ ((D ⊗ B) ⊗ ((S ⊖ H) ⊗ Q)
    ⊕ (D ⊗ ((C ⊗ C) ⊗ (Z ⊕ T ⊗ P))
    ⊕ (Q ⊗ ((H ⊗ B ⊖ T ⊗ (C ⊖ A)) ⊗ D ⊖ E ⊗ A)
    ⊕ (minus Top ⊖ T) ⊗ (A ⊗ (D ⊗ Q)))))))
    ((D ⊗ Z) ⊗ (C ⊗ C ⊖ (A ⊗ A ⊕ B ⊗ B))) tt
    ∙ by_squares t r.turn (d *ℤ p.z))
    (positive-add (positive-mul r.steady.right (lt_to under))
    (nonneg-add (nonneg-mul db (positive-nonneg (lt_to left)))
    (nonneg-add (nonneg-mul db (nonneg-mul (le_to far) (positive-nonneg q)))
    (nonneg-add (nonneg-mul pd (nonneg-mul (nonneg-square t.c) r.high))
    (nonneg-add (nonneg-mul (positive-nonneg q) (left_of_rise thickness half t p e d r))
    (nonneg-mul deep (nonneg-mul pa (nonneg-mul pd (positive-nonneg q)))))))))

-- One that lies at least half the opening before the tip.
pub before_misses : (thickness half : ℤ) (t : Triple) (p : Rat2) (e d : ℤ) → Rising thickness half t p e d → (side top : ℤ) → side ≤ℤ neg_ℤ half → pos 0 ≤ℤ (neg_ℤ top -ℤ thickness)
    → (t.a *ℤ p.y -ℤ t.b *ℤ p.z) <ℤ (side *ℤ (t.c *ℤ p.d)) → ((t.b *ℤ p.y +ℤ t.a *ℤ p.z) *ℤ d) <ℤ ((top *ℤ d +ℤ e) *ℤ (t.c *ℤ p.d)) → ⊥
before_misses thickness half t p e d r side top far deep right under =
    let A = var 0 in let B = var 1 in let C = var 2 in let Y = var 3 in let Z = var 4 in let P = var 5 in
    let E = var 6 in let D = var 7 in let H = var 8 in let T = var 9 in let S = var 10 in let Top = var 11 in
    let Q = C ⊗ P in
    let q = positive-mul r.turn.positive r.positive in
    let pq = positive-nonneg q in
    let pd = positive-nonneg r.rise.positive in
    let pa = positive-nonneg r.steady.right in
    let pb = r.turn.upward in
    let ab = nonneg-mul pa pb in
    let aad = positive-mul (positive-mul r.steady.right r.steady.right) r.rise.positive in
    let low : pos 0 ≤ℤ neg_ℤ top = omega (arith, signs, deep, r.thin) in
    zero_clash
    (ring (values thickness half t p e d side top)
    (((A ⊗ A) ⊗ D) ⊗ (S ⊗ Q ⊖ (A ⊗ Y ⊖ B ⊗ Z))
    ⊕ (((A ⊗ A) ⊗ D) ⊗ ((minus H ⊖ S) ⊗ Q)
    ⊕ ((A ⊗ D) ⊗ ((C ⊗ C) ⊗ Y)
    ⊕ ((A ⊗ B) ⊗ ((Top ⊗ D ⊕ E) ⊗ Q ⊖ (B ⊗ Y ⊕ A ⊗ Z) ⊗ D)
    ⊕ (B ⊗ (Q ⊗ ((H ⊗ B ⊖ T ⊗ (C ⊖ A)) ⊗ D ⊖ E ⊗ A))
    ⊕ ((A ⊗ B) ⊗ (minus Top ⊗ (D ⊗ Q))
    ⊕ ((B ⊗ T) ⊗ ((C ⊖ A) ⊗ (D ⊗ Q))
    ⊕ (H ⊗ (D ⊗ Q)) ⊗ ((A ⊖ B) ⊗ (A ⊕ B)))))))))
    (((A ⊗ D) ⊗ Y) ⊗ (C ⊗ C ⊖ (A ⊗ A ⊕ B ⊗ B))) tt
    ∙ by_squares t r.turn ((t.a *ℤ d) *ℤ p.y))
    (positive-add (positive-mul aad (lt_to right))
    (nonneg-add (nonneg-mul (positive-nonneg aad) (nonneg-mul (le_to far) pq))
    (nonneg-add (nonneg-mul (nonneg-mul pa pd) (nonneg-mul (nonneg-square t.c) r.behind))
    (nonneg-add (nonneg-mul ab (positive-nonneg (lt_to under)))
    (nonneg-add (nonneg-mul pb (nonneg-mul pq (left_of_rise thickness half t p e d r)))
    (nonneg-add (nonneg-mul ab (nonneg-mul low (nonneg-mul pd pq)))
    (nonneg-add (nonneg-mul (nonneg-mul pb r.thin) (nonneg-mul r.steady.short (nonneg-mul pd pq)))
    (nonneg-mul (nonneg-mul r.opened (nonneg-mul pd pq)) (nonneg-mul r.steady.order (nonneg-add pa pb))))))))))

-- One that lies as deep as half the opening.
pub below_misses : (thickness half : ℤ) (t : Triple) (p : Rat2) (e d : ℤ) → Rising thickness half t p e d → (top : ℤ) → pos 0 ≤ℤ ((neg_ℤ half -ℤ thickness) -ℤ top)
    → ((t.b *ℤ p.y +ℤ t.a *ℤ p.z) *ℤ d) <ℤ ((top *ℤ d +ℤ e) *ℤ (t.c *ℤ p.d)) → ⊥
below_misses thickness half t p e d r top deep under =
    let A = var 0 in let B = var 1 in let C = var 2 in let Y = var 3 in let Z = var 4 in let P = var 5 in
    let E = var 6 in let D = var 7 in let H = var 8 in let T = var 9 in let Top = var 11 in
    let Q = C ⊗ P in
    let q = positive-mul r.turn.positive r.positive in
    let pq = positive-nonneg q in
    let pd = positive-nonneg r.rise.positive in
    let pa = positive-nonneg r.steady.right in
    let pb = r.turn.upward in
    zero_clash
    (ring (values thickness half t p e d (pos 0) top)
    (A ⊗ ((Top ⊗ D ⊕ E) ⊗ Q ⊖ (B ⊗ Y ⊕ A ⊗ Z) ⊗ D)
    ⊕ ((A ⊗ D) ⊗ (B ⊗ Y)
    ⊕ (((A ⊗ A) ⊗ D) ⊗ (Z ⊕ T ⊗ P)
    ⊕ (Q ⊗ ((H ⊗ B ⊖ T ⊗ (C ⊖ A)) ⊗ D ⊖ E ⊗ A)
    ⊕ (((minus H ⊖ T) ⊖ Top) ⊗ (A ⊗ (D ⊗ Q))
    ⊕ ((H ⊗ (A ⊖ B)) ⊗ (D ⊗ Q)
    ⊕ (T ⊗ (D ⊗ P)) ⊗ (B ⊗ B)))))))
    (minus (T ⊗ (D ⊗ P)) ⊗ (C ⊗ C ⊖ (A ⊗ A ⊕ B ⊗ B))) tt
    ∙ by_squares t r.turn (neg_ℤ (thickness *ℤ (d *ℤ p.d))))
    (positive-add (positive-mul r.steady.right (lt_to under))
    (nonneg-add (nonneg-mul (nonneg-mul pa pd) (nonneg-mul pb r.behind))
    (nonneg-add (nonneg-mul (nonneg-mul (nonneg-square t.a) pd) r.high)
    (nonneg-add (nonneg-mul pq (left_of_rise thickness half t p e d r))
    (nonneg-add (nonneg-mul deep (nonneg-mul pa (nonneg-mul pd pq)))
    (nonneg-add (nonneg-mul (nonneg-mul r.opened r.steady.order) (nonneg-mul pd pq))
    (nonneg-mul (nonneg-mul r.thin (nonneg-mul pd (positive-nonneg r.positive))) (nonneg-square t.b))))))))
