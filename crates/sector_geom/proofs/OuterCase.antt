-- The clear law.
use Rattle.std.proofs.Common.{◌≡◌, ◌⊎◌, inl, inr, ℤ, pos, ◌+ℤ◌, ◌-ℤ◌, ◌*ℤ◌, neg_ℤ, ◌≤ℤ◌, ◌<ℤ◌, arith, [], ◌∷◌, ap, ◌∙◌, refl}
use Rattle.algebra.proofs.Order.{signs, nonneg-mul, nonneg-add, nonneg-square, positive-mul, positive-nonneg, nonneg_by_factor, nonneg_as, positive_as, by_sign, le_from, le_to, lt_from, lt_to, positive_by_factor, positive-add, zero_clash, by_order, le_of_same, le_of_lt, size, size-bounds}
use lib.IntN.{*ℤ-zero, *ℤ_comm, +ℤ_comm}
use Rattle.algebra.proofs.Ring.{ring, var, whole, ◌⊕◌, ◌⊖◌, ◌⊗◌, minus}
use Rattle.brake_base.specs.declared.plane.Rect.{Rect}
use Rattle.sector_geom.specs.Plane.{Point, Holds, IsInside, cross_of, dot_of, norm_of}
use Rattle.sector_geom.specs.Clear.{IsInWedge, IsOnRay, AllWithin}
use Rattle.sector_geom.specs.Clear.IsSpecial.{corner, upper_side}
use Rattle.sector_geom.proofs.Wedge.{IsWedge}
use Rattle.sector_geom.proofs.Turns.{over, back, back_rect, flip, flip_rect, norm-back, norm-flip}
use Rattle.sector_geom.proofs.Symmetry.{IsWedge-flip, IsInWedge-flip, IsInside-flip, AllWithin-flip, IsWedge-back, IsInWedge-back, IsInside-back, AllWithin-back}

pub wedge_turns : (l u : Point) → IsWedge l u → pos 0 ≤ℤ cross_of l u
wedge_turns l u (inl wide) = omega (arith, signs)
wedge_turns l u (inr flat) = omega (arith, signs, flat.0)

-- no point of the wedge is right of the axis, where both rays are left of it
narrow : (l u e : Point) → IsWedge l u → IsInWedge l u e → pos 0 <ℤ e.0 → pos 0 <ℤ neg_ℤ l.0 → pos 0 ≤ℤ neg_ℤ u.0 → ⊥
narrow l u e w i pe nl nu =
    let LY = var 0 in let LZ = var 1 in let UY = var 2 in let UZ = var 3 in let EY = var 4 in let EZ = var 5 in
    let xs = l.0 ∷ l.1 ∷ u.0 ∷ u.1 ∷ e.0 ∷ e.1 ∷ [] in
    let LU = LY ⊗ UZ ⊖ LZ ⊗ UY in
    elim w [
      | inl wide ↦ zero_clash (ring xs (EY ⊗ LU ⊕ (minus LY ⊗ (whole (pos 0) ⊖ (UY ⊗ EZ ⊖ UZ ⊗ EY)) ⊕ minus UY ⊗ (LY ⊗ EZ ⊖ LZ ⊗ EY))) (whole (pos 0)) tt)
          (positive-add (positive-mul pe wide) (nonneg-add (nonneg-mul (positive-nonneg nl) (le_to i.before_upper)) (nonneg-mul nu i.after_lower)))
      | inr half ↦ zero_clash (ring xs (minus LY ⊗ (whole (pos 0) ⊖ (LY ⊗ UY ⊕ LZ ⊗ UZ)) ⊕ (LY ⊗ LY ⊕ LZ ⊗ LZ) ⊗ minus UY) (LZ ⊗ LU) tt ∙ ap (λ x. l.1 *ℤ x) half.0 ∙ *ℤ-zero l.1)
          (positive-add (positive-mul nl (lt_to half.1)) (nonneg-mul (nonneg-add (nonneg-square l.0) (nonneg-square l.1)) nu))
    ]

-- T stands above the point e of the wedge, on a line y = h to the right: the wedge holds T, or its upper ray passes below T
pub pinch : (l u e T : Point) → IsWedge l u → IsInWedge l u e → pos 0 <ℤ e.0 → pos 0 <ℤ T.0 → (e.1 *ℤ T.0) ≤ℤ (T.1 *ℤ e.0) → IsInWedge l u T ⊎ ((pos 0 <ℤ u.0) × (pos 0 <ℤ cross_of u T))
pinch l u e T w i pe pt above = by_upper (by_order (cross_of u T)) (by_sign (cross_of l T)) (by_order u.0)
  where
    by_upper : ((pos 0 <ℤ cross_of u T) ⊎ (pos 0 ≤ℤ neg_ℤ (cross_of u T))) → ((pos 0 ≤ℤ cross_of l T) ⊎ (cross_of l T <ℤ pos 0)) → ((pos 0 <ℤ u.0) ⊎ (pos 0 ≤ℤ neg_ℤ u.0)) → IsInWedge l u T ⊎ ((pos 0 <ℤ u.0) × (pos 0 <ℤ cross_of u T))
    by_upper (inl below) _ _ =
        let LY = var 0 in let LZ = var 1 in let UY = var 2 in let UZ = var 3 in let EY = var 4 in let EZ = var 5 in let TY = var 6 in let TZ = var 7 in
        let xs = l.0 ∷ l.1 ∷ u.0 ∷ u.1 ∷ e.0 ∷ e.1 ∷ T.0 ∷ T.1 ∷ [] in
        inr (positive_by_factor (le_to above) (positive_as (ring xs ((TZ ⊗ EY ⊖ EZ ⊗ TY) ⊗ UY) ((UY ⊗ TZ ⊖ UZ ⊗ TY) ⊗ EY ⊕ (whole (pos 0) ⊖ (UY ⊗ EZ ⊖ UZ ⊗ EY)) ⊗ TY) tt) (positive-add (positive-mul below pe) (nonneg-mul (le_to i.before_upper) (positive-nonneg pt)))), below)
    by_upper (inr past) (inl after) _ = inl (record { after_lower = after; before_upper = omega (arith, signs) })
    by_upper (inr past) (inr out) side =
        let LY = var 0 in let LZ = var 1 in let UY = var 2 in let UZ = var 3 in let EY = var 4 in let EZ = var 5 in let TY = var 6 in let TZ = var 7 in
        let xs = l.0 ∷ l.1 ∷ u.0 ∷ u.1 ∷ e.0 ∷ e.1 ∷ T.0 ∷ T.1 ∷ [] in
        let left : pos 0 <ℤ neg_ℤ l.0 = positive_by_factor (le_to above) (positive_as (ring xs ((TZ ⊗ EY ⊖ EZ ⊗ TY) ⊗ minus LY) ((whole (pos 0) ⊖ (LY ⊗ TZ ⊖ LZ ⊗ TY)) ⊗ EY ⊕ (LY ⊗ EZ ⊖ LZ ⊗ EY) ⊗ TY) tt) (positive-add (positive-mul (lt_to out) pe) (nonneg-mul i.after_lower (positive-nonneg pt)))) in
        let half : pos 0 ≤ℤ cross_of l u = wedge_turns l u w in
        elim side [
          | inl right ↦ zero_clash (ring xs (UY ⊗ (whole (pos 0) ⊖ (LY ⊗ TZ ⊖ LZ ⊗ TY)) ⊕ (minus LY ⊗ minus (UY ⊗ TZ ⊖ UZ ⊗ TY) ⊕ TY ⊗ (LY ⊗ UZ ⊖ LZ ⊗ UY))) (whole (pos 0)) tt)
              (positive-add (positive-mul right (lt_to out)) (nonneg-add (nonneg-mul (positive-nonneg left) past) (nonneg-mul (positive-nonneg pt) half)))
          | inr also ↦ absurd (narrow l u e w i pe left also)
        ]

pub ordered : (r : Rect) (p : Point) (d : ℤ) → IsInside r (over p d) → (pos 0 <ℤ (r.y1 -ℤ r.y0)) × (pos 0 <ℤ (r.z1 -ℤ r.z0))
ordered r p d h =
    let y = ring (d ∷ r.y0 ∷ r.y1 ∷ p.0 ∷ []) (var 0 ⊗ (var 2 ⊖ var 1)) ((var 2 ⊗ var 0 ⊖ var 3) ⊕ (var 3 ⊖ var 1 ⊗ var 0)) tt in
    let z = ring (d ∷ r.z0 ∷ r.z1 ∷ p.1 ∷ []) (var 0 ⊗ (var 2 ⊖ var 1)) ((var 2 ⊗ var 0 ⊖ var 3) ⊕ (var 3 ⊖ var 1 ⊗ var 0)) tt in (
      positive_by_factor (positive-nonneg h.positive) (positive_as y (positive-add (lt_to h.right) (le_to (le_of_lt h.left)))),
      positive_by_factor (positive-nonneg h.positive) (positive_as z (positive-add (lt_to h.high) (le_to (le_of_lt h.low)))),
    )

-- what is n ^ (1/2) from the origin is not both beyond a point and before it
closing_far : (n y z h d : ℤ) → pos 0 <ℤ y → pos 0 <ℤ (h *ℤ d -ℤ y) → pos 0 ≤ℤ (n *ℤ (y *ℤ y) -ℤ (h *ℤ h) *ℤ (y *ℤ y +ℤ z *ℤ z)) → pos 0 ≤ℤ (y *ℤ y +ℤ z *ℤ z -ℤ n *ℤ (d *ℤ d)) → ⊥
closing_far n y z h d py above within beyond =
    let N = var 0 in let Y = var 1 in let Z = var 2 in let H = var 3 in let D = var 4 in
    let S = Y ⊗ Y ⊕ Z ⊗ Z in
    let sum : pos 0 <ℤ (h *ℤ d +ℤ y) = omega (arith, signs) in
    zero_clash (ring (n ∷ y ∷ z ∷ h ∷ d ∷ []) (S ⊗ ((H ⊗ D ⊖ Y) ⊗ (H ⊗ D ⊕ Y)) ⊕ (D ⊗ D ⊗ (N ⊗ (Y ⊗ Y) ⊖ (H ⊗ H) ⊗ S) ⊕ Y ⊗ Y ⊗ (S ⊖ N ⊗ (D ⊗ D)))) (whole (pos 0)) tt)
    (positive-add (positive-mul (positive-add (positive-mul py py) (nonneg-square z)) (positive-mul above sum)) (nonneg-add (nonneg-mul (nonneg-square d) within) (nonneg-mul (nonneg-square y) beyond)))

-- where the upper ray meets the line y = h below (h, t)
abbrev pub meet : Point → ℤ → Point
meet u h = (u.0 *ℤ h, u.1 *ℤ h)

pub met_holds : (u p : Point) (r : Rect) (h t : ℤ) → pos 0 <ℤ u.0 → pos 0 <ℤ p.0 → pos 0 <ℤ h → cross_of u p ≤ℤ pos 0 → pos 0 <ℤ cross_of u (h, t)
    → r.y0 ≤ℤ h → h ≤ℤ r.y1 → (r.z0 *ℤ p.0) ≤ℤ (p.1 *ℤ h) → t ≤ℤ r.z1 → Holds r (over (meet u h) u.0)
met_holds u p r h t pu py ph after below l0 l1 low top =
    let UY = var 0 in let UZ = var 1 in let Y = var 2 in let Z = var 3 in let H = var 4 in let T = var 5 in let Y0 = var 6 in let Y1 = var 7 in let Z0 = var 8 in let Z1 = var 9 in
    let xs = u.0 ∷ u.1 ∷ p.0 ∷ p.1 ∷ h ∷ t ∷ r.y0 ∷ r.y1 ∷ r.z0 ∷ r.z1 ∷ [] in
    record {
      positive = pu;
      left = le_from (nonneg_as (ring xs (UY ⊗ H ⊖ Y0 ⊗ UY) (UY ⊗ (H ⊖ Y0)) tt) (nonneg-mul (positive-nonneg pu) (le_to l0)));
      right = le_from (nonneg_as (ring xs (Y1 ⊗ UY ⊖ UY ⊗ H) (UY ⊗ (Y1 ⊖ H)) tt) (nonneg-mul (positive-nonneg pu) (le_to l1)));
      low = le_from (nonneg_by_factor py (nonneg_as (ring xs (Y ⊗ (UZ ⊗ H ⊖ Z0 ⊗ UY)) ((whole (pos 0) ⊖ (UY ⊗ Z ⊖ UZ ⊗ Y)) ⊗ H ⊕ UY ⊗ (Z ⊗ H ⊖ Z0 ⊗ Y)) tt)
          (nonneg-add (nonneg-mul (le_to after) (positive-nonneg ph)) (nonneg-mul (positive-nonneg pu) (le_to low)))));
      high = le_from (nonneg_as (ring xs (Z1 ⊗ UY ⊖ UZ ⊗ H) (UY ⊗ (Z1 ⊖ T) ⊕ (UY ⊗ T ⊖ UZ ⊗ H)) tt) (nonneg-add (nonneg-mul (positive-nonneg pu) (le_to top)) (positive-nonneg below)));
    }

pub met_on_ray : (u : Point) (h : ℤ) → pos 0 <ℤ h → IsOnRay u (meet u h)
met_on_ray u h ph = record {
  along = ring (u.0 ∷ u.1 ∷ h ∷ []) (var 0 ⊗ (var 1 ⊗ var 2) ⊖ var 1 ⊗ (var 0 ⊗ var 2)) (whole (pos 0)) tt;
  forward = nonneg_as (ring (u.0 ∷ u.1 ∷ h ∷ []) (var 0 ⊗ (var 0 ⊗ var 2) ⊕ var 1 ⊗ (var 1 ⊗ var 2)) ((var 0 ⊗ var 0 ⊕ var 1 ⊗ var 1) ⊗ var 2) tt) (nonneg-mul (nonneg-add (nonneg-square u.0) (nonneg-square u.1)) (positive-nonneg ph));
}

-- the ray through p leaves the rectangle at its right side, at or above the axis
far_right_up : (l u : Point) (r : Rect) (p : Point) (d n : ℤ) → IsWedge l u → IsInWedge l u p → IsInside r (over p d) → pos 0 <ℤ p.0 → (r.z0 *ℤ p.0) ≤ℤ (p.1 *ℤ r.y1) → (p.1 *ℤ r.y1) ≤ℤ (r.z1 *ℤ p.0) → pos 0 ≤ℤ p.1 → AllWithin l u r n → (n *ℤ (d *ℤ d)) ≤ℤ norm_of p → ⊥
far_right_up l u r p d n w i h py low high pz all beyond = by_pinch (pinch l u p (r.y1, r.z1) w i py py1 high)
  where
    py1 : pos 0 <ℤ r.y1
    py1 = positive_by_factor (positive-nonneg h.positive) (positive_as (ring (d ∷ r.y1 ∷ p.0 ∷ []) (var 0 ⊗ var 1) (var 2 ⊕ (var 1 ⊗ var 0 ⊖ var 2)) tt) (positive-add py (le_to (le_of_lt h.right))))

    pzy : pos 0 ≤ℤ (p.1 *ℤ r.y1)
    pzy = nonneg-mul pz (positive-nonneg py1)

    by_pinch : IsInWedge l u (r.y1, r.z1) ⊎ ((pos 0 <ℤ u.0) × (pos 0 <ℤ cross_of u (r.y1, r.z1))) → ⊥
    by_pinch (inl c) =
        let o = ordered r p d h in
        let one_y = ring (r.y1 ∷ []) (var 0) (var 0 ⊗ whole (pos 1)) tt in
        let one_z = ring (r.z1 ∷ []) (var 0) (var 0 ⊗ whole (pos 1)) tt in
        let held : Holds r (over (r.y1, r.z1) (pos 1)) = record {
          positive = lt_from (omega (arith, signs));
          left = le_from (nonneg_as (ring (r.y0 ∷ r.y1 ∷ []) (var 1 ⊖ var 0 ⊗ whole (pos 1)) (var 1 ⊖ var 0) tt) (positive-nonneg o.0));
          right = le_of_same one_y;
          low = le_from (nonneg_as (ring (r.z0 ∷ r.z1 ∷ []) (var 1 ⊖ var 0 ⊗ whole (pos 1)) (var 1 ⊖ var 0) tt) (positive-nonneg o.1));
          high = le_of_same one_z;
        } in
        let near = all (over (r.y1, r.z1) (pos 1)) held (corner (inr one_y) (inr one_z) c) in
        let N = var 0 in let Y = var 1 in let Z = var 2 in let Y1 = var 3 in let Z1 = var 4 in
        closing_far n p.0 p.1 r.y1 d py (lt_to h.right)
        (nonneg_as (ring (n ∷ p.0 ∷ p.1 ∷ r.y1 ∷ r.z1 ∷ []) (N ⊗ (Y ⊗ Y) ⊖ (Y1 ⊗ Y1) ⊗ (Y ⊗ Y ⊕ Z ⊗ Z)) ((N ⊗ (whole (pos 1) ⊗ whole (pos 1)) ⊖ (Y1 ⊗ Y1 ⊕ Z1 ⊗ Z1)) ⊗ (Y ⊗ Y) ⊕ (Z1 ⊗ Y ⊖ Z ⊗ Y1) ⊗ (Z1 ⊗ Y ⊕ Z ⊗ Y1)) tt)
        (nonneg-add (nonneg-mul (le_to near) (nonneg-square p.0)) (nonneg-mul (le_to high) (nonneg-add (omega (arith, signs, pzy)) pzy))))
        (le_to beyond)
    by_pinch (inr b) =
        let pu = b.0 in
        let held = met_holds u p r r.y1 r.z1 pu py py1 i.before_upper b.1 (le_from (positive-nonneg (ordered r p d h).0)) (le_of_same refl) low (le_of_same refl) in
        let near = all (over (meet u r.y1) u.0) held (upper_side (inr (*ℤ_comm u.0 r.y1)) (met_on_ray u r.y1 py1) (λ e. zero_clash e pu)) in
        let N = var 0 in let Y = var 1 in let Z = var 2 in let H = var 3 in let UY = var 4 in let UZ = var 5 in
        let xs = n ∷ p.0 ∷ p.1 ∷ r.y1 ∷ u.0 ∷ u.1 ∷ [] in
        let puz = nonneg-mul (positive-nonneg pu) pz in
        let sum : pos 0 ≤ℤ (u.1 *ℤ p.0 +ℤ u.0 *ℤ p.1) = omega (arith, signs, i.before_upper) in
        closing_far n p.0 p.1 r.y1 d py (lt_to h.right)
        (nonneg_by_factor (positive-mul pu pu) (nonneg_as (ring xs (UY ⊗ UY ⊗ (N ⊗ (Y ⊗ Y) ⊖ (H ⊗ H) ⊗ (Y ⊗ Y ⊕ Z ⊗ Z))) ((N ⊗ (UY ⊗ UY) ⊖ (UY ⊗ H ⊗ (UY ⊗ H) ⊕ UZ ⊗ H ⊗ (UZ ⊗ H))) ⊗ (Y ⊗ Y) ⊕ (H ⊗ H) ⊗ ((whole (pos 0) ⊖ (UY ⊗ Z ⊖ UZ ⊗ Y)) ⊗ (UZ ⊗ Y ⊕ UY ⊗ Z))) tt)
        (nonneg-add (nonneg-mul (le_to near) (nonneg-square p.0)) (nonneg-mul (nonneg-square r.y1) (nonneg-mul (le_to i.before_upper) sum)))))
        (le_to beyond)

-- what the proof of the fourth case keeps
pub record FarCase (l u : Point) (r : Rect) (n : ℤ) (p : Point) (d : ℤ) : Type 0 where
  pub wedge : IsWedge l u
  pub seen : IsInWedge l u p
  pub inside : IsInside r (over p d)
  pub all : AllWithin l u r n
  pub beyond : (n *ℤ (d *ℤ d)) ≤ℤ norm_of p

far_flip : (l u : Point) (r : Rect) (n : ℤ) (p : Point) (d : ℤ) → FarCase l u r n p d → FarCase (flip u) (flip l) (flip_rect r) n (flip p) d
far_flip l u r n p d c = record {
  wedge = IsWedge-flip l u c.wedge;
  seen = IsInWedge-flip l u p c.seen;
  inside = IsInside-flip r p d c.inside;
  all = AllWithin-flip l u r n c.all;
  beyond = rw (norm-flip p) c.beyond;
}

far_back : (l u : Point) (r : Rect) (n : ℤ) (p : Point) (d : ℤ) → FarCase l u r n p d → FarCase (back l) (back u) (back_rect r) n (back p) d
far_back l u r n p d c = record {
  wedge = IsWedge-back l u c.wedge;
  seen = IsInWedge-back l u p c.seen;
  inside = IsInside-back r p d c.inside;
  all = AllWithin-back l u r n c.all;
  beyond = rw (norm-back p) c.beyond;
}

far_right : (l u : Point) (r : Rect) (n : ℤ) (p : Point) (d : ℤ) → FarCase l u r n p d → pos 0 <ℤ p.0 → (r.z0 *ℤ p.0) ≤ℤ (p.1 *ℤ r.y1) → (p.1 *ℤ r.y1) ≤ℤ (r.z1 *ℤ p.0) → ⊥
far_right l u r n p d c py low high = cases (by_sign p.1)
  where
    cases : ((pos 0 ≤ℤ p.1) ⊎ (p.1 <ℤ pos 0)) → ⊥
    cases (inl up) = far_right_up l u r p d n c.wedge c.seen c.inside py low high up c.all c.beyond
    cases (inr down) =
        let f = far_flip l u r n p d c in
        far_right_up (flip u) (flip l) (flip_rect r) (flip p) d n f.wedge f.seen f.inside py
        (le_from (nonneg_as (ring (r.z1 ∷ p.0 ∷ p.1 ∷ r.y1 ∷ []) (minus (var 2) ⊗ var 3 ⊖ minus (var 0) ⊗ var 1) (var 0 ⊗ var 1 ⊖ var 2 ⊗ var 3) tt) (le_to high)))
        (le_from (nonneg_as (ring (r.z0 ∷ p.0 ∷ p.1 ∷ r.y1 ∷ []) (minus (var 0) ⊗ var 1 ⊖ minus (var 2) ⊗ var 3) (var 2 ⊗ var 3 ⊖ var 0 ⊗ var 1) tt) (le_to low)))
        (omega (arith, signs)) f.all f.beyond

-- the ray leaves at the top
far_top : (l u : Point) (r : Rect) (n : ℤ) (p : Point) (d : ℤ) → FarCase l u r n p d → pos 0 <ℤ p.0 → (r.z1 *ℤ p.0) <ℤ (p.1 *ℤ r.y1) → ⊥
far_top l u r n p d c py over =
    let h = c.inside in
    let Y = var 0 in let Z = var 1 in let D = var 2 in let Y0 = var 3 in let Y1 = var 4 in let Z0 = var 5 in let Z1 = var 6 in
    let xs = p.0 ∷ p.1 ∷ d ∷ r.y0 ∷ r.y1 ∷ r.z0 ∷ r.z1 ∷ [] in
    let ry = positive-nonneg (lt_to h.right) in
    let pz : pos 0 <ℤ p.1 = elim (by_order p.1) [
      | inl up ↦ up
      | inr down ↦ zero_clash (ring xs (Y ⊗ (Z1 ⊗ D ⊖ Z) ⊕ (minus Z ⊗ (Y1 ⊗ D ⊖ Y) ⊕ D ⊗ (Z ⊗ Y1 ⊖ Z1 ⊗ Y))) (whole (pos 0)) tt)
          (positive-add (positive-mul py (lt_to h.high)) (nonneg-add (nonneg-mul down ry) (nonneg-mul (positive-nonneg h.positive) (positive-nonneg (lt_to over)))))
    ] in
    far_right (back l) (back u) (back_rect r) n (back p) d (far_back l u r n p d c) pz
    (le_from (nonneg_as (ring xs (minus Y ⊗ Z1 ⊖ minus Y1 ⊗ Z) (Z ⊗ Y1 ⊖ Z1 ⊗ Y) tt) (positive-nonneg (lt_to over))))
    (le_from (nonneg_by_factor h.positive (nonneg_as (ring xs (D ⊗ (minus Y0 ⊗ Z ⊖ minus Y ⊗ Z1)) (Y ⊗ (Z1 ⊗ D ⊖ Z) ⊕ Z ⊗ (Y ⊖ Y0 ⊗ D)) tt)
    (nonneg-add (nonneg-mul (positive-nonneg py) (positive-nonneg (lt_to h.high))) (nonneg-mul (positive-nonneg pz) (positive-nonneg (lt_to h.left)))))))

far_pos : (l u : Point) (r : Rect) (n : ℤ) (p : Point) (d : ℤ) → FarCase l u r n p d → pos 0 <ℤ p.0 → ⊥
far_pos l u r n p d c py = by_top (by_sign (r.z1 *ℤ p.0 -ℤ p.1 *ℤ r.y1)) (by_sign (p.1 *ℤ r.y1 -ℤ r.z0 *ℤ p.0))
  where
    by_top : ((pos 0 ≤ℤ (r.z1 *ℤ p.0 -ℤ p.1 *ℤ r.y1)) ⊎ ((r.z1 *ℤ p.0 -ℤ p.1 *ℤ r.y1) <ℤ pos 0)) → ((pos 0 ≤ℤ (p.1 *ℤ r.y1 -ℤ r.z0 *ℤ p.0)) ⊎ ((p.1 *ℤ r.y1 -ℤ r.z0 *ℤ p.0) <ℤ pos 0)) → ⊥
    by_top (inr over) _ = far_top l u r n p d c py (omega (arith, signs))
    by_top (inl high) (inl low) = far_right l u r n p d c py (le_from low) (le_from high)
    by_top (inl high) (inr under) =
        far_top (flip u) (flip l) (flip_rect r) n (flip p) d (far_flip l u r n p d c) py
        (lt_from (positive_as (ring (r.z0 ∷ p.0 ∷ p.1 ∷ r.y1 ∷ []) (minus (var 2) ⊗ var 3 ⊖ minus (var 0) ⊗ var 1) (whole (pos 0) ⊖ (var 2 ⊗ var 3 ⊖ var 0 ⊗ var 1)) tt) (lt_to under)))

-- a point that is not the origin is seen no farther than the points that are looked at
far_off : (l u : Point) (r : Rect) (n : ℤ) (p : Point) (d : ℤ) → FarCase l u r n p d → ((p.0 ≡ pos 0) → (p.1 ≡ pos 0) → ⊥) → ⊥
far_off l u r n p d c off = cases (by_order p.0) (by_order p.1) (by_order (neg_ℤ p.0)) (by_order (neg_ℤ p.1))
  where
    Sign : ℤ → Type 0
    Sign a = (pos 0 <ℤ a) ⊎ (pos 0 ≤ℤ neg_ℤ a)

    cases : ((pos 0 <ℤ p.0) ⊎ (pos 0 ≤ℤ neg_ℤ p.0)) → ((pos 0 <ℤ p.1) ⊎ (pos 0 ≤ℤ neg_ℤ p.1)) → ((pos 0 <ℤ neg_ℤ p.0) ⊎ (pos 0 ≤ℤ neg_ℤ (neg_ℤ p.0))) → ((pos 0 <ℤ neg_ℤ p.1) ⊎ (pos 0 ≤ℤ neg_ℤ (neg_ℤ p.1))) → ⊥
    cases (inl a) _ _ _ = far_pos l u r n p d c a
    cases (inr _) (inl a) _ _ = far_pos (back l) (back u) (back_rect r) n (back p) d (far_back l u r n p d c) a
    cases (inr _) (inr _) (inl a) _ =
        far_pos (back (back l)) (back (back u)) (back_rect (back_rect r)) n (back (back p)) d (far_back _ _ (back_rect r) n (back p) d (far_back l u r n p d c)) a
    cases (inr _) (inr _) (inr _) (inl a) =
        far_pos (back (back (back l))) (back (back (back u))) (back_rect (back_rect (back_rect r))) n (back (back (back p))) d (far_back (back (back l)) (back (back u)) (back_rect (back_rect r)) n (back (back p)) d (far_back (back l) (back u) (back_rect r) n (back p) d (far_back l u r n p d c))) a
    cases (inr e) (inr f) (inr g) (inr h) = off (omega (arith, signs)) (omega (arith, signs))

ray_seen : (l u : Point) → IsWedge l u → IsInWedge l u l
ray_seen l u w = record {
  after_lower = nonneg_as (ring (l.0 ∷ l.1 ∷ []) (var 0 ⊗ var 1 ⊖ var 1 ⊗ var 0) (whole (pos 0)) tt) (le_of_same refl);
  before_upper = le_from (nonneg_as (ring (l.0 ∷ l.1 ∷ u.0 ∷ u.1 ∷ []) (whole (pos 0) ⊖ (var 2 ⊗ var 1 ⊖ var 3 ⊗ var 0)) (var 0 ⊗ var 3 ⊖ var 1 ⊗ var 2) tt) (wedge_turns l u w));
}

pub ray_off : (l u : Point) → IsWedge l u → (l.0 ≡ pos 0) → (l.1 ≡ pos 0) → ⊥
ray_off l u (inl wide) y z = zero_clash (ap (λ x. x *ℤ u.1 -ℤ l.1 *ℤ u.0) y ∙ ap (λ x. pos 0 *ℤ u.1 -ℤ x *ℤ u.0) z ∙ ring (u.0 ∷ u.1 ∷ []) (whole (pos 0) ⊗ var 1 ⊖ whole (pos 0) ⊗ var 0) (whole (pos 0)) tt) wide
ray_off l u (inr half) y z =
    let e : dot_of l u ≡ pos 0 = ap (λ x. x *ℤ u.0 +ℤ l.1 *ℤ u.1) y ∙ ap (λ x. pos 0 *ℤ u.0 +ℤ x *ℤ u.1) z ∙ ring (u.0 ∷ u.1 ∷ []) (whole (pos 0) ⊗ var 0 ⊕ whole (pos 0) ⊗ var 1) (whole (pos 0)) tt in
    omega (arith, signs, half.1)

-- a fraction of any point stands inside a rectangle that holds the origin inside
fraction : (r : Rect) (l : Point) → r.y0 <ℤ pos 0 → pos 0 <ℤ r.y1 → r.z0 <ℤ pos 0 → pos 0 <ℤ r.z1 → IsInside r (over l (size l.0 +ℤ size l.1 +ℤ pos 1))
fraction r l a b c d =
    let p = size-bounds l.0 in let q = size-bounds l.1 in
    let S = var 0 in let T = var 1 in let M = S ⊕ T ⊕ whole (pos 1) in let X = var 2 in let R = var 3 in
    let more : pos 0 <ℤ (size l.0 +ℤ size l.1 +ℤ pos 1) = omega (arith, signs) in
    let one : pos 0 <ℤ pos 1 = omega (arith, signs) in
    let m = positive-nonneg more in
    let below : (x s t g : ℤ) → pos 0 ≤ℤ (s +ℤ x) → pos 0 ≤ℤ t → g <ℤ pos 0 → pos 0 ≤ℤ (s +ℤ t +ℤ pos 1) → (g *ℤ (s +ℤ t +ℤ pos 1)) <ℤ x = λ x s t g hs ht hg hm.
    let h : pos 0 ≤ℤ (neg_ℤ g -ℤ pos 1) = omega (arith, signs) in
    lt_from (positive_as (ring (s ∷ t ∷ x ∷ g ∷ []) (X ⊖ R ⊗ M) (whole (pos 1) ⊕ ((S ⊕ X) ⊕ (T ⊕ (minus R ⊖ whole (pos 1)) ⊗ M))) tt) (positive-add one (nonneg-add hs (nonneg-add ht (nonneg-mul h hm))))) in
    let above : (x s t g : ℤ) → x ≤ℤ s → pos 0 ≤ℤ t → pos 0 <ℤ g → pos 0 ≤ℤ (s +ℤ t +ℤ pos 1) → x <ℤ (g *ℤ (s +ℤ t +ℤ pos 1)) = λ x s t g hs ht hg hm.
    let h : pos 0 ≤ℤ (g -ℤ pos 1) = omega (arith, signs) in
    lt_from (positive_as (ring (s ∷ t ∷ x ∷ g ∷ []) (R ⊗ M ⊖ X) (whole (pos 1) ⊕ ((S ⊖ X) ⊕ (T ⊕ (R ⊖ whole (pos 1)) ⊗ M))) tt) (positive-add one (nonneg-add (le_to hs) (nonneg-add ht (nonneg-mul h hm))))) in
    let turn = +ℤ_comm (size l.0) (size l.1) in
    let m' : pos 0 ≤ℤ (size l.1 +ℤ size l.0 +ℤ pos 1) = omega (arith, signs) in
    record {
      positive = more;
      left = below l.0 (size l.0) (size l.1) r.y0 p.1 q.2 a m;
      right = above l.0 (size l.0) (size l.1) r.y1 p.0 q.2 b m;
      low = rw turn (below l.1 (size l.1) (size l.0) r.z0 q.1 p.2 c m');
      high = rw turn (above l.1 (size l.1) (size l.0) r.z1 q.0 p.2 d m');
    }

-- from the origin on, along the lower ray
pub far : (l u : Point) (r : Rect) (n : ℤ) (p : Point) (d : ℤ) → FarCase l u r n p d → ⊥
far l u r n p d c = far_off l u r n p d c at_origin
  where
    negative : (a : ℤ) → (a *ℤ d) <ℤ pos 0 → a <ℤ pos 0
    negative a h =
        let g : pos 0 <ℤ neg_ℤ a = positive_by_factor (positive-nonneg c.inside.positive) (positive_as (ring (a ∷ d ∷ []) (var 1 ⊗ minus (var 0)) (whole (pos 0) ⊖ var 0 ⊗ var 1) tt) (lt_to h)) in
        omega (arith, signs)

    positive : (a : ℤ) → pos 0 <ℤ (a *ℤ d) → pos 0 <ℤ a
    positive a h = positive_by_factor (positive-nonneg c.inside.positive) (positive_as (*ℤ_comm d a) h)

    at_origin : (p.0 ≡ pos 0) → (p.1 ≡ pos 0) → ⊥
    at_origin y z =
        let h = c.inside in
        let zero : norm_of p ≡ pos 0 = ap (λ x. x *ℤ x +ℤ p.1 *ℤ p.1) y ∙ ap (λ x. pos 0 *ℤ pos 0 +ℤ x *ℤ x) z in
        let low : pos 0 ≤ℤ neg_ℤ n = nonneg_by_factor (positive-mul h.positive h.positive) (nonneg_as (ring (n ∷ d ∷ []) (var 1 ⊗ var 1 ⊗ minus (var 0)) (minus (var 0 ⊗ (var 1 ⊗ var 1))) tt) (omega (arith, signs, c.beyond, zero))) in
        let f = fraction r l (negative r.y0 (omega (arith, signs, h.left))) (positive r.y1 (omega (arith, signs, h.right))) (negative r.z0 (omega (arith, signs, h.low))) (positive r.z1 (omega (arith, signs, h.high))) in
        let e = size l.0 +ℤ size l.1 +ℤ pos 1 in
        far_off l u r n l e (record {
          wedge = c.wedge;
          seen = ray_seen l u c.wedge;
          inside = f;
          all = c.all;
          beyond = le_from (nonneg_as (ring (l.0 ∷ l.1 ∷ n ∷ e ∷ []) (var 0 ⊗ var 0 ⊕ var 1 ⊗ var 1 ⊖ var 2 ⊗ (var 3 ⊗ var 3)) (var 0 ⊗ var 0 ⊕ (var 1 ⊗ var 1 ⊕ minus (var 2) ⊗ (var 3 ⊗ var 3))) tt) (nonneg-add (nonneg-square l.0) (nonneg-add (nonneg-square l.1) (nonneg-mul low (nonneg-square e)))));
        }) (ray_off l u c.wedge)
