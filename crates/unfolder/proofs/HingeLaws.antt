-- A hinge, written in the frame of its line.
use Rattle.std.proofs.Common.{◌≡◌, ℤ, pos, negsuc, neg_ℤ, ◌+ℤ◌, ◌-ℤ◌, ◌*ℤ◌, ◌≤ℤ◌, [], ◌∷◌, refl, ◌∙◌, ap, arith}
use Rattle.std.proofs.lemmas.Int.{ints}
use Rattle.std.specs.Int.{int_signum}
use Rattle.algebra.proofs.Ring.{Expression, ring, var, whole, ◌⊕◌, ◌⊖◌, ◌⊗◌}
use Rattle.algebra.proofs.Ring.Expression.{minus as opposite}
use Rattle.brake_base.specs.declared.space.V3.{V3}
use Rattle.brake_base.specs.Vectors.{vector, plus, times}
use Rattle.brake_base.specs.Turns.{apply, Map, mapped}
use Rattle.brake_base.proofs.Vectors.{same_point}
use Rattle.brake_base.proofs.Whole.{sums}
use Rattle.brake_base.proofs.Maps.{apply-plus, apply-times}
use Rattle.unfolder.specs.Cores.{z_axis}
use Rattle.unfolder.specs.Fold.{dot, minus, hinged_about, map_through}

-- ---- a hinge as a map
-- a point written as polynomials
record Written : Type 0 where
  x : Expression
  y : Expression
  z : Expression

abbrev written : Expression → Expression → Expression → Written
written x y z = record { x = x; y = y; z = z }

abbrev sum : Written → Written → Written
sum a b = written (a.x ⊕ b.x) (a.y ⊕ b.y) (a.z ⊕ b.z)

abbrev difference : Written → Written → Written
difference a b = written (a.x ⊖ b.x) (a.y ⊖ b.y) (a.z ⊖ b.z)

abbrev stretched : Expression → Written → Written
stretched k a = written (k ⊗ a.x) (k ⊗ a.y) (k ⊗ a.z)

abbrev scalar : Written → Written → Expression
scalar a b = (a.x ⊗ b.x ⊕ a.y ⊗ b.y) ⊕ a.z ⊗ b.z

abbrev unit : ℤ → ℤ → ℤ → Written
unit x y z = written (whole x) (whole y) (whole z)

-- the hinge of variables 0 to 10
abbrev written_hinge : Written → Written
written_hinge p =
    let start = written (var 0) (var 1) (var 2) in
    let d = written (var 3) (var 4) (var 5) in
    let o = written (var 6) (var 7) (var 8) in
    let from_start = difference p start in
    sum (sum (sum start (stretched (scalar from_start d) d)) (stretched (var 10 ⊖ var 9 ⊗ from_start.z) o)) (stretched (var 9 ⊗ (var 10 ⊕ scalar from_start o)) (unit (pos 0) (pos 0) (pos 1)))

-- the map through its images, at the point of variables 11 to 13
abbrev written_map : Written
written_map =
    let still = written_hinge (unit (pos 0) (pos 0) (pos 0)) in
    let x = difference (written_hinge (unit (pos 1) (pos 0) (pos 0))) still in
    let y = difference (written_hinge (unit (pos 0) (pos 1) (pos 0))) still in
    let z = difference (written_hinge (unit (pos 0) (pos 0) (pos 1))) still in
    sum (sum (sum (stretched (var 11) x) (stretched (var 12) y)) (stretched (var 13) z)) still

-- the map through the images of a hinge does to each point what the hinge does
pub mapped-map_through : (a d o : V3) (s h : ℤ) (p : V3) → mapped (map_through (hinged_about a d o s h)) p ≡ hinged_about a d o s h p
unfolding mapped apply
mapped-map_through a d o s h p =
    let xs = a.x ∷ a.y ∷ a.z ∷ d.x ∷ d.y ∷ d.z ∷ o.x ∷ o.y ∷ o.z ∷ s ∷ h ∷ p.x ∷ p.y ∷ p.z ∷ [] in
    let at = written_hinge (written (var 11) (var 12) (var 13)) in
    same_point _ _ (ring xs written_map.x at.x tt) (ring xs written_map.y at.y tt) (ring xs written_map.z at.z tt)

-- ---- a hinge in its own frame
-- the point with these coordinates in a frame at p
abbrev pub in_frame : V3 → ℤ → V3 → ℤ → V3 → ℤ → V3
in_frame p m d n o w = plus (plus (plus p (times m d)) (times n o)) (times w z_axis)

-- the four directions in the sheet, each with the one a quarter turn on
pub data IsHeading : V3 → V3 → Type 0 where
  east : IsHeading (vector (pos 1) (pos 0) (pos 0)) (vector (pos 0) (pos 1) (pos 0))
  north : IsHeading (vector (pos 0) (pos 1) (pos 0)) (vector (negsuc 0) (pos 0) (pos 0))
  west : IsHeading (vector (negsuc 0) (pos 0) (pos 0)) (vector (pos 0) (negsuc 0) (pos 0))
  south : IsHeading (vector (pos 0) (negsuc 0) (pos 0)) (vector (pos 1) (pos 0) (pos 0))

along_is : (p : V3) (m n w c e : ℤ) → (c *ℤ c +ℤ e *ℤ e) ≡ pos 1 → dot (minus (in_frame p m (vector c e (pos 0)) n (vector (neg_ℤ e) c (pos 0)) w) p) (vector c e (pos 0)) ≡ m
along_is p m n w c e one =
    let M = var 3 in
    let N = var 4 in
    let W = var 5 in
    let C = var 6 in
    let E = var 7 in
    let at = difference (sum (sum (sum (written (var 0) (var 1) (var 2)) (stretched M (written C E (whole (pos 0))))) (stretched N (written (opposite E) C (whole (pos 0))))) (stretched W (unit (pos 0) (pos 0) (pos 1)))) (written (var 0) (var 1) (var 2)) in
    let xs = p.x ∷ p.y ∷ p.z ∷ m ∷ n ∷ w ∷ c ∷ e ∷ [] in
    ring xs (scalar at (written C E (whole (pos 0)))) (M ⊗ (C ⊗ C ⊕ E ⊗ E)) tt ∙ ap (λ k. m *ℤ k) one ∙ ring (m ∷ []) (var 0 ⊗ whole (pos 1)) (var 0) tt

across_is : (p : V3) (m n w c e : ℤ) → (c *ℤ c +ℤ e *ℤ e) ≡ pos 1 → dot (minus (in_frame p m (vector c e (pos 0)) n (vector (neg_ℤ e) c (pos 0)) w) p) (vector (neg_ℤ e) c (pos 0)) ≡ n
across_is p m n w c e one =
    let M = var 3 in
    let N = var 4 in
    let W = var 5 in
    let C = var 6 in
    let E = var 7 in
    let at = difference (sum (sum (sum (written (var 0) (var 1) (var 2)) (stretched M (written C E (whole (pos 0))))) (stretched N (written (opposite E) C (whole (pos 0))))) (stretched W (unit (pos 0) (pos 0) (pos 1)))) (written (var 0) (var 1) (var 2)) in
    let xs = p.x ∷ p.y ∷ p.z ∷ m ∷ n ∷ w ∷ c ∷ e ∷ [] in
    ring xs (scalar at (written (opposite E) C (whole (pos 0)))) (N ⊗ (C ⊗ C ⊕ E ⊗ E)) tt ∙ ap (λ k. n *ℤ k) one ∙ ring (n ∷ []) (var 0 ⊗ whole (pos 1)) (var 0) tt

above_is : (p : V3) (m n w c e : ℤ) → (minus (in_frame p m (vector c e (pos 0)) n (vector (neg_ℤ e) c (pos 0)) w) p).z ≡ w
above_is p m n w c e = ring (p.z ∷ m ∷ n ∷ w ∷ []) ((((var 0 ⊕ var 1 ⊗ whole (pos 0)) ⊕ var 2 ⊗ whole (pos 0)) ⊕ var 3 ⊗ whole (pos 1)) ⊖ var 0) (var 3) tt

turned_frame : (p : V3) (s h m n w c e : ℤ) → (c *ℤ c +ℤ e *ℤ e) ≡ pos 1
    → hinged_about p (vector c e (pos 0)) (vector (neg_ℤ e) c (pos 0)) s h (in_frame p m (vector c e (pos 0)) n (vector (neg_ℤ e) c (pos 0)) w) ≡ in_frame p m (vector c e (pos 0)) (h -ℤ s *ℤ w) (vector (neg_ℤ e) c (pos 0)) (s *ℤ (h +ℤ n))
turned_frame p s h m n w c e one =
    λ i. in_frame p (along_is p m n w c e one i) (vector c e (pos 0)) (h -ℤ s *ℤ above_is p m n w c e i) (vector (neg_ℤ e) c (pos 0)) (s *ℤ (h +ℤ across_is p m n w c e one i))

-- a hinge takes A + m*d + n*o + w*z to A + m*d + (h - s*w)*o + s*(h + n)*z
pub hinged-in_frame : (d o : V3) → IsHeading d o → (p : V3) (s h m n w : ℤ) → hinged_about p d o s h (in_frame p m d n o w) ≡ in_frame p m d (h -ℤ s *ℤ w) o (s *ℤ (h +ℤ n))
hinged-in_frame d o east p s h m n w = turned_frame p s h m n w (pos 1) (pos 0) refl
hinged-in_frame d o north p s h m n w = turned_frame p s h m n w (pos 0) (pos 1) refl
hinged-in_frame d o west p s h m n w = turned_frame p s h m n w (negsuc 0) (pos 0) refl
hinged-in_frame d o south p s h m n w = turned_frame p s h m n w (pos 0) (negsuc 0) refl

-- ---- the direction of a line from its ends
sign_positive : (n : ℤ) → pos 1 ≤ℤ n → int_signum n ≡ pos 1
sign_positive n h = grind (arith, ints)

sign_negative : (n : ℤ) → n ≤ℤ negsuc 0 → int_signum n ≡ negsuc 0
sign_negative n h = grind (arith, ints)

sign_zero : (n : ℤ) → n ≡ pos 0 → int_signum n ≡ pos 0
sign_zero n h = grind (arith, ints)

-- a stretch by a positive length keeps the direction
pub sign_of_stretch : (d o : V3) → IsHeading d o → (n x y : ℤ) → pos 1 ≤ℤ n → x ≡ n *ℤ d.x → y ≡ n *ℤ d.y → vector (int_signum x) (int_signum y) (pos 0) ≡ d
sign_of_stretch d o east n x y positive ex ey = same_point _ _ (sign_positive x (omega (arith, ints))) (sign_zero y (omega (arith, ints))) refl
sign_of_stretch d o north n x y positive ex ey = same_point _ _ (sign_zero x (omega (arith, ints))) (sign_positive y (omega (arith, ints))) refl
sign_of_stretch d o west n x y positive ex ey = same_point _ _ (sign_negative x (omega (arith, ints))) (sign_zero y (omega (arith, ints))) refl
sign_of_stretch d o south n x y positive ex ey = same_point _ _ (sign_zero x (omega (arith, ints))) (sign_negative y (omega (arith, ints))) refl

-- the direction a quarter turn on
pub quarter_on : (d o : V3) → IsHeading d o → vector (neg_ℤ d.y) d.x (pos 0) ≡ o
quarter_on d o east = refl
quarter_on d o north = refl
quarter_on d o west = refl
quarter_on d o south = refl

-- ---- a map of the sheet and a frame
pub mapped-in_frame : (f : Map) (p : V3) (m : ℤ) (d : V3) (n : ℤ) (o : V3) (w : ℤ) → apply f.turn z_axis ≡ z_axis → mapped f (in_frame p m d n o w) ≡ in_frame (mapped f p) m (apply f.turn d) n (apply f.turn o) w
unfolding mapped
mapped-in_frame f p m d n o w up =
    ap (λ v. plus v f.shift) (apply-plus f.turn (plus (plus p (times m d)) (times n o)) (times w z_axis)
    ∙ (λ i. plus ((apply-plus f.turn (plus p (times m d)) (times n o) ∙ (λ j. plus ((apply-plus f.turn p (times m d) ∙ ap (plus (apply f.turn p)) (apply-times f.turn m d)) j) (apply-times f.turn n o j))) i) ((apply-times f.turn w z_axis ∙ ap (times w) up) i)))
    ∙ same_point _ _ (omega (arith, sums)) (omega (arith, sums)) (omega (arith, sums))
