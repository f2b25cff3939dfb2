-- Least rectangles that hold points, one more at a time.
use Rattle.std.proofs.Common.{◌≡◌, ℕ, suc, ◌+◌, ◌<◌, ℤ, List, [], ◌∷◌, ◌++◌, take, get_or, length, append_assoc, refl, sym, subst, ap, ◌∙◌, arith}
use Rattle.std.specs.Prelude.{All, flat_map}
use Rattle.std.specs.Int.{int_min, int_max}
use Rattle.std.proofs.lemmas.Int.{ints, clamps}
use Rattle.std.proofs.lemmas.List.{take_more, flat_map_more}
use Rattle.std.proofs.lemmas.List.Elements.{All-nil, All-cons, All-head, All-append, All-weaker}
use Rattle.brake_base.specs.declared.plane.Rect.{Rect}
use Rattle.sheet_views.specs.declared.side_view.Point.{Point}
use Rattle.fold_boxes.specs.declared.posed_part.PoseBox.{PoseBox}
use Rattle.sheet_views.specs.SideArea.{point, box_corners, IsInRect, IsRectIn, IsLeastRect, Grows}

-- the rectangle that is one point
pub one_point : (p : Point) (r : Rect) → r ≡ record { y0 = p.y; y1 = p.y; z0 = p.z; z1 = p.z } → IsLeastRect (p ∷ []) r
one_point p r is =
    subst (IsLeastRect (p ∷ [])) (sym is) (record {
      holds = All-cons (IsInRect at) p [] (record { front = omega (arith, ints); back = omega (arith, ints); low = omega (arith, ints); high = omega (arith, ints) }) (All-nil (IsInRect at));
      least = λ other inside. let in_other = All-head (IsInRect other) p [] inside in record { front = in_other.front; back = in_other.back; low = in_other.low; high = in_other.high };
    })
  where
    at : Rect
    at = record { y0 = p.y; y1 = p.y; z0 = p.z; z1 = p.z }

-- the least rectangle that holds a rectangle and a point
abbrev pub with_point : Rect → Point → Rect
with_point r p = record { y0 = int_min r.y0 p.y; y1 = int_max r.y1 p.y; z0 = int_min r.z0 p.z; z1 = int_max r.z1 p.z }

still_in : (r : Rect) (p q : Point) → IsInRect r q → IsInRect (with_point r p) q
still_in r p q inside = record {
  front = (let h = inside.front in omega (arith, ints, clamps, h));
  back = (let h = inside.back in omega (arith, ints, clamps, h));
  low = (let h = inside.low in omega (arith, ints, clamps, h));
  high = (let h = inside.high in omega (arith, ints, clamps, h));
}

now_in : (r : Rect) (p : Point) → IsInRect (with_point r p) p
now_in r p = record { front = omega (arith, ints, clamps); back = omega (arith, ints, clamps); low = omega (arith, ints, clamps); high = omega (arith, ints, clamps) }

both_in : (other r : Rect) (p : Point) → IsRectIn other r → IsInRect other p → IsRectIn other (with_point r p)
both_in other r p inner point = record {
  front = (let h = inner.front in let k = point.front in omega (arith, ints, clamps, h, k));
  back = (let h = inner.back in let k = point.back in omega (arith, ints, clamps, h, k));
  low = (let h = inner.low in let k = point.low in omega (arith, ints, clamps, h, k));
  high = (let h = inner.high in let k = point.high in omega (arith, ints, clamps, h, k));
}

-- what holds of all of two lists holds of all of each
first_all : {X : Type 0} (P : X → Type 0) (xs ys : List X) → All P (xs ++ ys) → All P xs
first_all P [] ys all = All-nil P
first_all P (x ∷ xs) ys all = All-cons P x xs (All-head P x (xs ++ ys) all) (first_all P xs ys (λ k d inside. all (suc k) d (omega (arith, inside))))

last_all : {X : Type 0} (P : X → Type 0) (xs ys : List X) → All P (xs ++ ys) → All P ys
last_all P [] ys all = all
last_all P (x ∷ xs) ys all = last_all P xs ys (λ k d inside. all (suc k) d (omega (arith, inside)))

pub grows_by_point : (r grown : Rect) (p : Point) → grown ≡ with_point r p → Grows r (p ∷ []) grown
grows_by_point r grown p is points fits =
    subst (IsLeastRect (points ++ p ∷ [])) (sym is) (record {
      holds = All-append (IsInRect (with_point r p)) points (p ∷ []) (All-weaker (IsInRect r) (IsInRect (with_point r p)) (still_in r p) points fits.holds) (All-cons (IsInRect (with_point r p)) p [] (now_in r p) (All-nil (IsInRect (with_point r p))));
      least = λ other inside. both_in other r p (fits.least other (first_all (IsInRect other) points (p ∷ []) inside)) (All-head (IsInRect other) p [] (last_all (IsInRect other) points (p ∷ []) inside));
    })

-- it grows by some points, and then by others
pub grows_twice : (r s t : Rect) (first second : List Point) → Grows r first s → Grows s second t → Grows r (first ++ second) t
grows_twice r s t first second one two points fits =
    subst (λ (ps : List Point). IsLeastRect ps t) (append_assoc points first second) (two (points ++ first) (one points fits))

-- it grows by nothing
pub grows_none : (r : Rect) → Grows r [] r
grows_none r points fits = subst (λ (ps : List Point). IsLeastRect ps r) (sym (append_nothing points)) fits
  where
    append_nothing : (ps : List Point) → ps ++ [] ≡ ps
    append_nothing [] = refl
    append_nothing (p ∷ ps) = ap (λ (qs : List Point). p ∷ qs) (append_nothing ps)

pub same_place : (a b c d : ℤ) → a ≡ c → b ≡ d → (let p : Point = record { y = a; z = b } in let q : Point = record { y = c; z = d } in p ≡ q)
same_place a b c d y z = λ i. record { y = y i; z = z i }

-- two points that are the same as two others
pub two_points : (a b c d a' b' c' d' : ℤ) (r : Rect) → IsLeastRect (point a b ∷ point c d ∷ []) r → a ≡ a' → b ≡ b' → c ≡ c' → d ≡ d' → IsLeastRect (point a' b' ∷ point c' d' ∷ []) r
two_points a b c d a' b' c' d' r fits ea eb ec ed = subst (λ (ps : List Point). IsLeastRect ps r) (λ i. point (ea i) (eb i) ∷ point (ec i) (ed i) ∷ []) fits

-- it grows by points of a point that is the same as another
pub grows_alike : (shown : Point → List Point) (a b c d : ℤ) (r grown : Rect) → Grows r (shown (point a b)) grown → a ≡ c → b ≡ d → Grows r (shown (point c d)) grown
grows_alike shown a b c d r grown grows ea eb = subst (λ (p : Point). Grows r (shown p) grown) (same_place a b c d ea eb) grows

-- one box more
pub grows_by_box : (boxes : List PoseBox) (i : ℕ) (d : PoseBox) (r s t : Rect) → Grows s (box_corners (get_or boxes i d)) t → i < length boxes → Grows r (flat_map box_corners (take i boxes)) s → Grows r (flat_map box_corners (take (i + 1) boxes)) t
grows_by_box boxes i d r s t last inside so_far =
    let before = take i boxes in
    let one = get_or boxes i d in
    let more : flat_map box_corners before ++ box_corners one ≡ flat_map box_corners (take (i + 1) boxes) =
    flat_map_more box_corners [] before one ∙ ap (flat_map box_corners) (sym (take_more boxes i d inside)) in
    subst (λ (ps : List Point). Grows r ps t) more (grows_twice r s t (flat_map box_corners before) (box_corners one) so_far last)
