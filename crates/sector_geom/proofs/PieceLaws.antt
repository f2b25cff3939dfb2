-- A widened rectangle holds the rectangle, and the pieces lie in their quarters and hold it together.
use Rattle.std.proofs.Common.{◌≡◌, ◌⊎◌, inl, inr, Option, Some, None, List, [], ◌∷◌, ℤ, pos, ◌*ℤ◌, neg_ℤ, ◌≤ℤ◌, ◌<ℤ◌, unsigned_abs, arith, ap, sym, ◌∙◌, subst}
use Rattle.std.specs.Prelude.{int_lt, ◌&&◌}
use Rattle.std.proofs.lemmas.Int.{ints, clamps}
use Rattle.std.specs.Int.{int_max, int_min}
use Rattle.algebra.proofs.Order.{signs, nonneg-mul, nonneg_as, positive-nonneg, positive_by_factor, positive_as, by_sign, by_order, le_from, le_to}
use Rattle.algebra.proofs.Ring.{ring, var, whole, ◌⊖◌, ◌⊗◌, minus}
use Rattle.brake_base.specs.declared.plane.Rect.{Rect}
use Rattle.brake_base.specs.declared.plane.Rat2.{Rat2}
use Rattle.brake_base.specs.declared.plane.Quarter.{Quarter}
use Rattle.brake_base.specs.declared.plane.Quarter.TheVariants.{Q1, Q2, Q3, Q4}
use Rattle.sector_geom.specs.Plane.{Holds, HasInterior, IsInRange}
use Rattle.algebra.proofs.Widths.{abs_in, abs_out}
use Rattle.std.proofs.lemmas.Option.{cond_some}
use Rattle.std.proofs.Common.{◌≤◌, ◌^◌, unsigned_abs}
use Rattle.sector_geom.specs.Pieces.{start_widened_by, end_widened_by, widened_by, HoldsAll, LiesIn, part_in, with_interior, piece_of, pieces_of, SomeHolds, HoldTogether}

lowered_below : (by low : ℤ) → pos 0 ≤ℤ by → start_widened_by by low ≤ℤ low
lowered_below by low h = grind (arith, ints, clamps)

raised_above : (by high : ℤ) → pos 0 ≤ℤ by → high ≤ℤ end_widened_by by high
raised_above by high h = grind (arith, ints, clamps)

times_le : (a b d : ℤ) → pos 0 <ℤ d → a ≤ℤ b → (a *ℤ d) ≤ℤ (b *ℤ d)
times_le a b d pd h = le_from (nonneg_as (ring (a ∷ b ∷ d ∷ []) (var 1 ⊗ var 2 ⊖ var 0 ⊗ var 2) ((var 1 ⊖ var 0) ⊗ var 2) tt) (nonneg-mul (le_to h) (positive-nonneg pd)))

pub widened_holds : (by : ℤ) (r : Rect) → pos 0 ≤ℤ by → HoldsAll (widened_by by r) r
widened_holds by r h p held = record {
  positive = held.positive;
  left = omega (arith, signs, times_le (start_widened_by by r.y0) r.y0 p.d held.positive (lowered_below by r.y0 h), held.left);
  right = omega (arith, signs, times_le r.y1 (end_widened_by by r.y1) p.d held.positive (raised_above by r.y1 h), held.right);
  low = held.low;
  high = held.high;
}

-- A rectangle is kept where it has an interior.
kept : (r : Rect) → HasInterior r → with_interior r ≡ Some r
kept r h = grind (arith, ints, h.wide, h.high)

first : (x : Option Rect) (rest : List (Option Rect)) (piece : Rect) (p : Rat2) → x ≡ Some piece → Holds piece p → SomeHolds (x ∷ rest) p
first x rest piece p e h = subst (λ y. SomeHolds (y ∷ rest) p) (sym e) (inl h)

next : (x : Option Rect) (rest : List (Option Rect)) (p : Rat2) → SomeHolds rest p → SomeHolds (x ∷ rest) p
next None rest p h = h
next (Some piece) rest p h = inr h

-- A number between the ends of a range lies above 0 and so does the upper end, or below 0 and so does the lower end.
abbrev InHalf : ℤ → ℤ → ℤ → Type 0
InHalf low high x = ((pos 0 <ℤ high) × (pos 0 ≤ℤ x)) ⊎ ((low <ℤ pos 0) × (x ≤ℤ pos 0))

in_half : (low high x d : ℤ) → low <ℤ high → pos 0 <ℤ d → (low *ℤ d) ≤ℤ x → x ≤ℤ (high *ℤ d) → InHalf low high x
in_half low high x d wide pd l h = cases (by_order high) (by_sign x)
  where
    cases : ((pos 0 <ℤ high) ⊎ (pos 0 ≤ℤ neg_ℤ high)) → ((pos 0 ≤ℤ x) ⊎ (x <ℤ pos 0)) → InHalf low high x
    cases (inl up) (inl px) = inl (up, px)
    cases (inl up) (inr nx) =
        let down : pos 0 <ℤ neg_ℤ low = positive_by_factor (positive-nonneg pd) (positive_as (ring (low ∷ d ∷ []) (var 1 ⊗ minus (var 0)) (minus (var 0 ⊗ var 1)) tt) (omega (arith, signs, l, nx))) in
        inr (omega (arith, signs, down), omega (arith, signs, nx))
    cases (inr off) _ =
        let high_d = nonneg-mul off (positive-nonneg pd) in
        let same = ring (high ∷ d ∷ []) (minus (var 0) ⊗ var 1) (minus (var 0 ⊗ var 1)) tt in
        inr (omega (arith, signs, off, wide), omega (arith, signs, high_d, same, h))

max_times : (a x d : ℤ) → (a *ℤ d) ≤ℤ x → pos 0 ≤ℤ x → (int_max a (pos 0) *ℤ d) ≤ℤ x
max_times a x d h px = cases (by_sign a)
  where
    cases : ((pos 0 ≤ℤ a) ⊎ (a <ℤ pos 0)) → (int_max a (pos 0) *ℤ d) ≤ℤ x
    cases (inl pa) = let e : int_max a (pos 0) ≡ a = omega (arith, ints, clamps, pa) in rw e h
    cases (inr na) = let e : int_max a (pos 0) ≡ pos 0 = omega (arith, ints, clamps, na) in rw e (omega (arith, signs, px, ring (d ∷ []) (whole (pos 0) ⊗ var 0) (whole (pos 0)) tt))

min_times : (a x d : ℤ) → x ≤ℤ (a *ℤ d) → x ≤ℤ pos 0 → x ≤ℤ (int_min a (pos 0) *ℤ d)
min_times a x d h nx = cases (by_sign a)
  where
    cases : ((pos 0 ≤ℤ a) ⊎ (a <ℤ pos 0)) → x ≤ℤ (int_min a (pos 0) *ℤ d)
    cases (inl pa) = let e : int_min a (pos 0) ≡ pos 0 = omega (arith, ints, clamps, pa) in rw e (omega (arith, signs, nx, ring (d ∷ []) (whole (pos 0) ⊗ var 0) (whole (pos 0)) tt))
    cases (inr na) = let e : int_min a (pos 0) ≡ a = omega (arith, ints, clamps, na) in rw e h

pub hold_together : (r : Rect) → HoldTogether r (pieces_of r)
hold_together r i p h = cases (in_half r.y0 r.y1 p.y p.d i.wide h.positive h.left h.right) (in_half r.z0 r.z1 p.z p.d i.high h.positive h.low h.high)
  where
    cases : InHalf r.y0 r.y1 p.y → InHalf r.z0 r.z1 p.z → SomeHolds (pieces_of r) p
    cases (inl right) (inl up) =
        first (piece_of Q1 r) _ (part_in Q1 r) p (kept (part_in Q1 r) (record { wide = omega (arith, ints, clamps, i.wide, right.0); high = omega (arith, ints, clamps, i.high, up.0) }))
        (record { positive = h.positive; left = max_times r.y0 p.y p.d h.left right.1; right = h.right; low = max_times r.z0 p.z p.d h.low up.1; high = h.high })
    cases (inr left) (inl up) =
        next (piece_of Q1 r) _ p (first (piece_of Q2 r) _ (part_in Q2 r) p (kept (part_in Q2 r) (record { wide = omega (arith, ints, clamps, i.wide, left.0); high = omega (arith, ints, clamps, i.high, up.0) }))
        (record { positive = h.positive; left = h.left; right = min_times r.y1 p.y p.d h.right left.1; low = max_times r.z0 p.z p.d h.low up.1; high = h.high }))
    cases (inr left) (inr down) =
        next (piece_of Q1 r) _ p (next (piece_of Q2 r) _ p (first (piece_of Q3 r) _ (part_in Q3 r) p (kept (part_in Q3 r) (record { wide = omega (arith, ints, clamps, i.wide, left.0); high = omega (arith, ints, clamps, i.high, down.0) }))
        (record { positive = h.positive; left = h.left; right = min_times r.y1 p.y p.d h.right left.1; low = h.low; high = min_times r.z1 p.z p.d h.high down.1 })))
    cases (inl right) (inr down) =
        next (piece_of Q1 r) _ p (next (piece_of Q2 r) _ p (next (piece_of Q3 r) _ p (first (piece_of Q4 r) _ (part_in Q4 r) p (kept (part_in Q4 r) (record { wide = omega (arith, ints, clamps, i.wide, right.0); high = omega (arith, ints, clamps, i.high, down.0) }))
        (record { positive = h.positive; left = max_times r.y0 p.y p.d h.left right.1; right = h.right; low = h.low; high = min_times r.z1 p.z p.d h.high down.1 }))))

-- Four items that are known one by one.
pub four_items : (a b c d a' b' c' d' : Option Rect) → a ≡ a' → b ≡ b' → c ≡ c' → d ≡ d' → (a ∷ b ∷ c ∷ d ∷ []) ≡ (a' ∷ b' ∷ c' ∷ d' ∷ [])
four_items a b c d a' b' c' d' ea eb ec ed =
    ap (λ x. x ∷ b ∷ c ∷ d ∷ []) ea ∙ ap (λ x. a' ∷ x ∷ c ∷ d ∷ []) eb ∙ ap (λ x. a' ∷ b' ∷ x ∷ d ∷ []) ec ∙ ap (λ x. a' ∷ b' ∷ c' ∷ x ∷ []) ed

-- A rectangle that is known side by side.
pub same_rect : (a b c d a' b' c' d' : ℤ) → a ≡ a' → b ≡ b' → c ≡ c' → d ≡ d' → (let r : Rect = record { y0 = a; y1 = b; z0 = c; z1 = d } in let r' : Rect = record { y0 = a'; y1 = b'; z0 = c'; z1 = d' } in r ≡ r')
same_rect a b c d a' b' c' d' ea eb ec ed =
    let at : ℤ → ℤ → ℤ → ℤ → Rect = λ a b c d. record { y0 = a; y1 = b; z0 = c; z1 = d } in
    ap (λ x. at x b c d) ea ∙ ap (λ x. at a' x c d) eb ∙ ap (λ x. at a' b' x d) ec ∙ ap (λ x. at a' b' c' x) ed

-- What `cover` asks of a piece.
pub record IsPiece (quarter : Quarter) (piece : Rect) : Type 0 where
  pub in_range : IsInRange piece
  pub in_quarter : LiesIn quarter piece
  pub interior : HasInterior piece

kept_is : (r piece : Rect) → with_interior r ≡ Some piece → (r ≡ piece) × HasInterior r
kept_is r piece e =
    let h = cond_some (int_lt r.y0 r.y1 && int_lt r.z0 r.z1) r piece e in
    (h.1, record { wide = grind (arith, ints, h.0); high = grind (arith, ints, h.0) })

max_in_range : (a : ℤ) → unsigned_abs a ≤ 2 ^ 30 → unsigned_abs (int_max a (pos 0)) ≤ 2 ^ 30
max_in_range a h = let b = abs_out a (2 ^ 30) h in abs_in (int_max a (pos 0)) (2 ^ 30) (omega (arith, ints, clamps, b.0)) (omega (arith, ints, clamps, b.1))

min_in_range : (a : ℤ) → unsigned_abs a ≤ 2 ^ 30 → unsigned_abs (int_min a (pos 0)) ≤ 2 ^ 30
min_in_range a h = let b = abs_out a (2 ^ 30) h in abs_in (int_min a (pos 0)) (2 ^ 30) (omega (arith, ints, clamps, b.0)) (omega (arith, ints, clamps, b.1))

part_in_range : (quarter : Quarter) (r : Rect) → IsInRange r → IsInRange (part_in quarter r)
part_in_range Q1 r h = record { y0 = max_in_range r.y0 h.y0; y1 = h.y1; z0 = max_in_range r.z0 h.z0; z1 = h.z1 }
part_in_range Q2 r h = record { y0 = h.y0; y1 = min_in_range r.y1 h.y1; z0 = max_in_range r.z0 h.z0; z1 = h.z1 }
part_in_range Q3 r h = record { y0 = h.y0; y1 = min_in_range r.y1 h.y1; z0 = h.z0; z1 = min_in_range r.z1 h.z1 }
part_in_range Q4 r h = record { y0 = max_in_range r.y0 h.y0; y1 = h.y1; z0 = h.z0; z1 = min_in_range r.z1 h.z1 }

max_up : (a : ℤ) → pos 0 ≤ℤ int_max a (pos 0)
max_up a = omega (arith, ints, clamps)

min_down : (a : ℤ) → int_min a (pos 0) ≤ℤ pos 0
min_down a = omega (arith, ints, clamps)

part_lies : (quarter : Quarter) (r : Rect) → LiesIn quarter (part_in quarter r)
part_lies Q1 r = (max_up r.y0, max_up r.z0)
part_lies Q2 r = (min_down r.y1, max_up r.z0)
part_lies Q3 r = (min_down r.y1, min_down r.z1)
part_lies Q4 r = (max_up r.y0, min_down r.z1)

-- A piece of a rectangle is what `cover` asks for.
pub piece_is : (quarter : Quarter) (r piece : Rect) → IsInRange r → piece_of quarter r ≡ Some piece → IsPiece quarter piece
piece_is quarter r piece h e =
    let k = kept_is (part_in quarter r) piece e in
    subst (IsPiece quarter) k.0 (record { in_range = part_in_range quarter r h; in_quarter = part_lies quarter r; interior = k.1 })
