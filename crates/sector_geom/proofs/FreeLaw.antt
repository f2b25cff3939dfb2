-- The halves of a piece are pieces of its quarter that hold it together, and what is free at a depth stays apart at every turn and is
-- free at each greater depth.
use Rattle.std.proofs.Common.{◌≡◌, ◌⊎◌, ◌↔◌, inl, inr, ℕ, zero, suc, ap, sym, ◌∙◌, IsTrue, ◌≤◌, ◌^◌, Option, Some, None, ℤ, pos, ◌+ℤ◌, ◌*ℤ◌, ◌≤ℤ◌, ◌<ℤ◌, unsigned_abs, arith, refl, subst}
use Rattle.std.specs.Prelude.{Bool, true, false, if◌then◌else◌, IsSomeAnd}
use Rattle.std.proofs.lemmas.Option.{cond_some, none-some}
use Rattle.std.proofs.lemmas.Bool.{false≢true}
use Rattle.std.proofs.lemmas.Int.{ints, clamps}
use Rattle.algebra.proofs.Halves.{floor_half}
use Rattle.algebra.proofs.Order.{signs}
use Rattle.algebra.proofs.Widths.{abs_in, abs_out}
use Rattle.brake_base.specs.declared.plane.Rect.{Rect}
use Rattle.brake_base.specs.declared.plane.Rat2.{Rat2}
use Rattle.brake_base.specs.declared.plane.Quarter.{Quarter}
use Rattle.brake_base.specs.declared.plane.Quarter.TheVariants.{Q1, Q2, Q3, Q4}
use Rattle.sector_geom.specs.declared.sector.Sector.{Sector}
use Rattle.sector_geom.specs.declared.sector.Sweep.{Sweep}
use Rattle.sector_geom.specs.declared.halving.Halves.{Halves}
use Rattle.sector_geom.specs.Plane.{Holds}
use Rattle.sector_geom.specs.Motion.{turned}
use Rattle.sector_geom.specs.Pieces.{LiesIn}
use Rattle.sector_geom.specs.Covers.{cover_of, IsCoverBy}
use Rattle.sector_geom.specs.Clear.{IsClear}
use Rattle.sector_geom.specs.Free.{is_short, is_wide, middle, halves_along_y, halves_along_z, halves_of, IsFree, StaysApart}
use Rattle.sector_geom.proofs.PieceLaws.{IsPiece}
use Rattle.sector_geom.proofs.CoverLaw.{cover_law}
use Rattle.sector_geom.proofs.CoverShape.{cover_of_some}
use Rattle.sector_geom.proofs.Cases.{apart}

-- The middle of a range of at least 2 lies strictly between its ends.
record IsCut (low high : ℤ) : Type 0 where
  above : low <ℤ middle low high
  below : middle low high <ℤ high

cut : (low high : ℤ) → (low +ℤ pos 2) ≤ℤ high → IsCut low high
cut low high wide =
    let h = floor_half (low +ℤ high) in
    record { above = omega (arith, signs, h.0, h.1, wide); below = omega (arith, signs, h.0, h.1, wide) }

pub middle_in_range : (low high : ℤ) → unsigned_abs low ≤ 2 ^ 30 → unsigned_abs high ≤ 2 ^ 30 → unsigned_abs (middle low high) ≤ 2 ^ 30
middle_in_range low high l h =
    let f = floor_half (low +ℤ high) in
    let a = abs_out low (2 ^ 30) l in
    let b = abs_out high (2 ^ 30) h in
    abs_in (middle low high) (2 ^ 30) (omega (arith, signs, f.0, f.1, a.0, a.1, b.0, b.1)) (omega (arith, signs, f.0, f.1, a.0, a.1, b.0, b.1))

-- What is known of the halves of a piece.
pub record AreHalves (quarter : Quarter) (piece : Rect) (halves : Halves) : Type 0 where
  pub lower : IsPiece quarter halves.lower
  pub upper : IsPiece quarter halves.upper
  pub hold : (p : Rat2) → Holds piece p → Holds halves.lower p ⊎ Holds halves.upper p

-- A rectangle between the ends of one in a quarter lies there too.
lies_within : (quarter : Quarter) (r s : Rect) → r.y0 ≤ℤ s.y0 → s.y1 ≤ℤ r.y1 → r.z0 ≤ℤ s.z0 → s.z1 ≤ℤ r.z1 → LiesIn quarter r → LiesIn quarter s
lies_within Q1 r s a b c d h = (omega (arith, signs, a, h.0), omega (arith, signs, c, h.1))
lies_within Q2 r s a b c d h = (omega (arith, signs, b, h.0), omega (arith, signs, c, h.1))
lies_within Q3 r s a b c d h = (omega (arith, signs, b, h.0), omega (arith, signs, d, h.1))
lies_within Q4 r s a b c d h = (omega (arith, signs, a, h.0), omega (arith, signs, d, h.1))

-- A number is on one side of another.
on_a_side : (a b : ℤ) → (a ≤ℤ b) ⊎ (b ≤ℤ a)
on_a_side a b = grind (arith, ints)

along_y : (quarter : Quarter) (r : Rect) → IsPiece quarter r → (r.y0 +ℤ pos 2) ≤ℤ r.y1 → AreHalves quarter r (halves_along_y r)
along_y quarter r i wide =
    let c = cut r.y0 r.y1 wide in
    let m = middle_in_range r.y0 r.y1 i.in_range.y0 i.in_range.y1 in
    let h = halves_along_y r in
    record {
      lower = record {
        in_range = record { y0 = i.in_range.y0; y1 = m; z0 = i.in_range.z0; z1 = i.in_range.z1 };
        in_quarter = lies_within quarter r h.lower (omega (arith, signs)) (omega (arith, signs, c.below)) (omega (arith, signs)) (omega (arith, signs)) i.in_quarter;
        interior = record { wide = c.above; high = i.interior.high };
      };
      upper = record {
        in_range = record { y0 = m; y1 = i.in_range.y1; z0 = i.in_range.z0; z1 = i.in_range.z1 };
        in_quarter = lies_within quarter r h.upper (omega (arith, signs, c.above)) (omega (arith, signs)) (omega (arith, signs)) (omega (arith, signs)) i.in_quarter;
        interior = record { wide = c.below; high = i.interior.high };
      };
      hold = λ p held. elim (on_a_side p.y (middle r.y0 r.y1 *ℤ p.d)) [
        | inl low ↦ inl (record { positive = held.positive; left = held.left; right = low; low = held.low; high = held.high })
        | inr high ↦ inr (record { positive = held.positive; left = high; right = held.right; low = held.low; high = held.high })
      ];
    }

along_z : (quarter : Quarter) (r : Rect) → IsPiece quarter r → (r.z0 +ℤ pos 2) ≤ℤ r.z1 → AreHalves quarter r (halves_along_z r)
along_z quarter r i high =
    let c = cut r.z0 r.z1 high in
    let m = middle_in_range r.z0 r.z1 i.in_range.z0 i.in_range.z1 in
    let h = halves_along_z r in
    record {
      lower = record {
        in_range = record { y0 = i.in_range.y0; y1 = i.in_range.y1; z0 = i.in_range.z0; z1 = m };
        in_quarter = lies_within quarter r h.lower (omega (arith, signs)) (omega (arith, signs)) (omega (arith, signs)) (omega (arith, signs, c.below)) i.in_quarter;
        interior = record { wide = i.interior.wide; high = c.above };
      };
      upper = record {
        in_range = record { y0 = i.in_range.y0; y1 = i.in_range.y1; z0 = m; z1 = i.in_range.z1 };
        in_quarter = lies_within quarter r h.upper (omega (arith, signs)) (omega (arith, signs)) (omega (arith, signs, c.above)) (omega (arith, signs)) i.in_quarter;
        interior = record { wide = i.interior.wide; high = c.below };
      };
      hold = λ p held. elim (on_a_side p.z (middle r.z0 r.z1 *ℤ p.d)) [
        | inl low ↦ inl (record { positive = held.positive; left = held.left; right = held.right; low = held.low; high = low })
        | inr high ↦ inr (record { positive = held.positive; left = held.left; right = held.right; low = high; high = held.high })
      ];
    }

-- Which of two is chosen.
pick : (small wide : Bool) (a b h : Halves) → (if small then None else if wide then Some a else Some b) ≡ Some h → (small ≡ false) × (((wide ≡ true) × (a ≡ h)) ⊎ ((wide ≡ false) × (b ≡ h)))
pick true wide a b h e = absurd (none-some h e)
pick false true a b h e = (refl, inl (refl, (cond_some true a h e).1))
pick false false a b h e = (refl, inr (refl, (cond_some true b h e).1))

wide_enough : (r : Rect) → is_short r ≡ false → is_wide r ≡ true → (r.y0 +ℤ pos 2) ≤ℤ r.y1
wide_enough r long wide = grind (arith, ints, clamps, long, wide)

high_enough : (r : Rect) → is_short r ≡ false → is_wide r ≡ false → (r.z0 +ℤ pos 2) ≤ℤ r.z1
high_enough r long high = grind (arith, ints, clamps, long, high)

pub are_halves : (quarter : Quarter) (r : Rect) (h : Halves) → IsPiece quarter r → halves_of r ≡ Some h → AreHalves quarter r h
are_halves quarter r h i e =
    let p = pick (is_short r) (is_wide r) (halves_along_y r) (halves_along_z r) h e in
    elim p.1 [
      | inl y ↦ subst (AreHalves quarter r) y.1 (along_y quarter r i (wide_enough r p.0 y.0))
      | inr z ↦ subst (AreHalves quarter r) z.1 (along_z quarter r i (high_enough r p.0 z.0))
    ]

-- A cover that is clear stays apart at every turn.
clear_apart : (quarter : Quarter) (sweep : Sweep) (piece o : Rect) → IsPiece quarter piece → IsClear (cover_of quarter sweep piece) o → StaysApart sweep piece o
clear_apart quarter sweep piece o i clear p t held turn inside =
    let by : IsCoverBy sweep (cover_of quarter sweep piece) = record { piece = piece; quarter = quarter; in_range = i.in_range; in_quarter = i.in_quarter; interior = i.interior; value = refl } in
    apart (cover_of quarter sweep piece) o (cover_of_some sweep _ by) clear (turned t p) (cover_law quarter sweep piece i.in_quarter i.interior p t held turn) inside

-- What stays apart by its halves, of which each does.
halves_apart : (quarter : Quarter) (sweep : Sweep) (piece o : Rect) (P : Rect → Type 0)
    → ((half : Rect) → IsPiece quarter half → P half → StaysApart sweep half o)
    → (halves : Option Halves) → ((h : Halves) → halves ≡ Some h → AreHalves quarter piece h)
    → IsSomeAnd halves (λ h. P h.lower × P h.upper) → StaysApart sweep piece o
halves_apart quarter sweep piece o P each None are f p t held turn inside = absurd f
halves_apart quarter sweep piece o P each (Some h) are f p t held turn inside =
    let a = are h refl in
    elim (a.hold p held) [
      | inl low ↦ each h.lower a.lower f.0 p t low turn inside
      | inr high ↦ each h.upper a.upper f.1 p t high turn inside
    ]

-- The free law.
pub free_law : (depth : ℕ) (quarter : Quarter) (sweep : Sweep) (piece o : Rect) → IsPiece quarter piece → IsFree depth quarter sweep piece o → StaysApart sweep piece o
free_law zero quarter sweep piece o i clear = clear_apart quarter sweep piece o i clear
free_law (suc depth) quarter sweep piece o i (inl clear) = clear_apart quarter sweep piece o i clear
free_law (suc depth) quarter sweep piece o i (inr free) =
    halves_apart quarter sweep piece o (λ half. IsFree depth quarter sweep half o) (λ half k f. free_law depth quarter sweep half o k f) (halves_of piece) (λ h e. are_halves quarter piece h i e) free

each_half : (P Q : Rect → Type 0) → ((half : Rect) → P half → Q half) → (halves : Option Halves) → IsSomeAnd halves (λ h. P h.lower × P h.upper) → IsSomeAnd halves (λ h. Q h.lower × Q h.upper)
each_half P Q f None h = h
each_half P Q f (Some x) h = (f x.lower h.0, f x.upper h.1)

-- What is free at a depth is free at every greater one.
pub free_deeper : (depth more : ℕ) (quarter : Quarter) (sweep : Sweep) (piece o : Rect) → depth ≤ more → IsFree depth quarter sweep piece o → IsFree more quarter sweep piece o
free_deeper zero zero quarter sweep piece o l h = h
free_deeper zero (suc more) quarter sweep piece o l h = inl h
free_deeper (suc depth) zero quarter sweep piece o l h = absurd (omega arith)
free_deeper (suc depth) (suc more) quarter sweep piece o l (inl clear) = inl clear
free_deeper (suc depth) (suc more) quarter sweep piece o l (inr free) =
    inr (each_half (λ half. IsFree depth quarter sweep half o) (λ half. IsFree more quarter sweep half o) (λ half f. free_deeper depth more quarter sweep half o (omega arith) f) (halves_of piece) free)

-- Which of three is chosen.
pub none_chosen : (small wide : Bool) (a b : Halves) → small ≡ true → None ≡ (if small then None else if wide then Some a else Some b)
none_chosen true wide a b e = refl
none_chosen false wide a b e = absurd (false≢true e)

pub first_chosen : (small wide : Bool) (a b x : Halves) → small ≡ false → wide ≡ true → x ≡ a → Some x ≡ (if small then None else if wide then Some a else Some b)
first_chosen true wide a b x e f g = absurd (false≢true (sym e))
first_chosen false true a b x e f g = ap Some g
first_chosen false false a b x e f g = absurd (false≢true f)

pub second_chosen : (small wide : Bool) (a b x : Halves) → small ≡ false → wide ≡ false → x ≡ b → Some x ≡ (if small then None else if wide then Some a else Some b)
second_chosen true wide a b x e f g = absurd (false≢true (sym e))
second_chosen false true a b x e f g = absurd (false≢true (sym f))
second_chosen false false a b x e f g = ap Some g

-- What is clear is free at each depth.
pub free_if_clear : (depth : ℕ) (quarter : Quarter) (sweep : Sweep) (piece o : Rect) → IsClear (cover_of quarter sweep piece) o → IsFree depth quarter sweep piece o
free_if_clear zero quarter sweep piece o clear = clear
free_if_clear (suc depth) quarter sweep piece o clear = inl clear

-- What isn't clear isn't free at depth 0.
pub not_free_at_0 : (depth : ℕ) (quarter : Quarter) (sweep : Sweep) (piece o : Rect) → depth ≡ 0 → (IsClear (cover_of quarter sweep piece) o → ⊥) → IsFree depth quarter sweep piece o → ⊥
not_free_at_0 zero quarter sweep piece o e off h = off h
not_free_at_0 (suc depth) quarter sweep piece o e off h = absurd (omega (arith, e))

-- Nor is it free where it has no halves.
pub not_free_whole : (depth : ℕ) (quarter : Quarter) (sweep : Sweep) (piece o : Rect) → None ≡ halves_of piece → (IsClear (cover_of quarter sweep piece) o → ⊥) → IsFree depth quarter sweep piece o → ⊥
not_free_whole zero quarter sweep piece o e off h = off h
not_free_whole (suc depth) quarter sweep piece o e off (inl clear) = off clear
not_free_whole (suc depth) quarter sweep piece o e off (inr free) = subst (λ halves. IsSomeAnd halves (λ h. IsFree depth quarter sweep h.lower o × IsFree depth quarter sweep h.upper o)) (sym e) free

-- Where it has some, it is free exactly where both are.
pub free_by_halves : (depth less : ℕ) (quarter : Quarter) (sweep : Sweep) (piece o : Rect) (h : Halves) → depth ≡ suc less → halves_of piece ≡ Some h → (IsClear (cover_of quarter sweep piece) o → ⊥)
    → IsFree depth quarter sweep piece o ↔ (IsFree less quarter sweep h.lower o × IsFree less quarter sweep h.upper o)
free_by_halves depth less quarter sweep piece o h e is off =
    subst (λ d. IsFree d quarter sweep piece o ↔ (IsFree less quarter sweep h.lower o × IsFree less quarter sweep h.upper o)) (sym e) (forth, back)
  where
    Both : Option Halves → Type 0
    Both halves = IsSomeAnd halves (λ x. IsFree less quarter sweep x.lower o × IsFree less quarter sweep x.upper o)

    forth : IsFree (suc less) quarter sweep piece o → IsFree less quarter sweep h.lower o × IsFree less quarter sweep h.upper o
    forth (inl clear) = absurd (off clear)
    forth (inr free) = subst Both is free

    back : IsFree less quarter sweep h.lower o × IsFree less quarter sweep h.upper o → IsFree (suc less) quarter sweep piece o
    back f = inr (subst Both (sym is) f)

-- What the test of the cover says, where it says no.
pub unclear : (quarter : Quarter) (sweep : Sweep) (piece o : Rect) (s : Sector) (clear : Bool) → s ≡ cover_of quarter sweep piece → (IsTrue clear ↔ IsClear s o) → clear ≡ false → IsClear (cover_of quarter sweep piece) o → ⊥
unclear quarter sweep piece o s clear is exact off h = false≢true (sym off ∙ exact.1 (subst (λ (x : Sector). IsClear x o) (sym is) h))

pub through : {A B C : Type 0} → (A ↔ B) → (C ↔ B) → C ↔ A
through f g = (λ c. f.1 (g.0 c), λ a. g.1 (f.0 a))
