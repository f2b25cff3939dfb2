-- The scales ascend, so the first at which a picture has room is the least.
use Rattle.std.proofs.Common.{◌≡◌, ℕ, zero, suc, ◌<◌, ◌≤◌, ◌^◌, ℤ, pos, ◌≤ℤ◌, Bool, true, false, ◌&&◌, T, List, [], ◌∷◌, length, get_or, unsigned_abs, inl, inr, refl, sym, subst, ◌∙◌, arith}
use Rattle.std.specs.Prelude.{int_le}
use Rattle.std.specs.List.{Contains}
use Rattle.std.proofs.lemmas.Bool.{cases_lt}
use Rattle.std.proofs.lemmas.Int.{ints}
use Rattle.std.proofs.lemmas.List.{get_or_default}
use Rattle.sheet_paper.specs.declared.scale.TheConstants.{SCALES}
use Rattle.sheet_paper.specs.Scales.{scales, HasRoom, IsLeastScale}
use Rattle.sheet_paper.specs.Windows.{IsScale}

-- the numbers ascend from a low one on
abbrev ascends : ℤ → List ℤ → Bool
ascends low [] = true
ascends low (x ∷ xs) = int_le low x && ascends x xs

both : (a b : Bool) → T (a && b) → T a × T b
both true b h = (tt, h)
both false b h = absurd h

is_true : (a : Bool) → T a → a ≡ true
is_true true h = refl
is_true false h = absurd h

in_order : (a b : ℤ) → int_le a b ≡ true → a ≤ℤ b
in_order a b h = grind (arith, ints)

up_to : (a b c : ℤ) → a ≤ℤ b → b ≤ℤ c → a ≤ℤ c
up_to a b c low high = omega (arith, ints)

above : (low : ℤ) (xs : List ℤ) (j : ℕ) → T (ascends low xs) → j < length xs → low ≤ℤ get_or xs j (pos 0)
above low [] j up within = absurd (omega arith)
above low (x ∷ xs) zero up within = in_order low x (is_true _ (both (int_le low x) _ up).0)
above low (x ∷ xs) (suc j) up within =
    let parts = both (int_le low x) (ascends x xs) up in
    up_to low x _ (in_order low x (is_true _ parts.0)) (above x xs j parts.1 (omega arith))

rises : (low : ℤ) (xs : List ℤ) (i j : ℕ) → T (ascends low xs) → i ≤ j → j < length xs → get_or xs i (pos 0) ≤ℤ get_or xs j (pos 0)
rises low [] i j up order within = absurd (omega arith)
rises low (x ∷ xs) zero zero up order within = omega (arith, ints)
rises low (x ∷ xs) zero (suc j) up order within = above x xs j (both (int_le low x) (ascends x xs) up).1 (omega arith)
rises low (x ∷ xs) (suc i) zero up order within = absurd (omega arith)
rises low (x ∷ xs) (suc i) (suc j) up order within = rises x xs i j (both (int_le low x) (ascends x xs) up).1 (omega arith) (omega arith)

ascending : T (ascends (pos 1) SCALES)
ascending = tt

-- each scale is one of a picture
pub is_scale : (i : ℕ) → i < 62 → IsScale (get_or SCALES i (pos 0))
is_scale i within = record {
  some = above (pos 1) SCALES i ascending within;
  near = up_to _ (pos 8000000) _ (rises (pos 1) SCALES i 61 ascending (omega arith) (omega arith)) (in_order (pos 8000000) (pos 8388608) refl);
}

pub is_small : (scale : ℤ) → IsScale scale → unsigned_abs scale ≤ 2 ^ 23
is_small scale is = omega (arith, ints, is.some, is.near)

is_one : (i : ℕ) → i < 62 → Contains SCALES (get_or SCALES i (pos 0))
is_one i within = (i, within, get_or_default SCALES i _ (pos 0) within)

-- the place of another scale
at_other : (width height across upright : ℤ) (i j : ℕ) (other : ℤ) → i < 62 → ((k : ℕ) → k < i → HasRoom width height across upright (get_or SCALES k (pos 0)) → ⊥) → j < 62 → other ≡ get_or SCALES j (pos 0) → HasRoom width height across upright other → get_or SCALES i (pos 0) ≤ℤ other
at_other width height across upright i j other within none j_within is room =
    elim (cases_lt j i) [
      | inl less ↦ absurd (none j less (subst (λ (s : ℤ). HasRoom width height across upright s) is room))
      | inr up ↦ subst (λ (s : ℤ). get_or SCALES i (pos 0) ≤ℤ s) (sym is) (rises (pos 1) SCALES i j ascending up j_within)
    ]

-- the first at which there is room is the least
pub first_is_least : (width height across upright scale : ℤ) (i : ℕ) → i < 62 → scale ≡ get_or SCALES i (pos 0) → ((k : ℕ) → k < i → HasRoom width height across upright (get_or SCALES k (pos 0)) → ⊥) → HasRoom width height across upright scale → IsLeastScale width height across upright scale
first_is_least width height across upright scale i within is none room = record {
  one = subst (λ (s : ℤ). Contains SCALES s) (sym is) (is_one i within);
  least = λ other has fits.
      let at : other ≡ get_or SCALES has.0 (pos 0) = sym has.2 ∙ get_or_default SCALES has.0 other (pos 0) has.1 in
      (room, subst (λ (s : ℤ). s ≤ℤ other) (sym is) (at_other width height across upright i has.0 other within none has.1 at fits));
  last = λ no. absurd (no room);
}

-- where there is none, the last stands for it
pub none_is_last : (width height across upright : ℤ) → ((k : ℕ) → k < 62 → HasRoom width height across upright (get_or SCALES k (pos 0)) → ⊥) → IsLeastScale width height across upright (pos 8000000)
none_is_last width height across upright none = record {
  one = is_one 61 (omega arith);
  least = λ other has fits.
      let at : other ≡ get_or SCALES has.0 (pos 0) = sym has.2 ∙ get_or_default SCALES has.0 other (pos 0) has.1 in
      absurd (none has.0 has.1 (subst (λ (s : ℤ). HasRoom width height across upright s) at fits));
  last = λ no. refl;
}
