-- How much is still to be told: the measures of the loops that settle a key.
use Rattle.std.proofs.Common.{◌≡◌, inl, inr, ℕ, zero, suc, ◌+◌, ◌<◌, ◌≤◌, Bool, true, false, not}
use Rattle.std.proofs.Common.{cond, ◌∷◌, length, filter, Option, Some, None, arith, refl, ◌∙◌, ap}
use Rattle.std.specs.Prelude.{slice_get}
use Rattle.std.specs.List.{range_with_len}
use Rattle.std.proofs.lemmas.Bool.Decides.{eqb_tells}
use Rattle.std.proofs.Math.Nat.{eq-or-lt_of_le}
use Rattle.brake_base.specs.declared.mask.Mask.{Mask}
use Rattle.brake_base.specs.declared.stroke.Action.{Action}
use Rattle.stage_lanes.specs.declared.actions.ActionSet.{ActionSet}
use Rattle.stage_lanes.specs.ActionSets.{place_of, has, has_place}
use Rattle.bb_search.specs.declared.known.KnownActions.{KnownActions}
use Rattle.bb_search.specs.KnownActions.{TableData, IsToldOf}
use Rattle.bb_search.specs.OpenRows.{unknown_count}

-- the number of places in a set
unfoldable pub place_count : ActionSet → ℕ
place_count set = length (filter (has_place set) (range_with_len 0 192))

abbrev pub count_of : Option KnownActions → ℕ
count_of None = 0
count_of (Some at) = unknown_count at

-- of how many places nothing is known at a set
abbrev pub unknown_in : TableData → Mask → ℕ
unknown_in table mask = count_of (slice_get table.known mask.0)

no_fewer : (p q : ℕ → Bool) (a n : ℕ) → ((k : ℕ) → a ≤ k → k < a + n → p k ≡ true → q k ≡ true) → length (filter p (range_with_len a n)) ≤ length (filter q (range_with_len a n))
no_fewer p q a zero within = omega arith
no_fewer p q a (suc n) within = by_tests (p a) (q a) (within a (omega arith) (omega arith)) (no_fewer p q (a + 1) n (λ k low high. within k (omega (arith, low)) (omega (arith, high))))
  where
    by_tests : (s t : Bool) → (s ≡ true → t ≡ true) → length (filter p (range_with_len (a + 1) n)) ≤ length (filter q (range_with_len (a + 1) n))
        → length (cond s (a ∷ filter p (range_with_len (a + 1) n)) (filter p (range_with_len (a + 1) n))) ≤ length (cond t (a ∷ filter q (range_with_len (a + 1) n)) (filter q (range_with_len (a + 1) n)))
    by_tests true true also h = omega (arith, h)
    by_tests true false also h = absurd (let clash = also refl in cc)
    by_tests false true also h = omega (arith, h)
    by_tests false false also h = h

one_fewer : (p q : ℕ → Bool) (a n j : ℕ) → ((k : ℕ) → a ≤ k → k < a + n → p k ≡ true → q k ≡ true) → a ≤ j → j < a + n → p j ≡ false → q j ≡ true
    → length (filter p (range_with_len a n)) < length (filter q (range_with_len a n))
one_fewer p q a zero j within low high out in_now = absurd (omega (arith, low, high))
one_fewer p q a (suc n) j within low high out in_now = elim (eq-or-lt_of_le low) [
  | inl here ↦ at_first (p a) (q a) (ap p here ∙ out) (ap q here ∙ in_now) (no_fewer p q (a + 1) n (λ k l h. within k (omega (arith, l)) (omega (arith, h))))
  | inr later ↦ by_tests (p a) (q a) (within a (omega arith) (omega arith)) (one_fewer p q (a + 1) n j (λ k l h. within k (omega (arith, l)) (omega (arith, h))) (omega (arith, later)) (omega (arith, high)) out in_now)
]
  where
    at_first : (s t : Bool) → s ≡ false → t ≡ true → length (filter p (range_with_len (a + 1) n)) ≤ length (filter q (range_with_len (a + 1) n))
        → length (cond s (a ∷ filter p (range_with_len (a + 1) n)) (filter p (range_with_len (a + 1) n))) < length (cond t (a ∷ filter q (range_with_len (a + 1) n)) (filter q (range_with_len (a + 1) n)))
    at_first false true e f h = omega (arith, h)
    at_first false false e f h = absurd (cc)
    at_first true t e f h = absurd (cc)

    by_tests : (s t : Bool) → (s ≡ true → t ≡ true) → length (filter p (range_with_len (a + 1) n)) < length (filter q (range_with_len (a + 1) n))
        → length (cond s (a ∷ filter p (range_with_len (a + 1) n)) (filter p (range_with_len (a + 1) n))) < length (cond t (a ∷ filter q (range_with_len (a + 1) n)) (filter q (range_with_len (a + 1) n)))
    by_tests true true also h = omega (arith, h)
    by_tests true false also h = absurd (let clash = also refl in cc)
    by_tests false true also h = omega (arith, h)
    by_tests false false also h = h

-- a set without a place that it had has fewer
pub fewer_places :
    (before after : ActionSet) (place : ℕ) → place < 192 → has_place before place ≡ true
    → has_place after place ≡ false
    → ((other : ℕ) → other < 192 → has_place after other ≡ true → has_place before other ≡ true)
    → place_count after < place_count before
unfolding place_count
fewer_places before after place within had gone kept =
    one_fewer (has_place after) (has_place before) 0 192 place
    (λ k low high. kept k (omega (arith, high))) (omega arith) (omega (arith, within)) gone had

not_true : (t : Bool) → not t ≡ true → t ≡ false
not_true true is = absurd cc
not_true false is = refl

-- more is known, so less is unknown
pub fewer_unknown :
    (before after : KnownActions) (place : ℕ) → place < 192 → has_place before.known place ≡ false
    → has_place after.known place ≡ true
    → ((other : ℕ) → other < 192 → has_place before.known other ≡ true
    → has_place after.known other ≡ true)
    → unknown_count after < unknown_count before
unfolding unknown_count
fewer_unknown before after place within was is kept =
    one_fewer (λ p. not (has_place after.known p)) (λ p. not (has_place before.known p)) 0 192 place
    (λ k low high unknown. still k (omega (arith, high)) (not_true (has_place after.known k) unknown))
    (omega arith) (omega (arith, within)) (ap not is) (ap not was)
  where
    still : (k : ℕ) → k < 192 → has_place after.known k ≡ false → not (has_place before.known k) ≡ true
    still k low none = by (has_place before.known k) (kept k low)
      where
        by : (t : Bool) → (t ≡ true → has_place after.known k ≡ true) → not t ≡ true
        by true also = absurd (let is = also refl in cc)
        by false also = refl

-- and no more is unknown, where nothing that was known went
pub told_fewer :
    (action : Action) (before after : KnownActions) → place_of action < 192
    → IsToldOf action before after → has before.known action ≡ false
    → unknown_count after < unknown_count before
told_fewer action before after within told unknown =
    fewer_unknown before after (place_of action) within unknown told.here
    (λ other low known. elim (eqb_tells other (place_of action)) [
      | inl same ↦ ap (λ (p : ℕ). has_place after.known p) same.1 ∙ told.here
      | inr differ ↦ told.known other low differ.1 ∙ known
    ])
