-- The list of folds: one more, one less, and how many there can be.
use Rattle.std.proofs.Common.{◌≡◌, ℕ, zero, suc, ◌+◌, ◌<◌, ◌≤◌, Bool, true, false, cond, not, ◌&&◌, ◌||◌, List, [], ◌∷◌, ◌++◌, length, filter, inl, inr, refl, sym, ◌∙◌, ap, subst, arith}
use Rattle.std.specs.List.{range_with_len}
use Rattle.std.proofs.Math.Nat.{eq-or-lt_of_le}
use Rattle.brake_base.specs.declared.mask.Mask.{Mask}
use Rattle.brake_base.specs.Masks.{has, union}
use Rattle.brake_base.proofs.MaskNumbers.{has_mask_of}
use Rattle.fold_boxes.specs.Shapes.{ShapeData}
use Rattle.fold_boxes.specs.Pose.{lead_of, IsGroup}
use Rattle.fold_boxes.proofs.Leads.{lead_is}
use Rattle.bend_state.specs.declared.state.Fold.{Fold}
use Rattle.bend_state.specs.State.{Leads}

pub leads_more : (shape : ShapeData) (from to : Mask) (folds : List Fold) (fold : Fold) → fold.before ≡ to → IsGroup shape to fold.group → Leads shape from folds to → Leads shape from (folds ++ fold ∷ []) (union to fold.group)
leads_more shape from to [] fold before is same = (before ∙ sym same, subst (λ (m : Mask). IsGroup shape m fold.group) (sym same) is, ap (λ (m : Mask). union m fold.group) same)
leads_more shape from to (first ∷ folds) fold before is leads = (leads.0, leads.1, leads_more shape (union from first.group) to folds fold before is leads.2)

pub record IsLastFold (shape : ShapeData) (from to : Mask) (folds : List Fold) (fold : Fold) : Type 0 where
  pub earlier : Leads shape from folds fold.before
  pub group : IsGroup shape fold.before fold.group
  pub after : union fold.before fold.group ≡ to

pub leads_less : (shape : ShapeData) (from to : Mask) (folds : List Fold) (fold : Fold) → Leads shape from (folds ++ fold ∷ []) to → IsLastFold shape from to folds fold
leads_less shape from to [] fold leads = record {
  earlier = sym leads.0;
  group = subst (λ (m : Mask). IsGroup shape m fold.group) (sym leads.0) leads.1;
  after = ap (λ (m : Mask). union m fold.group) leads.0 ∙ leads.2;
}
leads_less shape from to (first ∷ folds) fold leads =
    let rest = leads_less shape (union from first.group) to folds fold leads.2 in
    record { earlier = (leads.0, leads.1, rest.earlier); group = rest.group; after = rest.after }

-- how many of the bends 1 to 12 are in a set
abbrev pub size : Mask → ℕ
size mask = length (filter (has mask) (range_with_len 1 12))

most : (p : ℕ → Bool) (a n : ℕ) → length (filter p (range_with_len a n)) ≤ n
most p a zero = omega arith
most p a (suc n) = by_test (p a) (most p (a + 1) n)
  where
    by_test : (t : Bool) → length (filter p (range_with_len (a + 1) n)) ≤ n → length (cond t (a ∷ filter p (range_with_len (a + 1) n)) (filter p (range_with_len (a + 1) n))) ≤ suc n
    by_test true h = omega (arith, h)
    by_test false h = omega (arith, h)

no_fewer : (p q : ℕ → Bool) (a n : ℕ) → ((k : ℕ) → a ≤ k → k < a + n → p k ≡ true → q k ≡ true) → length (filter p (range_with_len a n)) ≤ length (filter q (range_with_len a n))
no_fewer p q a zero within = omega arith
no_fewer p q a (suc n) within = by_tests (p a) (q a) (within a (omega arith) (omega arith)) (no_fewer p q (a + 1) n (λ k low high. within k (omega (arith, low)) (omega (arith, high))))
  where
    by_tests : (s t : Bool) → (s ≡ true → t ≡ true) → length (filter p (range_with_len (a + 1) n)) ≤ length (filter q (range_with_len (a + 1) n))
        → length (cond s (a ∷ filter p (range_with_len (a + 1) n)) (filter p (range_with_len (a + 1) n))) ≤ length (cond t (a ∷ filter q (range_with_len (a + 1) n)) (filter q (range_with_len (a + 1) n)))
    by_tests true true also h = omega (arith, h)
    by_tests true false also h = absurd (let clash = also refl in cc)
    by_tests false true also h = omega (arith, h)
    by_tests false false also h = h

one_more : (p q : ℕ → Bool) (a n j : ℕ) → ((k : ℕ) → a ≤ k → k < a + n → p k ≡ true → q k ≡ true) → a ≤ j → j < a + n → p j ≡ false → q j ≡ true
    → length (filter p (range_with_len a n)) + 1 ≤ length (filter q (range_with_len a n))
one_more p q a zero j within low high out in_now = absurd (omega (arith, low, high))
one_more p q a (suc n) j within low high out in_now = elim (eq-or-lt_of_le low) [
  | inl here ↦ at_first (p a) (q a) (ap p here ∙ out) (ap q here ∙ in_now) (no_fewer p q (a + 1) n (λ k l h. within k (omega (arith, l)) (omega (arith, h))))
  | inr later ↦ by_tests (p a) (q a) (within a (omega arith) (omega arith)) (one_more p q (a + 1) n j (λ k l h. within k (omega (arith, l)) (omega (arith, h))) (omega (arith, later)) (omega (arith, high)) out in_now)
]
  where
    at_first : (s t : Bool) → s ≡ false → t ≡ true → length (filter p (range_with_len (a + 1) n)) ≤ length (filter q (range_with_len (a + 1) n))
        → length (cond s (a ∷ filter p (range_with_len (a + 1) n)) (filter p (range_with_len (a + 1) n))) + 1 ≤ length (cond t (a ∷ filter q (range_with_len (a + 1) n)) (filter q (range_with_len (a + 1) n)))
    at_first false true e f h = omega (arith, h)
    at_first false false e f h = absurd (cc)
    at_first true t e f h = absurd (cc)

    by_tests : (s t : Bool) → (s ≡ true → t ≡ true) → length (filter p (range_with_len (a + 1) n)) + 1 ≤ length (filter q (range_with_len (a + 1) n))
        → length (cond s (a ∷ filter p (range_with_len (a + 1) n)) (filter p (range_with_len (a + 1) n))) + 1 ≤ length (cond t (a ∷ filter q (range_with_len (a + 1) n)) (filter q (range_with_len (a + 1) n)))
    by_tests true true also h = omega (arith, h)
    by_tests true false also h = absurd (let clash = also refl in cc)
    by_tests false true also h = omega (arith, h)
    by_tests false false also h = h

either : (a b : Bool) → a ≡ true → (a || b) ≡ true
either true b h = refl
either false b h = absurd (cc)

other : (a b : Bool) → b ≡ true → (a || b) ≡ true
other true b h = refl
other false b h = h

-- a group adds at least its lead
grows : (shape : ShapeData) → length shape.part.faces ≤ 13 → (before group : Mask) → IsGroup shape before group → size before + 1 ≤ size (union before group)
grows shape few before group is =
    let lead = lead_is shape group is.some in
    let b = lead_of shape group in
    let both : (k : ℕ) → 1 ≤ k → k ≤ 16 → has (union before group) k ≡ (has before k || has group k) = λ k low high. has_mask_of (λ c. has before c || has group c) k low high in
    let few_lead : b ≤ 12 = omega (arith, lead.inside, few) in
    let some : 1 ≤ b = omega (arith, lead.some) in
    one_more (has before) (has (union before group)) 1 12 b
    (λ k low high h. both k low (omega (arith, high)) ∙ either (has before k) (has group k) h)
    some (omega (arith, few_lead)) (is.flat b is.some) (both b some (omega (arith, few_lead)) ∙ other (has before b) (has group b) is.some)

leads_size : (shape : ShapeData) → length shape.part.faces ≤ 13 → (from to : Mask) (folds : List Fold) → Leads shape from folds to → size from + length folds ≤ size to
leads_size shape few from to [] same = let e = ap size same in omega (arith, e)
leads_size shape few from to (fold ∷ folds) leads = omega (arith, grows shape few from fold.group leads.1, leads_size shape few (union from fold.group) to folds leads.2)

-- before a further fold there are at most 11
pub few_folds : (shape : ShapeData) → length shape.part.faces ≤ 13 → (from to group : Mask) (folds : List Fold) → Leads shape from folds to → IsGroup shape to group → length folds ≤ 11
few_folds shape few from to group folds leads is =
    omega (arith, leads_size shape few from to folds leads, grows shape few to group is, most (has (union to group)) 1 12)

-- what a group's bends leave of the set after it is the set before it
taken_out : (a b : Bool) → (b ≡ true → a ≡ false) → a ≡ ((a || b) && not b)
taken_out true true apart = absurd (let clash = apart refl in cc)
taken_out true false apart = refl
taken_out false true apart = refl
taken_out false false apart = refl

pub without_group : (shape : ShapeData) (before group all : Mask) → IsGroup shape before group → union before group ≡ all → (bend : ℕ) → 1 ≤ bend → bend ≤ 16 → has before bend ≡ (has all bend && not (has group bend))
without_group shape before group all is same bend low high =
    taken_out (has before bend) (has group bend) (λ member. is.flat bend member)
    ∙ ap (λ (t : Bool). t && not (has group bend)) (sym (has_mask_of (λ c. has before c || has group c) bend low high) ∙ ap (λ (m : Mask). has m bend) same)
