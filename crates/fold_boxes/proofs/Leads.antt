-- The lead of a group: its least bend.
use Rattle.std.proofs.Common.{◌≡◌, ℕ, zero, suc, ◌+◌, ◌-◌, ◌<◌, ◌≤◌, Bool, true, false, ◌&&◌, not, ◌↔◌, cond, inl, inr, length, IsTrue, Option, Some, None, refl, sym, ◌∙◌, ap, subst, arith}
use Rattle.std.proofs.Math.Nat.{eq-or-lt_of_le}
use Rattle.std.specs.Prelude.{find, unwrap_or}
use Rattle.std.specs.List.{range_with_len}
use Rattle.brake_base.specs.declared.mask.Mask.{Mask}
use Rattle.brake_base.specs.Masks.{has, IsLeast, IsSubset}
use Rattle.unfolder.specs.Blank.{bend_numbers}
use Rattle.unfolder.proofs.Finding.{NoneBelow, find_first}
use Rattle.fold_boxes.specs.Shapes.{ShapeData}
use Rattle.fold_boxes.specs.Groups.{is_mate}
use Rattle.fold_boxes.specs.Pose.{lead_of, IsGroup}

-- the number that is found is in the range, and none before it passes
pub record IsFirst (p : ℕ → Bool) (a n j : ℕ) : Type 0 where
  pub low : a ≤ j
  pub high : j < a + n
  pub first : NoneBelow p a j

found_in : (p : ℕ → Bool) (a n j : ℕ) → find p (range_with_len a n) ≡ Some j → IsFirst p a n j
found_in p a zero j e = absurd (cc)
found_in p a (suc n) j e = by_test (p a) refl (found_in p (a + 1) n j) e
  where
    by_test : (t : Bool) → p a ≡ t → (find p (range_with_len (a + 1) n) ≡ Some j → IsFirst p (a + 1) n j) → cond t (Some a) (find p (range_with_len (a + 1) n)) ≡ Some j → IsFirst p a (suc n) j
    by_test true here later e =
        let same : a ≡ j = ap (λ (o : Option ℕ). unwrap_or o a) e in
        record { low = omega (arith, same); high = omega (arith, same); first = λ k low high. absurd (omega (arith, same, low, high)) }
    by_test false here later e =
        let rest = later e in
        record {
          low = omega (arith, rest.low);
          high = omega (arith, rest.high);
          first = λ k low high. elim (eq-or-lt_of_le low) [ inl same ↦ subst (λ (m : ℕ). p m ≡ false) same here | inr more ↦ rest.first k (omega (arith, more)) high ];
        }

pub has_none : (mask : Mask) → has mask 0 ≡ false
unfolding has
has_none mask = refl

-- the lead is a bend of the part, and the group has no lesser one
pub record IsLead (shape : ShapeData) (group : Mask) (b : ℕ) : Type 0 where
  pub some : 0 < b
  pub inside : b < length shape.part.faces
  pub first : NoneBelow (has group) 1 b

pub lead_is : (shape : ShapeData) (group : Mask) → IsTrue (has group (lead_of shape group)) → IsLead shape group (lead_of shape group)
lead_is shape group member = by_found (find (has group) (bend_numbers shape.part.faces)) refl member
  where
    by_found : (o : Option ℕ) → find (has group) (bend_numbers shape.part.faces) ≡ o → IsTrue (has group (unwrap_or o 0)) → IsLead shape group (unwrap_or o 0)
    by_found None e h = let none = has_none group in absurd (cc)
    by_found (Some j) e h =
        let found = found_in (has group) 1 (length shape.part.faces - 1) j e in
        record { some = omega (arith, found.low); inside = omega (arith, found.low, found.high); first = found.first }

pub least_is_lead : (shape : ShapeData) (group : Mask) (b : ℕ) → IsTrue (has group (lead_of shape group)) → IsLeast group b → b ≡ lead_of shape group
least_is_lead shape group b member least =
    let lead = lead_is shape group member in
    by_order (lead_of shape group) member lead
  where
    below : (l : ℕ) → IsLead shape group l → b < l → ⊥
    below l lead low = by_zero b refl
      where
        by_zero : (c : ℕ) → b ≡ c → ⊥
        by_zero zero e = let none = ap (has group) e ∙ has_none group in let here = least.member in absurd (cc)
        by_zero (suc c) e = let none = lead.first b (omega (arith, e)) low in let here = least.member in absurd (cc)

    above : (l : ℕ) → IsTrue (has group l) → l < b → ⊥
    above l here low = let none = least.least l low in absurd (cc)

    by_order : (l : ℕ) → IsTrue (has group l) → IsLead shape group l → b ≡ l
    by_order l here lead = omega (arith, below l lead, above l here)

pub least_some : (group : Mask) (b : ℕ) → IsTrue (has group b) → 0 < b
least_some group zero member = absurd (let none = has_none group in cc)
least_some group (suc b) member = omega arith

-- the lead is the least bend of a group, where that is a bend of the part
pub lead_found : (shape : ShapeData) (group : Mask) (b : ℕ) → IsLeast group b → b < length shape.part.faces → lead_of shape group ≡ b
lead_found shape group b least inside = by_number b refl
  where
    by_number : (c : ℕ) → b ≡ c → lead_of shape group ≡ b
    by_number zero e = absurd (let none = ap (has group) e ∙ has_none group in let here = least.member in cc)
    by_number (suc c) e = ap (λ (o : Option ℕ). unwrap_or o 0) (find_first (has group) 1 (length shape.part.faces - 1) b (λ k low high. least.least k high) least.member (omega (arith, e)) (omega (arith, e, inside)))

both_hold : (a b : Bool) → a ≡ true → b ≡ false → (a && not b) ≡ true
both_hold a b p q = rw (p, q) refl

left_holds : (a b : Bool) → (a && not b) ≡ true → (a ≡ true) × (b ≡ false)
left_holds true false h = (refl, refl)
left_holds true true h = absurd (cc)
left_holds false b h = absurd (cc)

-- a group, by the mates of its least bend that aren't folded
pub group_by_mates : (shape : ShapeData) (mask group mates rest : Mask) (b : ℕ) → IsLeast group b → b < length shape.part.faces
    → ((c : ℕ) → has mates c ≡ is_mate shape b c) → ((c : ℕ) → has rest c ≡ (has mates c && not (has mask c))) → IsSubset group rest ↔ IsGroup shape mask group
group_by_mates shape mask group mates rest b least inside mates_are rest_is =
    let lead = lead_found shape group b least inside in
    let split : IsSubset group rest → (c : ℕ) → IsTrue (has group c) → (is_mate shape b c ≡ true) × (has mask c ≡ false) =
    λ subset c member. let parts = left_holds (has mates c) (has mask c) (sym (rest_is c) ∙ subset c member) in (sym (mates_are c) ∙ parts.0, parts.1) in (
      (λ subset. record {
        some = ap (has group) lead ∙ least.member;
        mates = λ c member. ap (λ l. is_mate shape l c) lead ∙ (split subset c member).0;
        flat = λ c member. (split subset c member).1;
      }),
      λ is c member. rest_is c ∙ both_hold (has mates c) (has mask c) (mates_are c ∙ ap (λ l. is_mate shape l c) (sym lead) ∙ is.mates c member) (is.flat c member),
    )
