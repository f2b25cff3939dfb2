-- Whether a bend is a lead, by the least bend of its group; and the leads and stages of a loop, one number more.
use Rattle.std.proofs.Common.{◌≡◌, inl, inr, ℕ, ◌+◌, ◌-◌, ◌<◌, ◌≤◌, Bool, true, false, cond, List, [], ◌∷◌, ◌++◌, Some, length, map, filter, arith, refl, sym, ◌∙◌, ap}
use Rattle.std.specs.Prelude.{◌↔◌, IsTrue, min, max, unwrap_or}
use Rattle.std.specs.List.{range_with_len}
use Rattle.std.proofs.lemmas.Bool.{cases_lt, false_from_ne_true}
use Rattle.std.proofs.lemmas.List.{map-append}
use Rattle.brake_base.specs.declared.mask.Mask.{Mask}
use Rattle.brake_base.specs.Masks.{has, IsLeast}
use Rattle.fold_boxes.proofs.Picked.{filter_more}
use Rattle.job_setup.specs.Setup.{JobData, bend_count}
use Rattle.job_setup.specs.StrokeGroup.{in_group, is_lead}
use Rattle.handling_cost.specs.StepCost.{distance}
use Rattle.handling_cost.specs.Bound.{nearest, greatest}
use Rattle.handling_cost.specs.Nearest.{lesser, nearest_of_some}
use Rattle.handling_cost.proofs.Mates.{grouped_self}
use Rattle.handling_cost.proofs.Actions.{lead_is, lead_from, has_zero}

same_truth : (x y : Bool) → (x ≡ true → y ≡ true) → (y ≡ true → x ≡ true) → x ≡ y
same_truth true y there back = sym (there refl)
same_truth false true there back = back refl
same_truth false false there back = refl

pub folded_no_lead : (job : JobData) (mask : Mask) (b : ℕ) → has mask b ≡ true → is_lead job mask b ≡ false
folded_no_lead job mask b folded = false_from_ne_true (is_lead job mask b) (λ lead. let flat = (lead_is job mask b lead).flat in cc)

pub open_lead : (job : JobData) (mask : Mask) (b : ℕ) → 1 ≤ b → b ≤ bend_count job → has mask b ≡ false → (group : Mask) → ((c : ℕ) → has group c ≡ in_group job (has mask) b c) → (least : Bool) → IsTrue least ↔ IsLeast group b → least ≡ is_lead job mask b
open_lead job mask b first last flat group bends least test = same_truth least (is_lead job mask b) there back
  where
    there : least ≡ true → is_lead job mask b ≡ true
    there is = let h = test.0 is in lead_from job mask b (record { flat = flat; least = λ c low high below. sym (bends c) ∙ h.least c below })

    back : is_lead job mask b ≡ true → least ≡ true
    back lead =
        let h = lead_is job mask b lead in
        test.1 (record {
          member = bends b ∙ grouped_self job (has mask) job.setup.gang b first last flat;
          least = λ c below. elim (cases_lt c 1) [
            | inl none ↦ has_zero group c (omega arith)
            | inr some ↦ bends c ∙ h.least c some (omega arith) below
          ];
        })

-- ---- one number more
next_count : (b : ℕ) → 0 < b → b + 1 - 1 ≡ (b - 1) + 1
next_count b some = omega arith

next_leads : (p : ℕ → Bool) (b : ℕ) → 0 < b → filter p (range_with_len 1 (b + 1 - 1)) ≡ filter p (range_with_len 1 (b - 1)) ++ cond (p b) (b ∷ []) []
next_leads p b some = ap (λ n. filter p (range_with_len 1 n)) (next_count b some) ∙ filter_more p 1 (b - 1) b (omega arith)

more : (xs : List ℕ) (x : ℕ) → length (xs ++ x ∷ []) ≡ length xs + 1
more [] x = refl
more (y ∷ xs) x = let rest = more xs x in omega (arith, rest)

none_more : (xs : List ℕ) → xs ++ [] ≡ xs
none_more [] = refl
none_more (x ∷ xs) = ap (λ ys. x ∷ ys) (none_more xs)

pub count_next : (p : ℕ → Bool) (b : ℕ) → 0 < b → p b ≡ true → length (filter p (range_with_len 1 (b + 1 - 1))) ≡ length (filter p (range_with_len 1 (b - 1))) + 1
count_next p b some passes = ap length (next_leads p b some) ∙ rw passes (more (filter p (range_with_len 1 (b - 1))) b)

pub leads_skip : (p : ℕ → Bool) (b : ℕ) → 0 < b → p b ≡ false → filter p (range_with_len 1 (b + 1 - 1)) ≡ filter p (range_with_len 1 (b - 1))
leads_skip p b some fails = next_leads p b some ∙ rw fails (none_more (filter p (range_with_len 1 (b - 1))))

greatest_more : (ns : List ℕ) (n : ℕ) → greatest (ns ++ n ∷ []) ≡ max (greatest ns) n
greatest_more [] n = omega arith
greatest_more (m ∷ ns) n = let rest = greatest_more ns n in omega (arith, rest)

pub greatest_next : (p : ℕ → Bool) (f : ℕ → ℕ) (b : ℕ) → 0 < b → p b ≡ true → greatest (map f (filter p (range_with_len 1 (b + 1 - 1)))) ≡ max (greatest (map f (filter p (range_with_len 1 (b - 1))))) (f b)
greatest_next p f b some passes =
    ap (λ ns. greatest (map f ns)) (next_leads p b some)
    ∙ rw passes (ap greatest (map-append f (filter p (range_with_len 1 (b - 1))) (b ∷ [])) ∙ greatest_more (map f (filter p (range_with_len 1 (b - 1)))) (f b))

nearest_end : (from x : ℕ) (xs : List ℕ) (s : ℕ) → nearest from ((x ∷ xs) ++ s ∷ []) ≡ min (nearest from (x ∷ xs)) (distance from s)
nearest_end from x [] s = refl
nearest_end from x (y ∷ ys) s = let rest = nearest_end from y ys s in omega (arith, rest)

nearest_more : (from : ℕ) (xs : List ℕ) (s : ℕ) → nearest_of_some from (xs ++ s ∷ []) ≡ Some (lesser (nearest_of_some from xs) (distance from s))
nearest_more from [] s = refl
nearest_more from (x ∷ xs) s = ap Some (nearest_end from x xs s)

pub nearest_next : (p : ℕ → Bool) (from n : ℕ) → p n ≡ true → nearest_of_some from (filter p (range_with_len 0 (n + 1))) ≡ Some (lesser (nearest_of_some from (filter p (range_with_len 0 n))) (distance from n))
nearest_next p from n passes = ap (nearest_of_some from) (filter_more p 0 n n (omega arith)) ∙ rw passes (nearest_more from (filter p (range_with_len 0 n)) n)

pub nearest_skip : (p : ℕ → Bool) (from n : ℕ) → p n ≡ false → nearest_of_some from (filter p (range_with_len 0 (n + 1))) ≡ nearest_of_some from (filter p (range_with_len 0 n))
nearest_skip p from n fails = ap (nearest_of_some from) (filter_more p 0 n n (omega arith)) ∙ rw fails (ap (nearest_of_some from) (none_more (filter p (range_with_len 0 n))))

pub nearest_or_none : (from : ℕ) (xs : List ℕ) → unwrap_or (nearest_of_some from xs) 0 ≡ nearest from xs
nearest_or_none from [] = refl
nearest_or_none from (x ∷ xs) = refl
