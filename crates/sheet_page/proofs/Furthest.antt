-- The states at which most bends are folded, as one more state comes.
use Rattle.std.proofs.Common.{◌≡◌, ◌∙◌, ℕ, zero, suc, ◌<◌, ◌≤◌, List, [], ◌∷◌, ◌++◌, Bool, true, false, map, take, filter, refl, ap, sym, append-nil, arith}
use Rattle.std.specs.Prelude.{◌==◌, cond, fold, max}
use Rattle.std.proofs.lemmas.Bool.{eq-eqb, ne_eqb}
use Rattle.std.proofs.lemmas.List.{take-map, map-append}
use Rattle.std.proofs.lemmas.List.Elements.{filter-append}
use Rattle.std.proofs.lemmas.List.Sums.{fold-append}
use Rattle.sheet_page.specs.Kept.{StateData, folded, most_folded, furthest}

-- the states of so many folded bends
abbrev of_size : ℕ → List StateData → List StateData
of_size n states = filter (λ s. folded s == n) states

most_more : (states : List StateData) (s : StateData) → most_folded (states ++ s ∷ []) ≡ max (most_folded states) (folded s)
most_more states s = fold-append (λ most t. max most (folded t)) 0 states (s ∷ [])

none_so_far : (a n : ℕ) (states : List StateData) → fold (λ most t. max most (folded t)) a states < n → (of_size n states ≡ []) × (a < n)
none_so_far a n [] less = (refl, less)
none_so_far a n (s ∷ states) less =
    let rest = none_so_far (max a (folded s)) n states less in
    let low = rest.1 in
    let other : (folded s == n) ≡ false = ne_eqb (folded s) n (λ same. absurd (omega (arith, low, same))) in
    (ap (λ (b : Bool). cond b (s ∷ of_size n states) (of_size n states)) other ∙ rest.0, omega (arith, low))

module _ (states : List StateData) (s : StateData) where
  furthest_by : (n : ℕ) (b : Bool) → most_folded (states ++ s ∷ []) ≡ n → (folded s == n) ≡ b → furthest (states ++ s ∷ []) ≡ of_size n states ++ cond b (s ∷ []) []
  furthest_by n b most is =
      ap (λ (m : ℕ). of_size m (states ++ s ∷ [])) most ∙ filter-append (λ t. folded t == n) states (s ∷ [])
      ∙ ap (λ (c : Bool). of_size n states ++ cond c (s ∷ []) []) is

  pub furthest_further : most_folded states < folded s → furthest (states ++ s ∷ []) ≡ s ∷ []
  furthest_further more =
      let most : most_folded (states ++ s ∷ []) ≡ folded s = most_more states s ∙ omega (arith, more) in
      furthest_by (folded s) true most (eq-eqb (folded s) (folded s) refl)
      ∙ ap (λ (t : List StateData). t ++ s ∷ []) (none_so_far 0 (folded s) states more).0

  pub furthest_as_far : folded s ≡ most_folded states → furthest (states ++ s ∷ []) ≡ furthest states ++ s ∷ []
  furthest_as_far same =
      let most : most_folded (states ++ s ∷ []) ≡ most_folded states = most_more states s ∙ omega (arith, same) in
      furthest_by (most_folded states) true most (eq-eqb (folded s) (most_folded states) same)

  pub furthest_less : folded s < most_folded states → furthest (states ++ s ∷ []) ≡ furthest states
  furthest_less less =
      let most : most_folded (states ++ s ∷ []) ≡ most_folded states = most_more states s ∙ omega (arith, less) in
      furthest_by (most_folded states) false most (ne_eqb (folded s) (most_folded states) (λ same. absurd (omega (arith, less, same))))
      ∙ append-nil (furthest states)

  pub most_further : most_folded states < folded s → most_folded (states ++ s ∷ []) ≡ folded s
  most_further more = most_more states s ∙ omega (arith, more)

  pub most_kept : folded s ≤ most_folded states → most_folded (states ++ s ∷ []) ≡ most_folded states
  most_kept order = most_more states s ∙ omega (arith, order)

-- of one more the first ones
pub first_ones_more : {A : Type 0} (n : ℕ) (xs : List A) (x : A) → take n (take n xs ++ x ∷ []) ≡ take n (xs ++ x ∷ [])
first_ones_more zero xs x = refl
first_ones_more (suc n) [] x = refl
first_ones_more (suc n) (y ∷ xs) x = ap (λ t. y ∷ t) (first_ones_more n xs x)

-- the first ones, as they are seen
pub seen_more : {A B : Type 0} (view : A → B) (n : ℕ) (kept : List A) (x : A) (all : List B) → map view kept ≡ take n all → map view (take n (kept ++ x ∷ [])) ≡ take n (all ++ view x ∷ [])
seen_more view n kept x all is =
    sym (take-map view n (kept ++ x ∷ [])) ∙ ap (take n) (map-append view kept (x ∷ []) ∙ ap (λ t. t ++ view x ∷ []) is)
    ∙ first_ones_more n all (view x)
