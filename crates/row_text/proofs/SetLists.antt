-- A text for each of a set's places.
use Rattle.std.proofs.Common.{◌≡◌, ℕ, zero, suc, ◌<◌, Bool, true, false, List, [], ◌∷◌, ◌++◌, filter, refl, ap, sym, ◌∙◌, arith}
use Rattle.std.specs.List.{flat_map}
use Rattle.std.proofs.lemmas.Grind.{flat_map-append}
use Rattle.stage_lanes.specs.declared.actions.ActionSet.{ActionSet}
use Rattle.stage_lanes.specs.ActionSets.{has_place, numbers_below, places_of}
use Rattle.plan_lines.proofs.NoteSets.{skip, keep, one_more}

-- two texts of a set's places are one where those of each place are
same_texts_below : (f : ℕ → Bool) (s t : ℕ → List ℕ) (n : ℕ) → ((k : ℕ) → k < n → f k ≡ true → s k ≡ t k) → flat_map s (filter f (numbers_below n)) ≡ flat_map t (filter f (numbers_below n))
same_texts_below f s t zero same = refl
same_texts_below f s t (suc n) same =
    ap (λ (ks : List ℕ). flat_map s ks) (one_more f n) ∙ flat_map-append s (filter f (numbers_below n)) (filter f (n ∷ []))
    ∙ ap (λ (a : List ℕ). a ++ flat_map s (filter f (n ∷ []))) (same_texts_below f s t n (λ k lt pass. same k (omega (arith, lt)) pass))
    ∙ ap (λ (a : List ℕ). flat_map t (filter f (numbers_below n)) ++ a) (last (f n) refl)
    ∙ sym (ap (λ (ks : List ℕ). flat_map t ks) (one_more f n) ∙ flat_map-append t (filter f (numbers_below n)) (filter f (n ∷ [])))
  where
    last : (b : Bool) → f n ≡ b → flat_map s (filter f (n ∷ [])) ≡ flat_map t (filter f (n ∷ []))
    last true pass = ap (λ (ks : List ℕ). flat_map s ks) (keep f n pass) ∙ ap (λ (a : List ℕ). a ++ []) (same n (omega arith) pass) ∙ sym (ap (λ (ks : List ℕ). flat_map t ks) (keep f n pass))
    last false fail = ap (λ (ks : List ℕ). flat_map s ks) (skip f n fail) ∙ sym (ap (λ (ks : List ℕ). flat_map t ks) (skip f n fail))

pub same_texts : (set : ActionSet) (s t : ℕ → List ℕ) → ((place : ℕ) → place < 192 → has_place set place ≡ true → s place ≡ t place) → flat_map s (places_of set) ≡ flat_map t (places_of set)
unfolding places_of
same_texts set s t same = same_texts_below (has_place set) s t 192 same
