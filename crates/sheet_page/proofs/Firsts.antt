-- Of alike ones the first.
use Rattle.std.proofs.Common.{◌≡◌, ◌∙◌, ℕ, ◌+◌, ◌<◌, ◌≤◌, List, [], ◌∷◌, ◌++◌, Bool, true, false, ◌&&◌, ◌||◌, length, get_or, take, drop, flat_map, append_assoc, append-nil, refl, ap, sym}
use Rattle.std.specs.Prelude.{if◌then◌else◌}
use Rattle.std.specs.List.{list_any}
use Rattle.std.proofs.lemmas.Bool.{and_parts}
use Rattle.std.proofs.lemmas.List.{take_more, take_all, take-append-drop, take-take}
use Rattle.std.proofs.lemmas.List.Concat.{flat_map-append}
use Rattle.std.proofs.lemmas.List.Folds.{list_any-append}
use Rattle.sheet_page.specs.Refused.{is_first, last_firsts}
use Rattle.sheet_page.proofs.Joined.{two_put}

module _ {A : Type 0} (same : A → A → Bool) where
  -- the one, where it is the first behind earlier ones
  abbrev first_of : List A → A → List A
  first_of earlier x = if is_first same earlier x then x ∷ [] else []

  firsts_appended : (earlier xs ys : List A) → last_firsts same earlier (xs ++ ys) ≡ last_firsts same earlier xs ++ last_firsts same (earlier ++ xs) ys
  firsts_appended earlier [] ys = ap (λ (e : List A). last_firsts same e ys) (sym (append-nil earlier))
  firsts_appended earlier (x ∷ xs) ys =
      ap (λ (t : List A). first_of earlier x ++ t)
      (firsts_appended (earlier ++ x ∷ []) xs ys ∙ ap (λ (e : List A). last_firsts same (earlier ++ x ∷ []) xs ++ last_firsts same e ys) (append_assoc earlier (x ∷ []) xs))
      ∙ sym (append_assoc (first_of earlier x) (last_firsts same (earlier ++ x ∷ []) xs) (last_firsts same (earlier ++ x ∷ xs) ys))

  -- the firsts of one more
  pub firsts_more : (all : List A) (i : ℕ) (d : A) → i < length all → last_firsts same [] (take (i + 1) all) ≡ last_firsts same [] (take i all) ++ (if is_first same (take i all) (get_or all i d) then get_or all i d ∷ [] else [])
  firsts_more all i d within =
      ap (last_firsts same []) (take_more all i d within) ∙ firsts_appended [] (take i all) (get_or all i d ∷ [])
      ∙ ap (λ (t : List A). last_firsts same [] (take i all) ++ t) (append-nil (first_of (take i all) (get_or all i d)))

  -- a test that one of the firsts passes is passed by one of the firsts of more
  pub firsts_any_kept : (test : A → Bool) (all : List A) (m n : ℕ) → m ≤ n → list_any test (last_firsts same [] (take m all)) ≡ true → list_any test (last_firsts same [] (take n all)) ≡ true
  firsts_any_kept test all m n order found =
      let front = take m all in
      let behind = drop m (take n all) in
      let parts : take n all ≡ front ++ behind = sym (take-append-drop m (take n all)) ∙ ap (λ (t : List A). t ++ behind) (take-take m n all order) in
      ap (λ (t : List A). list_any test (last_firsts same [] t)) parts ∙ ap (list_any test) (firsts_appended [] front behind)
      ∙ list_any-append test (last_firsts same [] front) (last_firsts same front behind)
      ∙ ap (λ (b : Bool). b || list_any test (last_firsts same front behind)) found

  -- a test that none of the firsts passes, and the next one
  or_none : (b : Bool) → (b && true) ≡ false → (b || false) ≡ false
  or_none true h = h
  or_none false h = refl

  one_none : (test : A → Bool) (is : Bool) (x : A) → (test x && is) ≡ false → list_any test (if is then x ∷ [] else []) ≡ false
  one_none test true x h = or_none (test x) h
  one_none test false x h = refl

  one_found : (test : A → Bool) (is : Bool) (x : A) → (test x && is) ≡ true → list_any test (if is then x ∷ [] else []) ≡ true
  one_found test true x h = ap (λ (b : Bool). b || false) (and_parts (test x) true h).0
  one_found test false x h = (and_parts (test x) false h).1

  or_true : (b : Bool) → (b || true) ≡ true
  or_true true = refl
  or_true false = refl

  module _ (test : A → Bool) (all : List A) (i : ℕ) (d : A) (within : i < length all) where
    next_by : list_any test (last_firsts same [] (take (i + 1) all)) ≡ (list_any test (last_firsts same [] (take i all)) || list_any test (first_of (take i all) (get_or all i d)))
    next_by = ap (list_any test) (firsts_more all i d within) ∙ list_any-append test (last_firsts same [] (take i all)) (first_of (take i all) (get_or all i d))

    pub none_more : list_any test (last_firsts same [] (take i all)) ≡ false → (test (get_or all i d) && is_first same (take i all) (get_or all i d)) ≡ false → list_any test (last_firsts same [] (take (i + 1) all)) ≡ false
    none_more none one =
        next_by ∙ ap (λ (b : Bool). b || list_any test (first_of (take i all) (get_or all i d))) none
        ∙ one_none test (is_first same (take i all) (get_or all i d)) (get_or all i d) one

    pub found_more : (test (get_or all i d) && is_first same (take i all) (get_or all i d)) ≡ true → list_any test (last_firsts same [] (take (i + 1) all)) ≡ true
    found_more one =
        next_by ∙ ap (λ (b : Bool). list_any test (last_firsts same [] (take i all)) || b) (one_found test (is_first same (take i all) (get_or all i d)) (get_or all i d) one)
        ∙ or_true (list_any test (last_firsts same [] (take i all)))

  -- texts of the firsts, one after the other
  module _ (text : A → List ℕ) (all : List A) where
    text_of : (b : Bool) (x : A) → flat_map text (if b then x ∷ [] else []) ≡ (if b then text x else [])
    text_of true x = append-nil (text x)
    text_of false x = refl

    pub texts_more : (i : ℕ) (d : A) (before now : List ℕ) {mid : List ℕ} → i < length all → mid ≡ before ++ flat_map text (last_firsts same [] (take i all)) → now ≡ mid ++ (if is_first same (take i all) (get_or all i d) then text (get_or all i d) else []) → now ≡ before ++ flat_map text (last_firsts same [] (take (i + 1) all))
    texts_more i d before now within told one =
        let x = get_or all i d in
        let is = is_first same (take i all) x in
        two_put before (flat_map text (last_firsts same [] (take i all))) (if is then text x else []) told one
        ∙ ap (λ (t : List ℕ). before ++ t)
        (sym (ap (flat_map text) (firsts_more all i d within) ∙ flat_map-append text (last_firsts same [] (take i all)) (if is then x ∷ [] else [])
        ∙ ap (λ (t : List ℕ). flat_map text (last_firsts same [] (take i all)) ++ t) (text_of is x)))

    pub texts_all : (i : ℕ) (before now : List ℕ) → length all ≤ i → now ≡ before ++ flat_map text (last_firsts same [] (take i all)) → now ≡ before ++ flat_map text (last_firsts same [] all)
    texts_all i before now past told = told ∙ ap (λ (t : List A). before ++ flat_map text (last_firsts same [] t)) (take_all i all past)
