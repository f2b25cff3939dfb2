-- Texts that are those of other things, place by place.
use Rattle.std.proofs.Common.{◌≡◌, ◌∙◌, ℕ, ◌<◌, List, [], length, map, get_or, ap, sym, arith}
use Rattle.std.proofs.lemmas.List.{length-map, get_or-map}

module _ {A B : Type 0} (view : A → List ℕ) (text : B → List ℕ) (xs : List A) (ys : List B) (told : map view xs ≡ map text ys) where
  pub as_many : length xs ≡ length ys
  as_many = sym (length-map xs view) ∙ ap length told ∙ length-map ys text

  pub told_at : (i : ℕ) (x : A) (y : B) → i < length ys → x ≡ get_or xs i x → view x ≡ text (get_or ys i y)
  told_at i x y within is =
      let same = as_many in
      let inside : i < length xs = omega (arith, within, same) in
      ap view is ∙ sym (get_or-map view xs i x [] inside) ∙ ap (λ (t : List (List ℕ)). get_or t i []) told ∙ get_or-map text ys i y [] within
