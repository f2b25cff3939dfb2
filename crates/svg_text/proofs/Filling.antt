-- One byte more of a form.
use Rattle.std.proofs.Common.{◌≡◌, ℕ, ◌+◌, ◌==◌, ◌<◌, true, false, List, [], ◌∷◌, ◌++◌, append_assoc, refl, sym, ap, ◌∙◌, drop, length, map, get_or, suc, drop-cons, arith}
use Rattle.svg_text.specs.declared.form.Hole.{Hole}
use Rattle.svg_text.specs.Forms.{hole_text, filled}

filled-plain : (byte : ℕ) (form : List ℕ) (texts : List (List ℕ)) → (byte == 126) ≡ false → filled (byte ∷ form) texts ≡ byte ∷ filled form texts
filled-plain byte form [] is = rw is refl
filled-plain byte form (text ∷ texts) is = rw is refl

pub plain_byte : (out : List ℕ) (byte : ℕ) (form : List ℕ) (texts : List (List ℕ)) → (byte == 126) ≡ false → (out ++ byte ∷ []) ++ filled form texts ≡ out ++ filled (byte ∷ form) texts
plain_byte out byte form texts is = rw (filled-plain byte form texts is, append_assoc) refl

filled-hole : (byte : ℕ) (form text : List ℕ) (texts left : List (List ℕ)) → (byte == 126) ≡ true → left ≡ text ∷ texts → filled (byte ∷ form) left ≡ text ++ filled form texts
filled-hole byte form text texts left is first = rw (first, is) refl

pub filled_hole : (out : List ℕ) (byte : ℕ) (form : List ℕ) (hole : Hole) (holes : List Hole) (n : ℕ) → (byte == 126) ≡ true → n < length holes → (out ++ hole_text (get_or holes n hole)) ++ filled form (map hole_text (drop (n + 1) holes)) ≡ out ++ filled (byte ∷ form) (map hole_text (drop n holes))
filled_hole out byte form hole holes n is some =
    let next : suc n ≡ n + 1 = omega arith in
    let left : drop n holes ≡ get_or holes n hole ∷ drop (n + 1) holes = drop-cons holes n hole some ∙ ap (λ m. get_or holes n hole ∷ drop m holes) next in
    let texts : map hole_text (drop n holes) ≡ hole_text (get_or holes n hole) ∷ map hole_text (drop (n + 1) holes) = ap (λ rest. map hole_text rest) left in
    rw append_assoc (ap (λ text. out ++ text) (sym (filled-hole byte form (hole_text (get_or holes n hole)) (map hole_text (drop (n + 1) holes)) (map hole_text (drop n holes)) is texts)))

pub empty_hole : (out : List ℕ) (byte : ℕ) (form : List ℕ) → (byte == 126) ≡ true → out ++ filled form [] ≡ out ++ filled (byte ∷ form) []
empty_hole out byte form is = rw is refl
