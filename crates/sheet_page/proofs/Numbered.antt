-- What is told of the numbers 1, 2 and so on, one after the other.
use Rattle.std.proofs.Common.{◌≡◌, ◌∙◌, ℕ, zero, suc, ◌+◌, ◌-◌, ◌≤◌, List, [], ◌∷◌, ◌++◌, flat_map, append-nil, Bool, true, false, ◌||◌, refl, ap, sym, arith}
use Rattle.std.specs.Prelude.{sum_by}
use Rattle.std.proofs.lemmas.List.Concat.{flat_map-append}
use Rattle.std.proofs.lemmas.List.Sums.{sum_by_push}
use Rattle.std.proofs.lemmas.List.Folds.{list_any-append}
use Rattle.std.specs.List.{list_any}
use Rattle.brake_base.specs.Masks.{numbers_to}
use Rattle.sheet_page.proofs.Joined.{two_put}

pub numbers_next : (n : ℕ) → 1 ≤ n → numbers_to (n + 1 - 1) ≡ numbers_to (n - 1) ++ n ∷ []
numbers_next zero some = absurd (omega (arith, some))
numbers_next (suc n) some =
    let same : suc n + 1 - 1 ≡ suc n = omega arith in
    let less : n ≡ suc n - 1 = omega arith in
    ap numbers_to same ∙ ap (λ (m : ℕ). numbers_to m ++ suc n ∷ []) less

or_false : (b : Bool) → (b || false) ≡ b
or_false true = refl
or_false false = refl

pub any_next : (test : ℕ → Bool) (n : ℕ) (b : Bool) → 1 ≤ n → list_any test (numbers_to (n - 1)) ≡ false → test n ≡ b → list_any test (numbers_to (n + 1 - 1)) ≡ b
any_next test n b some none is =
    ap (list_any test) (numbers_next n some) ∙ list_any-append test (numbers_to (n - 1)) (n ∷ []) ∙ ap (λ (c : Bool). c || (test n || false)) none ∙ or_false (test n) ∙ is

pub told_next : (text : ℕ → List ℕ) (n : ℕ) (before now : List ℕ) {mid : List ℕ} → 1 ≤ n → mid ≡ before ++ flat_map text (numbers_to (n - 1)) → now ≡ mid ++ text n → now ≡ before ++ flat_map text (numbers_to (n + 1 - 1))
told_next text n before now some told one =
    two_put before (flat_map text (numbers_to (n - 1))) (text n) told one
    ∙ ap (λ (t : List ℕ). before ++ t)
    (sym (ap (flat_map text) (numbers_next n some) ∙ flat_map-append text (numbers_to (n - 1)) (n ∷ [])
    ∙ ap (λ (t : List ℕ). flat_map text (numbers_to (n - 1)) ++ t) (append-nil (text n))))

pub sum_next : (f : ℕ → ℕ) (n : ℕ) → 1 ≤ n → sum_by f (numbers_to (n + 1 - 1)) ≡ sum_by f (numbers_to (n - 1)) + f n
sum_next f n some = ap (sum_by f) (numbers_next n some) ∙ sum_by_push f (numbers_to (n - 1)) n
