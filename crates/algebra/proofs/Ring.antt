-- Equations of polynomials over ℤ: both sides are written as expressions, and have one value where their difference
-- has the normal form 0. As an example, (x + y) * (x - y) is x * x - y * y:
--   ring (x ∷ y ∷ []) ((var 0 ⊕ var 1) ⊗ (var 0 ⊖ var 1)) (var 0 ⊗ var 0 ⊖ var 1 ⊗ var 1) tt
use Rattle.std.proofs.Common.{◌≡◌, ℕ, ℤ, pos, negsuc, ◌+ℤ◌, ◌-ℤ◌, ◌*ℤ◌, neg_ℤ, ap, sym, ◌∙◌, Bool, List, [], ◌∷◌, get_or, T}
use Rattle.algebra.proofs.Laws.{neg_ℤ_is, one-*ℤ, difference_zero}
use Rattle.algebra.proofs.Polynomials.{Polynomial, monomial_value, polynomial_value, plus, plus_value, scale, scale_value, times, times_value, all_zero, all_zero_value}
use Rattle.algebra.proofs.Polynomials.Polynomial.{none, term}
use lib.IntN.{+ℤ_idr, *ℤ_comm}

infixl 6 ◌⊕◌ ◌⊖◌
infixl 7 ◌⊗◌
-- A polynomial as it is written: a variable by its place in the list of values, a whole number, a sum, a difference, a product.
pub data Expression : Type 0 where
  var : ℕ → Expression
  whole : ℤ → Expression
  ◌⊕◌ : Expression → Expression → Expression
  ◌⊖◌ : Expression → Expression → Expression
  ◌⊗◌ : Expression → Expression → Expression
  minus : Expression → Expression

-- What an expression is at the values of its variables.
abbrev pub value : List ℤ → Expression → ℤ
value xs (var i) = get_or xs i (pos 0)
value xs (whole c) = c
value xs (e ⊕ f) = value xs e +ℤ value xs f
value xs (e ⊖ f) = value xs e -ℤ value xs f
value xs (e ⊗ f) = value xs e *ℤ value xs f
value xs (minus e) = neg_ℤ (value xs e)

-- The normal form.
abbrev normal : Expression → Polynomial
normal (var i) = term (pos 1) (i ∷ []) none
normal (whole c) = term c [] none
normal (e ⊕ f) = plus (normal e) (normal f)
normal (e ⊖ f) = plus (normal e) (scale (negsuc 0) [] (normal f))
normal (e ⊗ f) = times (normal e) (normal f)
normal (minus e) = scale (negsuc 0) [] (normal e)

normal_value : (xs : List ℤ) (e : Expression) → polynomial_value xs (normal e) ≡ value xs e
unfolding polynomial_value monomial_value
normal_value xs (var i) = +ℤ_idr (pos 1 *ℤ (get_or xs i (pos 0) *ℤ pos 1)) ∙ one-*ℤ (get_or xs i (pos 0) *ℤ pos 1) ∙ *ℤ_comm (get_or xs i (pos 0)) (pos 1) ∙ one-*ℤ (get_or xs i (pos 0))
normal_value xs (whole c) = +ℤ_idr (c *ℤ pos 1) ∙ *ℤ_comm c (pos 1) ∙ one-*ℤ c
normal_value xs (e ⊕ f) =
    plus_value xs (normal e) (normal f) ∙ ap (λ x. x +ℤ polynomial_value xs (normal f)) (normal_value xs e) ∙ ap (λ x. value xs e +ℤ x) (normal_value xs f)
normal_value xs (e ⊖ f) =
    plus_value xs (normal e) (scale (negsuc 0) [] (normal f))
    ∙ ap (λ x. x +ℤ polynomial_value xs (scale (negsuc 0) [] (normal f))) (normal_value xs e)
    ∙ ap (λ x. value xs e +ℤ x) (scale_value xs (negsuc 0) [] (normal f) ∙ sym (neg_ℤ_is (polynomial_value xs (normal f))) ∙ ap neg_ℤ (normal_value xs f))
normal_value xs (e ⊗ f) =
    times_value xs (normal e) (normal f) ∙ ap (λ x. x *ℤ polynomial_value xs (normal f)) (normal_value xs e) ∙ ap (λ x. value xs e *ℤ x) (normal_value xs f)
normal_value xs (minus e) = scale_value xs (negsuc 0) [] (normal e) ∙ sym (neg_ℤ_is (polynomial_value xs (normal e))) ∙ ap neg_ℤ (normal_value xs e)

-- Whether two expressions are one polynomial.
abbrev pub agree : Expression → Expression → Bool
agree e f = all_zero (normal (e ⊖ f))

-- Two expressions of one polynomial have one value.
pub ring : (xs : List ℤ) (e f : Expression) → T (agree e f) → value xs e ≡ value xs f
ring xs e f h =
    let z : value xs (e ⊖ f) ≡ pos 0 = sym (normal_value xs (e ⊖ f)) ∙ all_zero_value xs (normal (e ⊖ f)) h in
    difference_zero (value xs e) (value xs f) z
