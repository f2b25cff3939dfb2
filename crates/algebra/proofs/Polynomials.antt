-- Monomials and polynomials over ℤ in numbered variables, and what they are at the values of these.
use Rattle.std.proofs.Common.{◌≡◌, ℕ, ℤ, pos, negsuc, ◌+ℤ◌, ◌*ℤ◌, ap, sym, ◌∙◌, refl, Bool, true, false, ◌&&◌, eqb, leb, List, [], ◌∷◌, get_or, T, eqb→eq}
use Rattle.algebra.proofs.Laws.{*ℤ_assoc, *ℤ-+ℤ, +ℤ-*ℤ, *ℤ_left_comm, one-*ℤ, zero-*ℤ, four_products}
use lib.IntN.{+ℤ_assoc, +ℤ_idl, +ℤ_comm, *ℤ_comm}

-- A monomial is the list of its variables, in ascending order.
abbrev pub Monomial : Type 0
Monomial = List ℕ

-- The product of its variables.
unfoldable pub monomial_value : List ℤ → Monomial → ℤ
monomial_value xs [] = pos 1
monomial_value xs (i ∷ m) = get_or xs i (pos 0) *ℤ monomial_value xs m

-- A monomial times one more variable.
abbrev pub insert : ℕ → Monomial → Monomial
insert i [] = i ∷ []
insert i (j ∷ m) = elim (leb i j) [ true ↦ i ∷ (j ∷ m) | false ↦ j ∷ insert i m ]

-- The product of two monomials.
abbrev pub monomial_product : Monomial → Monomial → Monomial
monomial_product [] n = n
monomial_product (i ∷ m) n = insert i (monomial_product m n)

insert_value : (xs : List ℤ) (i : ℕ) (m : Monomial) → monomial_value xs (insert i m) ≡ get_or xs i (pos 0) *ℤ monomial_value xs m
unfolding monomial_value
insert_value xs i [] = refl
insert_value xs i (j ∷ m) =
    elim (leb i j) as (λ t. monomial_value xs (elim t [ true ↦ i ∷ (j ∷ m) | false ↦ j ∷ insert i m ]) ≡ get_or xs i (pos 0) *ℤ (get_or xs j (pos 0) *ℤ monomial_value xs m)) [
      | true ↦ refl
      | false ↦ ap (λ x. get_or xs j (pos 0) *ℤ x) (insert_value xs i m) ∙ *ℤ_left_comm (get_or xs j (pos 0)) (get_or xs i (pos 0)) (monomial_value xs m)
    ]

monomial_product_value : (xs : List ℤ) (m n : Monomial) → monomial_value xs (monomial_product m n) ≡ monomial_value xs m *ℤ monomial_value xs n
unfolding monomial_value
monomial_product_value xs [] n = sym (one-*ℤ (monomial_value xs n))
monomial_product_value xs (i ∷ m) n =
    insert_value xs i (monomial_product m n) ∙ ap (λ x. get_or xs i (pos 0) *ℤ x) (monomial_product_value xs m n) ∙ sym (*ℤ_assoc (get_or xs i (pos 0)) (monomial_value xs m) (monomial_value xs n))

abbrev pub same_monomial : Monomial → Monomial → Bool
same_monomial [] [] = true
same_monomial [] (j ∷ n) = false
same_monomial (i ∷ m) [] = false
same_monomial (i ∷ m) (j ∷ n) = eqb i j && same_monomial m n

both_true : (a b : Bool) → T (a && b) → T a × T b
both_true true b h = (tt, h)
both_true false b h = absurd h

same_monomial_is : (m n : Monomial) → T (same_monomial m n) → m ≡ n
same_monomial_is [] [] h = refl
same_monomial_is [] (j ∷ n) h = absurd h
same_monomial_is (i ∷ m) [] h = absurd h
same_monomial_is (i ∷ m) (j ∷ n) h =
    let p = both_true (eqb i j) (same_monomial m n) h in
    ap (λ x. x ∷ m) (eqb→eq i j p.0) ∙ ap (λ x. j ∷ x) (same_monomial_is m n p.1)

-- A polynomial is a sum of terms, each a factor and a monomial.
pub data Polynomial : Type 0 where
  none : Polynomial
  term : ℤ → Monomial → Polynomial → Polynomial

-- The sum of its terms at the values of the variables.
unfoldable pub polynomial_value : List ℤ → Polynomial → ℤ
polynomial_value xs none = pos 0
polynomial_value xs (term c m p) = c *ℤ monomial_value xs m +ℤ polynomial_value xs p

-- One more term, which joins the term of its monomial where there is one.
abbrev pub add_term : ℤ → Monomial → Polynomial → Polynomial
add_term c m none = term c m none
add_term c m (term d n p) = elim (same_monomial m n) [ true ↦ term (c +ℤ d) n p | false ↦ term d n (add_term c m p) ]

add_term_value : (xs : List ℤ) (c : ℤ) (m : Monomial) (p : Polynomial) → polynomial_value xs (add_term c m p) ≡ c *ℤ monomial_value xs m +ℤ polynomial_value xs p
unfolding polynomial_value
add_term_value xs c m none = refl
add_term_value xs c m (term d n p) = by_test (add_term_value xs c m p) (same_monomial m n) (λ h. same_monomial_is m n h)
  where
    by_test : polynomial_value xs (add_term c m p) ≡ c *ℤ monomial_value xs m +ℤ polynomial_value xs p → (t : Bool) → (T t → m ≡ n) → polynomial_value xs (elim t [ true ↦ term (c +ℤ d) n p | false ↦ term d n (add_term c m p) ]) ≡ c *ℤ monomial_value xs m +ℤ (d *ℤ monomial_value xs n +ℤ polynomial_value xs p)
    by_test r true h =
        let e : monomial_value xs m ≡ monomial_value xs n = ap (monomial_value xs) (h tt) in
        rw e (ap (λ x. x +ℤ polynomial_value xs p) (+ℤ-*ℤ c d (monomial_value xs n)) ∙ +ℤ_assoc (c *ℤ monomial_value xs n) (d *ℤ monomial_value xs n) (polynomial_value xs p))
    by_test r false h =
        ap (λ x. d *ℤ monomial_value xs n +ℤ x) r
        ∙ sym (+ℤ_assoc (d *ℤ monomial_value xs n) (c *ℤ monomial_value xs m) (polynomial_value xs p))
        ∙ ap (λ x. x +ℤ polynomial_value xs p) (+ℤ_comm (d *ℤ monomial_value xs n) (c *ℤ monomial_value xs m))
        ∙ +ℤ_assoc (c *ℤ monomial_value xs m) (d *ℤ monomial_value xs n) (polynomial_value xs p)

-- The sum of two polynomials.
abbrev pub plus : Polynomial → Polynomial → Polynomial
plus none q = q
plus (term c m p) q = add_term c m (plus p q)

pub plus_value : (xs : List ℤ) (p q : Polynomial) → polynomial_value xs (plus p q) ≡ polynomial_value xs p +ℤ polynomial_value xs q
unfolding polynomial_value
plus_value xs none q = sym (+ℤ_idl (polynomial_value xs q))
plus_value xs (term c m p) q =
    add_term_value xs c m (plus p q) ∙ ap (λ x. c *ℤ monomial_value xs m +ℤ x) (plus_value xs p q) ∙ sym (+ℤ_assoc (c *ℤ monomial_value xs m) (polynomial_value xs p) (polynomial_value xs q))

-- A term times a polynomial.
abbrev pub scale : ℤ → Monomial → Polynomial → Polynomial
scale c m none = none
scale c m (term d n p) = add_term (c *ℤ d) (monomial_product m n) (scale c m p)

pub scale_value : (xs : List ℤ) (c : ℤ) (m : Monomial) (p : Polynomial) → polynomial_value xs (scale c m p) ≡ (c *ℤ monomial_value xs m) *ℤ polynomial_value xs p
unfolding polynomial_value
scale_value xs c m none = sym (*ℤ_comm (c *ℤ monomial_value xs m) (pos 0) ∙ zero-*ℤ (c *ℤ monomial_value xs m))
scale_value xs c m (term d n p) =
    add_term_value xs (c *ℤ d) (monomial_product m n) (scale c m p)
    ∙ ap (λ x. (c *ℤ d) *ℤ x +ℤ polynomial_value xs (scale c m p)) (monomial_product_value xs m n)
    ∙ ap (λ x. (c *ℤ d) *ℤ (monomial_value xs m *ℤ monomial_value xs n) +ℤ x) (scale_value xs c m p)
    ∙ ap (λ x. x +ℤ (c *ℤ monomial_value xs m) *ℤ polynomial_value xs p) (four_products c d (monomial_value xs m) (monomial_value xs n))
    ∙ sym (*ℤ-+ℤ (c *ℤ monomial_value xs m) (d *ℤ monomial_value xs n) (polynomial_value xs p))

-- The product of two polynomials.
abbrev pub times : Polynomial → Polynomial → Polynomial
times none q = none
times (term c m p) q = plus (scale c m q) (times p q)

pub times_value : (xs : List ℤ) (p q : Polynomial) → polynomial_value xs (times p q) ≡ polynomial_value xs p *ℤ polynomial_value xs q
unfolding polynomial_value
times_value xs none q = sym (zero-*ℤ (polynomial_value xs q))
times_value xs (term c m p) q =
    plus_value xs (scale c m q) (times p q)
    ∙ ap (λ x. x +ℤ polynomial_value xs (times p q)) (scale_value xs c m q)
    ∙ ap (λ x. (c *ℤ monomial_value xs m) *ℤ polynomial_value xs q +ℤ x) (times_value xs p q)
    ∙ sym (+ℤ-*ℤ (c *ℤ monomial_value xs m) (polynomial_value xs p) (polynomial_value xs q))

abbrev pub is_zero : ℤ → Bool
is_zero (pos n) = eqb n 0
is_zero (negsuc n) = false

-- Whether each factor is 0.
abbrev pub all_zero : Polynomial → Bool
all_zero none = true
all_zero (term c m p) = is_zero c && all_zero p

is_zero_is : (c : ℤ) → T (is_zero c) → c ≡ pos 0
is_zero_is (pos n) h = ap pos (eqb→eq n 0 h)
is_zero_is (negsuc n) h = absurd h

pub all_zero_value : (xs : List ℤ) (p : Polynomial) → T (all_zero p) → polynomial_value xs p ≡ pos 0
unfolding polynomial_value
all_zero_value xs none h = refl
all_zero_value xs (term c m p) h =
    let q = both_true (is_zero c) (all_zero p) h in
    ap (λ x. x *ℤ monomial_value xs m +ℤ polynomial_value xs p) (is_zero_is c q.0)
    ∙ ap (λ x. x +ℤ polynomial_value xs p) (zero-*ℤ (monomial_value xs m))
    ∙ +ℤ_idl (polynomial_value xs p) ∙ all_zero_value xs p q.1
