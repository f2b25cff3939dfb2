-- Products and sums of inequalities over ℤ. An inequality is proved by a certificate: `ring` writes the greater side less
-- the smaller one, times a positive factor where need be, as a sum of products of what is known not to be negative.
-- A contradiction is such a sum with one positive summand that is identically 0 (`zero_clash`).
use Rattle.std.proofs.Common.{◌⊎◌, inl, inr, ◌≡◌, ◌*◌, zero, suc, ℤ, pos, negsuc, ◌+ℤ◌, ◌-ℤ◌, ◌*ℤ◌, ◌≤ℤ◌, ◌<ℤ◌, neg_ℤ, sym, subst, arith}
use borrow.Author.Differences.{up, down, same_out, Apart-out, lt_out, le_out, same_in, below_in, at_most_in, sum_is_lem, neg_is, product_is}

-- For `omega`: an integer is `up z - down z`, and a product is an unknown.
pub ruleset signs = (same_out, Apart-out, lt_out, le_out, same_in, below_in, at_most_in, sum_is_lem, neg_is)

pub nonneg-mul : {a b : ℤ} → pos 0 ≤ℤ a → pos 0 ≤ℤ b → pos 0 ≤ℤ (a *ℤ b)
nonneg-mul {a = pos m} {b = pos n} h l = at_most_in (pos 0) (pos (m * n)) (omega arith)
nonneg-mul {a = pos m} {b = negsuc n} h l = absurd (omega (arith, signs))
nonneg-mul {a = negsuc m} {b} h l = absurd (omega (arith, signs))

pub nonneg-add : {a b : ℤ} → pos 0 ≤ℤ a → pos 0 ≤ℤ b → pos 0 ≤ℤ (a +ℤ b)
nonneg-add {a} {b} h l = omega (arith, signs)

pub nonneg-square : (a : ℤ) → pos 0 ≤ℤ (a *ℤ a)
nonneg-square (pos m) = at_most_in (pos 0) (pos (m * m)) (omega arith)
nonneg-square (negsuc m) = at_most_in (pos 0) (pos (suc m * suc m)) (omega arith)

pub positive-mul : {a b : ℤ} → pos 0 <ℤ a → pos 0 <ℤ b → pos 0 <ℤ (a *ℤ b)
positive-mul {a = pos (suc m)} {b = pos (suc n)} h l = below_in (pos 0) (pos (suc m * suc n)) (omega arith)
positive-mul {a = pos (suc m)} {b = pos zero} h l = absurd (omega (arith, signs))
positive-mul {a = pos (suc m)} {b = negsuc n} h l = absurd (omega (arith, signs))
positive-mul {a = pos zero} {b} h l = absurd (omega (arith, signs))
positive-mul {a = negsuc m} {b} h l = absurd (omega (arith, signs))

pub positive-nonneg : {a : ℤ} → pos 0 <ℤ a → pos 0 ≤ℤ a
positive-nonneg {a} h = omega (arith, signs)

-- A positive factor is cancelled.
pub nonneg_by_factor : {c a : ℤ} → pos 0 <ℤ c → pos 0 ≤ℤ (c *ℤ a) → pos 0 ≤ℤ a
nonneg_by_factor {c} {a = pos n} h l = at_most_in (pos 0) (pos n) (omega arith)
nonneg_by_factor {c = pos (suc m)} {a = negsuc n} h l = absurd (omega (arith, signs, product_is (pos (suc m)) (negsuc n)))
nonneg_by_factor {c = pos zero} {a = negsuc n} h l = absurd (omega (arith, signs))
nonneg_by_factor {c = negsuc m} {a = negsuc n} h l = absurd (omega (arith, signs))

-- What is left to show after `ring`.
pub nonneg_as : {a b : ℤ} → a ≡ b → pos 0 ≤ℤ b → pos 0 ≤ℤ a
nonneg_as e h = subst (λ x. pos 0 ≤ℤ x) (sym e) h

-- The order as the sign of a difference, and back.
pub le_from : {a b : ℤ} → pos 0 ≤ℤ (b -ℤ a) → a ≤ℤ b
le_from {a} {b} h = omega (arith, signs)

pub le_to : {a b : ℤ} → a ≤ℤ b → pos 0 ≤ℤ (b -ℤ a)
le_to {a} {b} h = omega (arith, signs)

pub positive_as : {a b : ℤ} → a ≡ b → pos 0 <ℤ b → pos 0 <ℤ a
positive_as e h = subst (λ x. pos 0 <ℤ x) (sym e) h

pub lt_from : {a b : ℤ} → pos 0 <ℤ (b -ℤ a) → a <ℤ b
lt_from {a} {b} h = omega (arith, signs)

pub lt_to : {a b : ℤ} → a <ℤ b → pos 0 <ℤ (b -ℤ a)
lt_to {a} {b} h = omega (arith, signs)

-- Two cases by the sign of a number.
pub by_sign : (a : ℤ) → (pos 0 ≤ℤ a) ⊎ (a <ℤ pos 0)
by_sign (pos n) = inl (omega (arith, signs))
by_sign (negsuc n) = inr (omega (arith, signs))

pub positive_by_factor : {c a : ℤ} → pos 0 ≤ℤ c → pos 0 <ℤ (c *ℤ a) → pos 0 <ℤ a
positive_by_factor {c} {a = pos (suc n)} h l = omega (arith, signs)
positive_by_factor {c} {a = pos zero} h l = absurd (omega (arith, signs, product_is c (pos zero)))
positive_by_factor {c = pos m} {a = negsuc n} h l = absurd (omega (arith, signs, product_is (pos m) (negsuc n)))
positive_by_factor {c = negsuc m} {a = negsuc n} h l = absurd (omega (arith, signs))

pub positive-add : {a b : ℤ} → pos 0 <ℤ a → pos 0 ≤ℤ b → pos 0 <ℤ (a +ℤ b)
positive-add {a} {b} h l = omega (arith, signs)

-- No positive number is 0.
pub zero_clash : {X : Type 0} {a : ℤ} → a ≡ pos 0 → pos 0 <ℤ a → X
zero_clash {a} e h = absurd (omega (arith, signs))

-- The same, by the sign of the number and of its opposite.
pub by_order : (a : ℤ) → (pos 0 <ℤ a) ⊎ (pos 0 ≤ℤ neg_ℤ a)
by_order (pos zero) = inr (omega (arith, signs))
by_order (pos (suc n)) = inl (omega (arith, signs))
by_order (negsuc n) = inr (omega (arith, signs))

pub le_of_same : {a b : ℤ} → a ≡ b → a ≤ℤ b
le_of_same {a} {b} e = omega (arith, signs)

pub le_of_lt : {a b : ℤ} → a <ℤ b → a ≤ℤ b
le_of_lt {a} {b} e = omega (arith, signs)

-- The absolute value.
unfoldable pub size : ℤ → ℤ
size (pos n) = pos n
size (negsuc n) = pos (suc n)

pub size-bounds : (a : ℤ) → (a ≤ℤ size a) × (pos 0 ≤ℤ (size a +ℤ a)) × (pos 0 ≤ℤ size a)
unfolding size
size-bounds (pos n) = (omega (arith, signs), omega (arith, signs), omega (arith, signs))
size-bounds (negsuc n) = (omega (arith, signs), omega (arith, signs), omega (arith, signs))
