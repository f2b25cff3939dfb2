-- The laws of the ring ℤ that std lacks. An integer z is read as `up z - down z`, two natural numbers, for which `omega` knows products.
use Rattle.std.proofs.Common.{◌≡◌, ◌+◌, ◌*◌, ℕ, ℤ, pos, negsuc, ◌+ℤ◌, ◌-ℤ◌, ◌*ℤ◌, neg_ℤ, ap, arith}
use borrow.Author.Differences.{up, down, same_in, sum_is_lem, product_is, neg_is, same_out}

pub up-mul : (a b : ℤ) → up (a *ℤ b) ≡ up a * up b + down a * down b
up-mul a b = (product_is a b).0

pub down-mul : (a b : ℤ) → down (a *ℤ b) ≡ up a * down b + down a * up b
down-mul a b = (product_is a b).1

pub *ℤ_assoc : (a b c : ℤ) → (a *ℤ b) *ℤ c ≡ a *ℤ (b *ℤ c)
*ℤ_assoc a b c = same_in _ _ (simp (up-mul, down-mul) (omega arith))

pub *ℤ-+ℤ : (a b c : ℤ) → a *ℤ (b +ℤ c) ≡ a *ℤ b +ℤ a *ℤ c
*ℤ-+ℤ a b c =
    let s = sum_is_lem b c in
    let su = ap (λ (x : ℕ). up a * x) s in
    let sd = ap (λ (x : ℕ). down a * x) s in
    same_in _ _ (omega (arith, product_is a (b +ℤ c), product_is a b, product_is a c, sum_is_lem (a *ℤ b) (a *ℤ c), su, sd))

pub +ℤ-*ℤ : (a b c : ℤ) → (a +ℤ b) *ℤ c ≡ a *ℤ c +ℤ b *ℤ c
+ℤ-*ℤ a b c =
    let s = sum_is_lem a b in
    let su = ap (λ (x : ℕ). x * up c) s in
    let sd = ap (λ (x : ℕ). x * down c) s in
    same_in _ _ (omega (arith, product_is (a +ℤ b) c, product_is a c, product_is b c, sum_is_lem (a *ℤ c) (b *ℤ c), su, sd))

pub *ℤ_left_comm : (a b c : ℤ) → a *ℤ (b *ℤ c) ≡ b *ℤ (a *ℤ c)
*ℤ_left_comm a b c = same_in _ _ (simp (up-mul, down-mul) (omega arith))

pub neg_ℤ_is : (a : ℤ) → neg_ℤ a ≡ negsuc 0 *ℤ a
neg_ℤ_is a = same_in _ _ (omega (arith, neg_is a, product_is (negsuc 0) a))

pub one-*ℤ : (a : ℤ) → pos 1 *ℤ a ≡ a
one-*ℤ a = same_in _ _ (omega (arith, product_is (pos 1) a))

pub zero-*ℤ : (a : ℤ) → pos 0 *ℤ a ≡ pos 0
zero-*ℤ a = same_in _ _ (omega (arith, product_is (pos 0) a))

pub four_products : (a b c d : ℤ) → (a *ℤ b) *ℤ (c *ℤ d) ≡ (a *ℤ c) *ℤ (b *ℤ d)
four_products a b c d = same_in _ _ (simp (up-mul, down-mul) (omega arith))

pub difference_zero : (a b : ℤ) → a -ℤ b ≡ pos 0 → a ≡ b
difference_zero a b h = same_in _ _ (omega (arith, sum_is_lem a (neg_ℤ b), neg_is b, same_out (a -ℤ b) (pos 0) h))

pub neg_ℤ-*ℤ : (a b : ℤ) → neg_ℤ a *ℤ b ≡ neg_ℤ (a *ℤ b)
neg_ℤ-*ℤ a b = same_in _ _ (omega (arith, neg_is a, neg_is (a *ℤ b), product_is a b, product_is (neg_ℤ a) b, ap (λ (x : ℕ). x * up b) (neg_is a).0, ap (λ (x : ℕ). x * down b) (neg_is a).0, ap (λ (x : ℕ). x * up b) (neg_is a).1, ap (λ (x : ℕ). x * down b) (neg_is a).1))
