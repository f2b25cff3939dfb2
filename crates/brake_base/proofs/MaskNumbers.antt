-- The mask of a set has the set's bends, and masks with the same bends are equal.
use Rattle.std.proofs.Common.{◌≡◌, ℕ, zero, suc, ◌+◌, ◌-◌, ◌*◌, ◌^◌, ◌<◌, ◌≤◌, Bool, true, false, ◌==◌, ap, refl, sym, ◌∙◌, arith, inl, inr, cond, [], ◌∷◌, filter}
use Rattle.std.specs.Int.{bit_at}
use Rattle.std.specs.List.{sum_by}
use Rattle.std.proofs.Math.Nat.{pow-suc}
use Rattle.std.proofs.lemmas.Bool.{cases_lt}
use Rattle.std.proofs.lemmas.List.Elements.{filter-append}
use Rattle.std.proofs.lemmas.List.Sums.{sum_by-append}
use Rattle.std.proofs.lemmas.Nat.Bits.{bit_at_above, bit_at_cat_low, bit_at_cat_high, bit_at_lowest}
use Rattle.brake_base.specs.declared.mask.Mask.{Mask}
use Rattle.brake_base.specs.Masks.{has, numbers_to, mask_of}
use Rattle.brake_base.proofs.Masks.{same_mask}

abbrev weight : ℕ → ℕ
weight bend = 2 ^ (bend - 1)

-- the sum over the bends of a set up to n
abbrev sum_to : (ℕ → Bool) → ℕ → ℕ
sum_to set n = sum_by weight (filter set (numbers_to n))

weight_one : (t : Bool) (k : ℕ) → sum_by weight (cond t (suc k ∷ []) []) ≡ cond t 1 0 * 2 ^ k
weight_one true k = let e : suc k - 1 ≡ k = omega arith in rw e (omega arith)
weight_one false k = omega arith

sum_more : (set : ℕ → Bool) (k : ℕ) → sum_to set (suc k) ≡ cond (set (suc k)) 1 0 * 2 ^ k + sum_to set k
sum_more set k =
    let parts = ap (sum_by weight) (filter-append set (numbers_to k) (suc k ∷ [])) ∙ sum_by-append weight (filter set (numbers_to k)) (cond (set (suc k)) (suc k ∷ []) []) in
    let one = weight_one (set (suc k)) k in
    omega (arith, parts, one)

digit_fits : (t : Bool) (k n : ℕ) → n < 2 ^ k → cond t 1 0 * 2 ^ k + n < 2 ^ suc k
digit_fits true k n h = omega (arith, pow-suc 2 k)
digit_fits false k n h = omega (arith, pow-suc 2 k)

sum_fits : (set : ℕ → Bool) (k : ℕ) → sum_to set k < 2 ^ k
sum_fits set zero = omega arith
sum_fits set (suc k) = rw (sum_more set k) (digit_fits (set (suc k)) k (sum_to set k) (sum_fits set k))

lowest : (t : Bool) → bit_at (cond t 1 0) 0 ≡ cond t 1 0
lowest true = bit_at_lowest 1
lowest false = bit_at_lowest 0

digit : (set : ℕ → Bool) (k i : ℕ) → i < k → bit_at (sum_to set k) i ≡ cond (set (suc i)) 1 0
digit set zero i h = absurd (omega arith)
digit set (suc k) i h =
    ap (λ n. bit_at n i) (sum_more set k) ∙ elim (cases_lt i k) [
      | inl below ↦ bit_at_cat_low (cond (set (suc k)) 1 0) k (sum_to set k) i below ∙ digit set k i below
      | inr above ↦
          let same : i ≡ k = omega arith in
          let none : k - k ≡ 0 = omega arith in
          rw same (bit_at_cat_high (cond (set (suc k)) 1 0) k (sum_to set k) k (sum_fits set k) (omega arith) ∙ ap (bit_at (cond (set (suc k)) 1 0)) none ∙ lowest (set (suc k)))
    ]

digit_test : (t : Bool) → (cond t 1 0 == 1) ≡ t
digit_test true = refl
digit_test false = refl

pub mask_of_fits : (set : ℕ → Bool) → (mask_of set).0 < 2 ^ 16
unfolding mask_of
mask_of_fits set = sum_fits set 16

pub has_mask_of : (set : ℕ → Bool) (bend : ℕ) → 1 ≤ bend → bend ≤ 16 → has (mask_of set) bend ≡ set bend
unfolding mask_of has
has_mask_of set zero h l = absurd (omega arith)
has_mask_of set (suc k) h l = ap (λ (m : ℕ). m == 1) (digit set 16 k (omega arith)) ∙ digit_test (set (suc k))

-- a mask has no bend but 1 to 16
pub has_none_above : (mask : Mask) (bend : ℕ) → mask.0 < 2 ^ 16 → 16 < bend → has mask bend ≡ false
unfolding has
has_none_above mask zero h l = absurd (omega arith)
has_none_above mask (suc k) h l = ap (λ (m : ℕ). m == 1) (bit_at_above mask.0 16 k h (omega arith))

-- masks with the same bends of 1 to 16 are equal
pub mask_by_bends : (a b : Mask) → a.0 < 2 ^ 16 → b.0 < 2 ^ 16 → ((bend : ℕ) → 1 ≤ bend → bend ≤ 16 → has a bend ≡ has b bend) → a ≡ b
unfolding has
mask_by_bends a b p q h = ap (λ n. record { 0 = n }) (same_mask a.0 b.0 p q all)
  where
    all : (bend : ℕ) → has a bend ≡ has b bend
    all zero = refl
    all (suc k) = elim (cases_lt k 16) [
      | inl low ↦ h (suc k) (omega arith) (omega arith)
      | inr high ↦ has_none_above a (suc k) p (omega arith) ∙ sym (has_none_above b (suc k) q (omega arith))
    ]

-- a mask that has the bends of a set is the set's
pub is_mask_of : (mask : Mask) (set : ℕ → Bool) → mask.0 < 2 ^ 16 → ((bend : ℕ) → 1 ≤ bend → bend ≤ 16 → has mask bend ≡ set bend) → mask ≡ mask_of set
is_mask_of mask set p h = mask_by_bends mask (mask_of set) p (mask_of_fits set) (λ bend first last. h bend first last ∙ sym (has_mask_of set bend first last))
