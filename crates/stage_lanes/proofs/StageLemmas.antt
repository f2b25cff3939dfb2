-- Sets of stages and the bits of their numbers.
use Rattle.std.proofs.Common.{◌≡◌, ℕ, zero, suc, ◌-◌, ◌*◌, ◌/◌, ◌%◌, ◌^◌, ◌<◌, ◌≤◌, if◌then◌else◌, [], ◌∷◌, Bool, true, false, ◌&&◌, cond, nat_lt, nat_eq, ◌==◌, bit_and, List, length, map, get_or, slice_index, replicate, refl, ap, sym, ◌∙◌, arith, ◌↔◌, inl, inr, min}
use mir.Syntax.{Width, w32}
use Rattle.std.specs.Int.{bit_at}
use lib.Lanes.{mask_l, sel_l, zip2}
use Rattle.std.proofs.lemmas.List.{get_or-map, length-map}
use Rattle.std.proofs.lemmas.Simd.{bitmask_splat, bit_mask_l, mask_l-lt}
use Rattle.std.proofs.lemmas.Nat.Bits.{bit_at_and, bit_at-lt, bit_at_ones, bit_at_ones_above, bit_at-zero, shr_and_one, same_from_bits_below, and_pow}
use Rattle.std.proofs.lemmas.Nat.{one_shl, pow_pos}
use Rattle.std.proofs.lemmas.Bool.{cases_lt}
use Rattle.stage_lanes.specs.declared.stages.StageSet.{StageSet}
use Rattle.stage_lanes.specs.Stages.{has, AreStages}
use Rattle.stage_lanes.specs.Lanes.{AreLanes}
use Rattle.stage_lanes.proofs.LaneLemmas.{compared, chosen, each_stage}

-- the bits of a comparison with one value in all lanes
abbrev pub compared_bits : Width → (ℕ → ℕ → Bool) → List ℕ → ℕ → ℕ
compared_bits w t xs y = mask_l (compared w t xs (replicate 8 y)) % 2 ^ 64

bits_are : (w : Width) (t : ℕ → ℕ → Bool) (xs : List ℕ) (y : ℕ) → length xs ≡ 8 → compared_bits w t xs y ≡ mask_l (map (λ x. t x y) xs)
bits_are w t xs y long = bitmask_splat w t xs 8 y long (omega arith)

pub bits_fit : (w : Width) (t : ℕ → ℕ → Bool) (xs : List ℕ) (y : ℕ) → length xs ≡ 8 → compared_bits w t xs y < 256
bits_fit w t xs y long =
    let few : length (map (λ x. t x y) xs) ≡ 8 = length-map xs (λ x. t x y) ∙ long in
    let low : mask_l (map (λ x. t x y) xs) < 2 ^ length (map (λ x. t x y) xs) = mask_l-lt (map (λ x. t x y) xs) in
    let power : 2 ^ length (map (λ x. t x y) xs) ≡ 256 = ap (λ n. 2 ^ n) few in
    rw (bits_are w t xs y long) (omega (arith, low, power))

test_of : (t : Bool) → (cond t 1 0 == 1) ≡ t
test_of true = refl
test_of false = refl

pub compared_stages : (w : Width) (t : ℕ → ℕ → Bool) (xs : List ℕ) (y : ℕ) → length xs ≡ 8 → AreStages (record { 0 = compared_bits w t xs y }) (λ stage. t (slice_index xs stage) y)
unfolding has
compared_stages w t xs y long stage h =
    ap (λ n. bit_at n stage == 1) (bits_are w t xs y long)
    ∙ ap (λ n. n == 1) (bit_mask_l (map (λ x. t x y) xs) stage)
    ∙ test_of (get_or (map (λ x. t x y) xs) stage false)
    ∙ get_or-map (λ x. t x y) xs stage 0 false (omega (arith, long, h))

pub contains_is : (stages : StageSet) (stage : ℕ) → nat_eq (bit_and (stages.0 / 2 ^ stage) 1) 1 ≡ has stages stage
unfolding has
contains_is stages stage = rw (shr_and_one stages.0 stage) refl

both_test : (m n : ℕ) → m < 2 → n < 2 → (min m n == 1) ≡ ((m == 1) && (n == 1))
both_test zero zero p q = refl
both_test zero (suc zero) p q = refl
both_test (suc zero) zero p q = refl
both_test (suc zero) (suc zero) p q = refl
both_test (suc (suc m)) n p q = absurd (omega arith)
both_test m (suc (suc n)) p q = absurd (omega arith)

pub both_are : (a b : StageSet) → AreStages (record { 0 = bit_and a.0 b.0 }) (λ stage. has a stage && has b stage)
unfolding has
both_are a b stage h = ap (λ m. m == 1) (bit_at_and a.0 b.0 stage) ∙ both_test (bit_at a.0 stage) (bit_at b.0 stage) (bit_at-lt a.0 stage) (bit_at-lt b.0 stage)

pub first_are : (count : ℕ) → AreStages (record { 0 = 2 ^ count - 1 }) (λ stage. nat_lt stage count)
unfolding has
first_are count stage h =
    elim (cases_lt stage count) [
      | inl below ↦ ap (λ m. m == 1) (bit_at_ones count stage below) ∙ inside below
      | inr above ↦ ap (λ m. m == 1) (bit_at_ones_above count stage above) ∙ outside above
    ]
  where
    inside : stage < count → true ≡ nat_lt stage count
    inside l = grind arith

    outside : count ≤ stage → false ≡ nat_lt stage count
    outside l = grind arith

none_set : (m : ℕ) → m < 2 → (m == 1) ≡ false → m ≡ 0
none_set zero h e = refl
none_set (suc zero) h e = absurd (cc)
none_set (suc (suc m)) h e = absurd (omega (arith, h))

pub empty_is : (stages : StageSet) → stages.0 < 256 → (stages.0 ≡ 0) ↔ AreStages stages (λ stage. false)
unfolding has
empty_is stages fits = (forward, backward)
  where
    forward : stages.0 ≡ 0 → AreStages stages (λ stage. false)
    forward e stage h = ap (λ n. bit_at n stage == 1) e ∙ ap (λ m. m == 1) (bit_at-zero stage)

    backward : AreStages stages (λ stage. false) → stages.0 ≡ 0
    backward none = same_from_bits_below 8 stages.0 0 fits (omega arith) (λ stage h. none_set (bit_at stages.0 stage) (bit_at-lt stages.0 stage) (none stage h) ∙ sym (bit_at-zero stage))

pub shifted_one : (count : ℕ) → count ≤ 8 → 1 * 2 ^ count % 65536 ≡ 2 ^ count
shifted_one count h = omega (arith, h, one_shl count 16)

-- ---- the lanes of a set
positive_test : (m : ℕ) → 0 < m → nat_eq m 0 ≡ false
positive_test m h = grind arith

kept_by : (b m x y : ℕ) → b < 2 → 0 < m → cond (nat_eq (b * m) 0) y x ≡ (if b == 1 then x else y)
kept_by zero m x y h p = let e : 0 * m ≡ 0 = omega arith in rw e refl
kept_by (suc zero) m x y h p = let e : 1 * m ≡ m = omega arith in ap (λ k. cond (nat_eq k 0) y x) e ∙ ap (λ t. cond t y x) (positive_test m p)
kept_by (suc (suc b)) m x y h p = absurd (omega (arith, h))

kept_at : (n k x y : ℕ) → cond (nat_eq (bit_and n (2 ^ k)) 0) y x ≡ (if bit_at n k == 1 then x else y)
kept_at n k x y = ap (λ m. cond (nat_eq m 0) y x) (and_pow n k) ∙ kept_by (bit_at n k) (2 ^ k) x y (bit_at-lt n k) (pow_pos k)

-- the bit of each stage
abbrev pub stage_bits : List ℕ
stage_bits = 1 ∷ 2 ∷ 4 ∷ 8 ∷ 16 ∷ 32 ∷ 64 ∷ 128 ∷ []

abbrev pub kept_lanes : ℕ → List ℕ → List ℕ → List ℕ
kept_lanes n xs ys = sel_l (compared w32 nat_eq (zip2 bit_and (replicate 8 n) stage_bits) (replicate 8 0)) ys xs

pub only_lanes : (stages : StageSet) (n : ℕ) (xs ys : List ℕ) → n ≡ stages.0 → length xs ≡ 8 → length ys ≡ 8
    → AreLanes (kept_lanes n xs ys) (λ stage. if has stages stage then slice_index xs stage else slice_index ys stage)
unfolding has
only_lanes stages n xs ys e long even stage h =
    chosen w32 nat_eq (zip2 bit_and (replicate 8 n) stage_bits) (replicate 8 0) ys xs refl refl even long stage h
    ∙ each_stage (λ k. cond (nat_eq (slice_index (zip2 bit_and (replicate 8 n) stage_bits) k) (slice_index (replicate 8 0) k)) (slice_index ys k) (slice_index xs k) ≡ (if bit_at stages.0 k == 1 then slice_index xs k else slice_index ys k))
    (at 0) (at 1) (at 2) (at 3) (at 4) (at 5) (at 6) (at 7) stage h
  where
    at : (k : ℕ) → cond (nat_eq (bit_and n (2 ^ k)) 0) (slice_index ys k) (slice_index xs k) ≡ (if bit_at stages.0 k == 1 then slice_index xs k else slice_index ys k)
    at k = ap (λ m. cond (nat_eq (bit_and m (2 ^ k)) 0) (slice_index ys k) (slice_index xs k)) e ∙ kept_at stages.0 k (slice_index xs k) (slice_index ys k)
