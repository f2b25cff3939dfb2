-- What the operations on eight lanes give, lane by lane.
use Rattle.std.proofs.Common.{◌≡◌, ℕ, zero, suc, ◌+◌, ◌-◌, ◌%◌, ◌^◌, ◌<◌, ◌≤◌, min, max, Bool, false, cond, ltb, List, [], ◌∷◌, length, map, get_or, slice_index, refl, ap, ◌∙◌, arith, inl, inr}
use mir.Syntax.{Width, w32}
use mir.Val.{Fits, bits, hbits}
use lib.Lanes.{zip2, sel_l, top, Each2}
use Rattle.std.proofs.lemmas.Simd.{tops_compared, length-zip2, get_or-sel_l, get_or-zip2}
use Rattle.std.proofs.lemmas.Bool.{cases_lt}
use Rattle.stage_lanes.specs.Lanes.{AreLanes, IsLeastLane}

-- what a comparison of two vectors gives
abbrev pub compared : Width → (ℕ → ℕ → Bool) → List ℕ → List ℕ → List Bool
compared w t xs ys = map (top (hbits w)) (zip2 (λ a b. cond (t a b) (2 ^ bits w - 1) 0) xs ys)

lesser_is : (x y : ℕ) → cond (ltb x y) x y ≡ min x y
lesser_is x y = grind arith

greater_is : (x y : ℕ) → cond (ltb x y) y x ≡ max x y
greater_is x y = grind arith

pub chosen : (w : Width) (t : ℕ → ℕ → Bool) (xs ys us vs : List ℕ) → length xs ≡ 8 → length ys ≡ 8 → length us ≡ 8 → length vs ≡ 8 → (stage : ℕ) → stage < 8
    → slice_index (sel_l (compared w t xs ys) us vs) stage ≡ cond (t (slice_index xs stage) (slice_index ys stage)) (slice_index us stage) (slice_index vs stage)
chosen w t xs ys us vs p q r s stage h =
    let long : length (zip2 t xs ys) ≡ length xs = length-zip2 t xs ys (omega (arith, p, q)) in
    ap (λ ms. get_or (sel_l ms us vs) stage 0) (tops_compared w t xs ys)
    ∙ get_or-sel_l (zip2 t xs ys) us vs stage 0 (omega (arith, long, p, h)) (omega (arith, r, h)) (omega (arith, s, h))
    ∙ ap (λ m. cond m (get_or us stage 0) (get_or vs stage 0)) (get_or-zip2 t xs ys stage 0 0 false (omega (arith, p, h)) (omega (arith, q, h)))

pub lesser_lanes : (w : Width) (xs ys : List ℕ) → length xs ≡ 8 → length ys ≡ 8 → AreLanes (sel_l (compared w ltb xs ys) xs ys) (λ stage. min (slice_index xs stage) (slice_index ys stage))
lesser_lanes w xs ys p q stage h = chosen w ltb xs ys xs ys p q p q stage h ∙ lesser_is (slice_index xs stage) (slice_index ys stage)

pub greater_lanes : (w : Width) (xs ys : List ℕ) → length xs ≡ 8 → length ys ≡ 8 → AreLanes (sel_l (compared w ltb xs ys) ys xs) (λ stage. max (slice_index xs stage) (slice_index ys stage))
greater_lanes w xs ys p q stage h = chosen w ltb xs ys ys xs p q q p stage h ∙ greater_is (slice_index xs stage) (slice_index ys stage)

-- ---- the least lane
-- a lane has this value
abbrev Stands : List ℕ → ℕ → Type 0
Stands lanes value = (stage : ℕ) × (stage < 8) × (slice_index lanes stage ≡ value)

stands_min : (xs : List ℕ) (a b : ℕ) → Stands xs a → Stands xs b → Stands xs (min a b)
stands_min xs a b p q =
    elim (cases_lt a b) [
      | inl below ↦ let e : min a b ≡ a = omega (arith, below) in rw e p
      | inr above ↦ let e : min a b ≡ b = omega (arith, above) in rw e q
    ]

stands_at : (xs : List ℕ) (stage : ℕ) → stage < 8 → Stands xs (slice_index xs stage)
stands_at xs stage h = (stage, h, refl)

abbrev pub pair_least : List ℕ → ℕ → ℕ
pair_least xs k = min (slice_index xs k) (slice_index xs (k + 4))

abbrev pub four_least : List ℕ → ℕ → ℕ
four_least xs k = min (pair_least xs k) (pair_least xs (k + 2))

stands_pair : (xs : List ℕ) (k : ℕ) → k < 4 → Stands xs (pair_least xs k)
stands_pair xs k h = stands_min xs _ _ (stands_at xs k (omega (arith, h))) (stands_at xs (k + 4) (omega (arith, h)))

stands_four : (xs : List ℕ) (k : ℕ) → k < 2 → Stands xs (four_least xs k)
stands_four xs k h = stands_min xs _ _ (stands_pair xs k (omega (arith, h))) (stands_pair xs (k + 2) (omega (arith, h)))

below_all : (xs : List ℕ) (stage : ℕ) → stage < 8 → min (four_least xs 0) (four_least xs 1) ≤ slice_index xs stage
below_all xs zero h = omega arith
below_all xs (suc zero) h = omega arith
below_all xs (suc (suc zero)) h = omega arith
below_all xs (suc (suc (suc zero))) h = omega arith
below_all xs (suc (suc (suc (suc zero)))) h = omega arith
below_all xs (suc (suc (suc (suc (suc zero))))) h = omega arith
below_all xs (suc (suc (suc (suc (suc (suc zero)))))) h = omega arith
below_all xs (suc (suc (suc (suc (suc (suc (suc zero))))))) h = omega arith
below_all xs (suc (suc (suc (suc (suc (suc (suc (suc k)))))))) h = absurd (omega (arith, h))

-- halves are compared with halves, then pairs with pairs, then the two that are left
pub least_lane : (xs fours pairs : List ℕ) → AreLanes fours (λ stage. min (slice_index xs stage) (slice_index xs ((stage + 4) % 8))) → AreLanes pairs (λ stage. min (slice_index fours stage) (slice_index fours ((stage + 2) % 8)))
    → IsLeastLane xs (min (slice_index pairs 0) (slice_index pairs 1))
least_lane xs fours pairs p q =
    let first : slice_index pairs 0 ≡ four_least xs 0 = q 0 (omega arith) ∙ (λ i. min (p 0 (omega arith) i) (p 2 (omega arith) i)) in
    let second : slice_index pairs 1 ≡ four_least xs 1 = q 1 (omega arith) ∙ (λ i. min (p 1 (omega arith) i) (p 3 (omega arith) i)) in
    rw (first, second) (record { lane = stands_min xs _ _ (stands_four xs 0 (omega arith)) (stands_four xs 1 (omega arith)); least = below_all xs })

-- ---- eight lanes as a list
-- a fact of the stages 0 to 7
pub each_stage : (P : ℕ → Type 0) → P 0 → P 1 → P 2 → P 3 → P 4 → P 5 → P 6 → P 7 → (stage : ℕ) → stage < 8 → P stage
each_stage P a b c d e f g h zero l = a
each_stage P a b c d e f g h (suc zero) l = b
each_stage P a b c d e f g h (suc (suc zero)) l = c
each_stage P a b c d e f g h (suc (suc (suc zero))) l = d
each_stage P a b c d e f g h (suc (suc (suc (suc zero)))) l = e
each_stage P a b c d e f g h (suc (suc (suc (suc (suc zero))))) l = f
each_stage P a b c d e f g h (suc (suc (suc (suc (suc (suc zero)))))) l = g
each_stage P a b c d e f g h (suc (suc (suc (suc (suc (suc (suc zero))))))) l = h
each_stage P a b c d e f g h (suc (suc (suc (suc (suc (suc (suc (suc k)))))))) l = absurd (omega (arith, l))

-- ---- sums
each_two : (P : ℕ → ℕ → Type 0) (xs ys : List ℕ) → length xs ≡ length ys → ((i : ℕ) → i < length xs → P (get_or xs i 0) (get_or ys i 0)) → Each2 P xs ys
each_two P [] ys h f = tt
each_two P (x ∷ xs) [] h f = absurd (omega arith)
each_two P (x ∷ xs) (y ∷ ys) h f = (f 0 (omega arith), each_two P xs ys (omega (arith, h)) (λ i l. f (suc i) (omega (arith, l))))

pub sums_fit : (xs ys : List ℕ) → length xs ≡ 8 → length ys ≡ 8 → ((stage : ℕ) → stage < 8 → slice_index xs stage + slice_index ys stage < 2 ^ 32) → Each2 (λ x y. Fits w32 (x + y)) xs ys
sums_fit xs ys p q room = each_two (λ x y. Fits w32 (x + y)) xs ys (omega (arith, p, q)) (λ i l. record { fits = room i (omega (arith, p, l)) })
