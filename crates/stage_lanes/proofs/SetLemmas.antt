-- Sets of actions: one action, the stages of a side, the first action.
use Rattle.std.proofs.Common.{◌≡◌, ◌≢◌, ℕ, zero, suc, ◌+◌, ◌-◌, ◌*◌, ◌/◌, ◌%◌, ◌^◌, ◌<◌, ◌≤◌, min, max, Bool, true, false, ◌&&◌, ◌||◌, not, nat_lt, nat_eq, ◌==◌, bit_and, bit_or, length, slice_index, slice_set, refl, ap, sym, ◌∙◌, arith, ◌↔◌, inl, inr, w64}
use Rattle.std.specs.Int.{bit_at, bit_not, trailing_zeros}
use Rattle.std.proofs.Math.Nat.{mul-le-mul_left, mul_comm, mul-suc}
use Rattle.std.proofs.lemmas.Nat.{shr-shr, one_shl, pow_pos, or_lt}
use Rattle.std.proofs.lemmas.Nat.Bits.{bit_at_and, bit_at_or, bit_at-lt, bit_at-zero, bit_at_above, bit_at_ones, bit_at_ones_above, bit_at_cat_low, bit_at_cat_high, bit_at_set_same, bit_at_set_other, bit_at_clear_same, bit_at_clear_other, bit_at-trailing_zeros, shr_and_one, same_from_bits_below}
use Rattle.std.proofs.lemmas.Bool.{cases_lt, cases_eq}
use Rattle.brake_base.specs.declared.stroke.Action.{Action}
use Rattle.brake_base.specs.Actions.{IsActionAmong, back_number, number_of_action}
use Rattle.stage_lanes.specs.declared.actions.ActionSet.{ActionSet}
use Rattle.stage_lanes.specs.declared.stages.StageSet.{StageSet}
use Rattle.stage_lanes.specs.Stages
use Rattle.stage_lanes.specs.Stages.{AreStages}
use Rattle.stage_lanes.specs.ActionSets.{has_place, has, place_of, ArePlaces, IsNone, IsFirst}
use Rattle.stage_lanes.proofs.LaneLemmas.{each_stage}
use Rattle.stage_lanes.proofs.PlaceLemmas.{or_bits, no_bit, place_bit, changed_places}

pub test_same : (m : ℕ) → (m == m) ≡ true
test_same m = grind arith

pub test_apart : (m n : ℕ) → m ≢ n → (m == n) ≡ false
test_apart m n h = grind arith

or_true : (t : Bool) → true ≡ (t || true)
or_true true = refl
or_true false = refl

or_false : (t : Bool) → t ≡ (t || false)
or_false true = refl
or_false false = refl

and_false : (t : Bool) → false ≡ (t && false)
and_false true = refl
and_false false = refl

and_true : (t : Bool) → t ≡ (t && true)
and_true true = refl
and_true false = refl

pub yes : (m n : ℕ) → m < n → true ≡ nat_lt m n
yes m n h = grind arith

pub no : (m n : ℕ) → n ≤ m → false ≡ nat_lt m n
no m n h = grind arith

each_word : (P : ℕ → Type 0) → P 0 → P 1 → P 2 → (word : ℕ) → word < 3 → P word
each_word P p q r zero h = p
each_word P p q r (suc zero) h = q
each_word P p q r (suc (suc zero)) h = r
each_word P p q r (suc (suc (suc k))) h = absurd (omega (arith, h))

-- ---- one action
pub contains_is : (set : ActionSet) (place : ℕ) → nat_eq (bit_and (slice_index set.words (place / 64) / 2 ^ (place % 64)) 1) 1 ≡ has_place set place
unfolding has_place
contains_is set place = rw (shr_and_one (slice_index set.words (place / 64)) (place % 64)) refl

pub with_place : (set : ActionSet) (place : ℕ) → length set.words ≡ 3 → place < 192
    → ArePlaces (record { words = slice_set set.words (place / 64) (bit_or (slice_index set.words (place / 64)) (1 * 2 ^ (place % 64) % 2 ^ 64)) }) (λ other. has_place set other || other == place)
with_place set place three h =
    changed_places set (place / 64) _ (λ other. has_place set other || other == place) three (omega (arith, h))
    (λ bit low. elim (cases_eq bit (place % 64)) [
      | inl same ↦
          let e : 64 * (place / 64) + bit ≡ place = omega (arith, same) in
          rw (same) (ap (λ b. b == 1) (bit_at_set_same w64 (slice_index set.words (place / 64)) (place % 64) (omega arith)))
          ∙ or_true (has_place set (64 * (place / 64) + bit)) ∙ ap (λ t. has_place set (64 * (place / 64) + bit) || t) (sym (ap (λ n. n == place) e ∙ test_same place))
      | inr apart ↦
          ap (λ b. b == 1) (bit_at_set_other w64 (slice_index set.words (place / 64)) (place % 64) (omega arith) bit apart)
          ∙ sym (place_bit set (64 * (place / 64) + bit) (place / 64) bit refl low)
          ∙ or_false (has_place set (64 * (place / 64) + bit)) ∙ ap (λ t. has_place set (64 * (place / 64) + bit) || t) (sym (test_apart (64 * (place / 64) + bit) place (λ e. apart (omega (arith, e, low)))))
    ])
    (λ other apart. or_false (has_place set other) ∙ ap (λ t. has_place set other || t) (sym (test_apart other place (λ e. apart (ap (λ n. n / 64) e)))))

pub except_place : (set : ActionSet) (place : ℕ) → length set.words ≡ 3 → place < 192
    → ArePlaces (record { words = slice_set set.words (place / 64) (bit_and (slice_index set.words (place / 64)) (bit_not w64 (1 * 2 ^ (place % 64) % 2 ^ 64))) }) (λ other. has_place set other && not (other == place))
except_place set place three h =
    changed_places set (place / 64) _ (λ other. has_place set other && not (other == place)) three (omega (arith, h))
    (λ bit low. elim (cases_eq bit (place % 64)) [
      | inl same ↦
          let e : 64 * (place / 64) + bit ≡ place = omega (arith, same) in
          rw (same) (ap (λ b. b == 1) (bit_at_clear_same w64 (slice_index set.words (place / 64)) (place % 64) (omega arith)))
          ∙ and_false (has_place set (64 * (place / 64) + bit)) ∙ ap (λ t. has_place set (64 * (place / 64) + bit) && not t) (sym (ap (λ n. n == place) e ∙ test_same place))
      | inr apart ↦
          ap (λ b. b == 1) (bit_at_clear_other w64 (slice_index set.words (place / 64)) (place % 64) (omega arith) bit low apart)
          ∙ sym (place_bit set (64 * (place / 64) + bit) (place / 64) bit refl low)
          ∙ and_true (has_place set (64 * (place / 64) + bit)) ∙ ap (λ t. has_place set (64 * (place / 64) + bit) && not t) (sym (test_apart (64 * (place / 64) + bit) place (λ e. apart (omega (arith, e, low)))))
    ])
    (λ other apart. and_true (has_place set other) ∙ ap (λ t. has_place set other && not t) (sym (test_apart other place (λ e. apart (ap (λ n. n / 64) e)))))

-- ---- the stages of a side
pub shifted_room : (s r : ℕ) → s < 256 → r < 8 → s * 2 ^ (8 * r) < 2 ^ 64
shifted_room s r p h = each_stage (λ k. s * 2 ^ (8 * k) < 2 ^ 64) (omega (arith, p)) (omega (arith, p)) (omega (arith, p)) (omega (arith, p)) (omega (arith, p)) (omega (arith, p)) (omega (arith, p)) (omega (arith, p)) r h

-- the eight bits of s stand at eighth r of a word
eighth : (s r bit : ℕ) → s < 256 → r < 8 → (bit_at (s * 2 ^ (8 * r) % 2 ^ 64) bit == 1) ≡ ((bit / 8 == r) && (bit_at s (bit % 8) == 1))
eighth s r bit p h =
    let whole : s * 2 ^ (8 * r) % 2 ^ 64 ≡ s * 2 ^ (8 * r) + 0 = omega (arith, shifted_room s r p h) in
    ap (λ n. bit_at n bit == 1) whole ∙ elim (cases_lt bit (8 * r)) [
      | inl below ↦
          ap (λ b. b == 1) (bit_at_cat_low s (8 * r) 0 bit below ∙ bit_at-zero bit)
          ∙ ap (λ t. t && (bit_at s (bit % 8) == 1)) (sym (test_apart (bit / 8) r (λ e. omega (arith, e, below))))
      | inr above ↦ ap (λ b. b == 1) (bit_at_cat_high s (8 * r) 0 bit (pow_pos (8 * r)) above) ∙ elim (cases_lt bit (8 * r + 8)) [
        | inl inside ↦
            let q : bit / 8 ≡ r = omega (arith, above, inside) in
            let e : bit - 8 * r ≡ bit % 8 = omega (arith, above, inside) in
            ap (λ n. bit_at s n == 1) e ∙ ap (λ t. t && (bit_at s (bit % 8) == 1)) (sym (ap (λ n. n == r) q ∙ test_same r))
        | inr beyond ↦
            ap (λ b. b == 1) (bit_at_above s 8 (bit - 8 * r) p (omega (arith, beyond)))
            ∙ ap (λ t. t && (bit_at s (bit % 8) == 1)) (sym (test_apart (bit / 8) r (λ e. omega (arith, e, beyond))))
      ]
    ]

pub with_stages_places : (set : ActionSet) (stages : StageSet) (side : ℕ) → length set.words ≡ 3 → stages.0 < 256 → side < 24
    → ArePlaces (record { words = slice_set set.words (side / 8) (bit_or (slice_index set.words (side / 8)) (stages.0 * 2 ^ (8 * (side % 8)) % 2 ^ 64)) }) (λ place. has_place set place || ((place / 8 == side) && Stages.has stages (place % 8)))
unfolding Stages.has
with_stages_places set stages side three fits h =
    let set_bits = slice_index set.words (side / 8) in
    changed_places set (side / 8) _ (λ place. has_place set place || ((place / 8 == side) && (bit_at stages.0 (place % 8) == 1))) three (omega (arith, h))
    (λ bit low.
    let r : (64 * (side / 8) + bit) % 8 ≡ bit % 8 = omega arith in
    or_bits set_bits _ bit
    ∙ ap (λ t. (bit_at set_bits bit == 1) || t) (eighth stages.0 (side % 8) bit fits (omega arith))
    ∙ (λ i. sym (place_bit set (64 * (side / 8) + bit) (side / 8) bit refl low) i || (same_side bit low i && (bit_at stages.0 (sym r i) == 1))))
    (λ place apart. or_false (has_place set place) ∙ ap (λ t. has_place set place || (t && (bit_at stages.0 (place % 8) == 1))) (sym (test_apart (place / 8) side (λ e. apart (omega (arith, e))))))
  where
    same_side : (bit : ℕ) → bit < 64 → (bit / 8 == side % 8) ≡ ((64 * (side / 8) + bit) / 8 == side)
    same_side bit low = elim (cases_eq (bit / 8) (side % 8)) [
      | inl same ↦ let e : (64 * (side / 8) + bit) / 8 ≡ side = omega (arith, same, low) in ap (λ n. n == side % 8) same ∙ test_same (side % 8) ∙ sym (ap (λ n. n == side) e ∙ test_same side)
      | inr apart ↦ test_apart (bit / 8) (side % 8) apart ∙ sym (test_apart ((64 * (side / 8) + bit) / 8) side (λ e. apart (omega (arith, e, low))))
    ]

pub stages_are : (set : ActionSet) (side : ℕ) → AreStages (record { 0 = bit_and (slice_index set.words (side / 8) / 2 ^ (8 * (side % 8))) 255 }) (λ stage. has_place set (8 * side + stage))
unfolding Stages.has
stages_are set side stage h =
    let word = slice_index set.words (side / 8) in
    let k = 8 * (side % 8) in
    let same : bit_at (bit_and (word / 2 ^ k) 255) stage ≡ bit_at word (k + stage) =
    bit_at_and (word / 2 ^ k) 255 stage ∙ ap (min (bit_at (word / 2 ^ k) stage)) (bit_at_ones 8 stage h) ∙ lesser (bit_at (word / 2 ^ k) stage) (bit_at-lt (word / 2 ^ k) stage) ∙ ap (λ n. n % 2) (shr-shr word k stage) in
    ap (λ b. b == 1) same ∙ sym (place_bit set (8 * side + stage) (side / 8) (k + stage) (omega (arith, h)) (omega (arith, h)))
  where
    lesser : (m : ℕ) → m < 2 → min m 1 ≡ m
    lesser m l = omega (arith, l)

-- ---- the first action
-- on a machine of fewer stages actions have the order of their places
pub number_order : (stages : ℕ) (a b : Action) → stages ≤ 8 → IsActionAmong 12 stages a → IsActionAmong 12 stages b → place_of a ≤ place_of b → number_of_action stages a ≤ number_of_action stages b
unfolding number_of_action
number_order stages a b few first second le =
    let m = (a.bend - 1) * 2 + back_number a.back in
    let n = (b.bend - 1) * 2 + back_number b.back in
    elim (cases_lt m n) [
      | inl lower ↦
          let whole : stages * suc m ≤ stages * n = mul-le-mul_left stages lower in
          omega (arith, whole, spread m stages, first.stage)
      | inr above ↦ let e : n ≡ m = omega (arith, above, le, first.stage, second.stage, few) in
          let f : a.stage ≤ b.stage = omega (arith, e, le) in
          rw e (omega (arith, f))
    ]
  where
    spread : (m stages : ℕ) → stages * suc m ≡ m * stages + stages
    spread m stages = mul-suc stages m ∙ ap (λ n. n + stages) (mul_comm stages m)

pub first_is : (set : ActionSet) (action : Action) (word : ℕ) → 0 < slice_index set.words word → slice_index set.words word < 2 ^ 64 → ((other : ℕ) → other < word → slice_index set.words other ≡ 0)
    → IsActionAmong 12 8 action → place_of action ≡ 64 * word + trailing_zeros w64 (slice_index set.words word) → IsFirst set action
first_is set action word some fits lower among e =
    let bits = slice_index set.words word in
    let zeros = trailing_zeros w64 bits in
    let place = bit_at-trailing_zeros w64 bits some fits in
    let none : (other : ℕ) → other < place_of action → has_place set other ≡ false = λ other l. elim (cases_lt (other / 64) word) [
      | inl before ↦ place_bit set other (other / 64) (other % 64) (omega arith) (omega arith) ∙ ap (λ n. bit_at n (other % 64) == 1) (lower (other / 64) before) ∙ ap (λ b. b == 1) (bit_at-zero (other % 64))
      | inr at ↦ place_bit set other word (other % 64) (omega (arith, at, l, e, place.0)) (omega arith) ∙ ap (λ b. b == 1) (place.2 (other % 64) (omega (arith, at, l, e, place.0)))
    ] in
    record {
      among = among;
      member = place_bit set (place_of action) word zeros e place.0 ∙ ap (λ b. b == 1) place.1;
      none_before = none;
      least = λ stages other few own one member. elim (cases_lt (place_of other) (place_of action)) [
        | inl below ↦ absurd (clash (has set other) member (none (place_of other) below))
        | inr above ↦ number_order stages action other few own one above
      ];
    }
  where
    clash : (t : Bool) → t ≡ true → t ≡ false → ⊥
    clash t p q = cc

-- ---- the empty set
abbrev pub all_words : ActionSet → ℕ
all_words set = bit_or (bit_or (slice_index set.words 0) (slice_index set.words 1)) (slice_index set.words 2)

bits_of_all : (set : ActionSet) (bit : ℕ) → bit_at (all_words set) bit ≡ max (max (bit_at (slice_index set.words 0) bit) (bit_at (slice_index set.words 1) bit)) (bit_at (slice_index set.words 2) bit)
bits_of_all set bit = bit_at_or (bit_or (slice_index set.words 0) (slice_index set.words 1)) (slice_index set.words 2) bit ∙ ap (λ m. max m (bit_at (slice_index set.words 2) bit)) (bit_at_or (slice_index set.words 0) (slice_index set.words 1) bit)

bit_of_none : (set : ActionSet) → all_words set ≡ 0 → (word bit : ℕ) → word < 3 → bit_at (slice_index set.words word) bit ≡ 0
bit_of_none set e word bit h =
    let zeros : max (max (bit_at (slice_index set.words 0) bit) (bit_at (slice_index set.words 1) bit)) (bit_at (slice_index set.words 2) bit) ≡ 0 = sym (bits_of_all set bit) ∙ ap (λ n. bit_at n bit) e ∙ bit_at-zero bit in
    each_word (λ k. bit_at (slice_index set.words k) bit ≡ 0) (omega (arith, zeros)) (omega (arith, zeros)) (omega (arith, zeros)) word h

none_from_zero : (set : ActionSet) → all_words set ≡ 0 → IsNone set
none_from_zero set e place h = place_bit set place (place / 64) (place % 64) (omega arith) (omega arith) ∙ ap (λ b. b == 1) (bit_of_none set e (place / 64) (place % 64) (omega (arith, h)))

zero_from_none : (set : ActionSet) → ((word : ℕ) → word < 3 → slice_index set.words word < 2 ^ 64) → IsNone set → all_words set ≡ 0
zero_from_none set fits none =
    same_from_bits_below 64 (all_words set) 0 (or_lt 64 _ _ (or_lt 64 _ _ (fits 0 (omega arith)) (fits 1 (omega arith))) (fits 2 (omega arith))) (omega arith)
    (λ bit h.
    let first = clear 0 bit h (omega arith) in
    let second = clear 1 bit h (omega arith) in
    let third = clear 2 bit h (omega arith) in
    bits_of_all set bit ∙ omega (arith, first, second, third, bit_at-zero bit))
  where
    clear : (word bit : ℕ) → bit < 64 → word < 3 → bit_at (slice_index set.words word) bit ≡ 0
    clear word bit h w = no_bit (bit_at (slice_index set.words word) bit) (bit_at-lt (slice_index set.words word) bit) (sym (place_bit set (64 * word + bit) word bit refl h) ∙ none (64 * word + bit) (omega (arith, h, w)))

pub empty_is : (set : ActionSet) → ((word : ℕ) → word < 3 → slice_index set.words word < 2 ^ 64) → (all_words set ≡ 0) ↔ IsNone set
empty_is set fits = (none_from_zero set, zero_from_none set fits)

pub none_from_words : (set : ActionSet) → slice_index set.words 0 ≡ 0 → slice_index set.words 1 ≡ 0 → slice_index set.words 2 ≡ 0 → IsNone set
none_from_words set p q r place h =
    place_bit set place (place / 64) (place % 64) (omega arith) (omega arith)
    ∙ ap (λ n. bit_at n (place % 64) == 1) (each_word (λ k. slice_index set.words k ≡ 0) p q r (place / 64) (omega (arith, h)))
    ∙ ap (λ b. b == 1) (bit_at-zero (place % 64))

-- ---- the places before an end
pub all_ones : (start end bit : ℕ) → bit < 64 → 64 ≤ end - start → (bit_at (2 ^ 64 - 1) bit == 1) ≡ nat_lt (start + bit) end
all_ones start end bit h far = ap (λ b. b == 1) (bit_at_ones 64 bit h) ∙ yes (start + bit) end (omega (arith, far, h))

pub some_ones : (start end bit : ℕ) → end - start < 64 → start ≤ end → (bit_at (1 * 2 ^ (end - start) % 2 ^ 64 - 1) bit == 1) ≡ nat_lt (start + bit) end
some_ones start end bit near order =
    let e : 1 * 2 ^ (end - start) % 2 ^ 64 ≡ 2 ^ (end - start) = omega (arith, near, one_shl (end - start) 64) in
    rw e (elim (cases_lt bit (end - start)) [
      | inl below ↦ ap (λ b. b == 1) (bit_at_ones (end - start) bit below) ∙ yes (start + bit) end (omega (arith, below))
      | inr above ↦ ap (λ b. b == 1) (bit_at_ones_above (end - start) bit above) ∙ no (start + bit) end (omega (arith, above, order))
    ])

-- ---- the words below the second and the third
pub each_below_one : (set : ActionSet) → slice_index set.words 0 ≡ 0 → (word : ℕ) → word < 1 → slice_index set.words word ≡ 0
each_below_one set e zero h = e
each_below_one set e (suc k) h = absurd (omega (arith, h))

pub each_below_two : (set : ActionSet) → slice_index set.words 0 ≡ 0 → slice_index set.words 1 ≡ 0 → (word : ℕ) → word < 2 → slice_index set.words word ≡ 0
each_below_two set e f zero h = e
each_below_two set e f (suc zero) h = f
each_below_two set e f (suc (suc k)) h = absurd (omega (arith, h))
