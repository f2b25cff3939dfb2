-- Sets of actions by a test of their places, word by word.
use Rattle.std.proofs.Common.{◌≡◌, ◌≢◌, ℕ, zero, suc, ◌+◌, ◌-◌, ◌*◌, ◌/◌, ◌%◌, ◌^◌, ◌<◌, ◌≤◌, max, Bool, true, false, ◌&&◌, ◌||◌, nat_lt, ◌==◌, bit_or, [], ◌∷◌, slice_index, refl, ap, sym, ◌∙◌, arith, inl, inr}
use Rattle.std.specs.Int.{bit_at}
use Rattle.std.proofs.lemmas.Nat.{pow_pos, pow-add}
use Rattle.std.proofs.Math.Nat.{pow-le-pow_right, mul-lt-mul_of_pos_right}
use Rattle.std.proofs.lemmas.Nat.Bits.{bit_at_or, bit_at-lt, bit_at-zero, bit_at_above, bit_at_cat_low, bit_at_cat_high}
use Rattle.std.proofs.lemmas.Bool.{cases_lt, cases_eq}
use Rattle.brake_base.specs.declared.mask.Mask.{Mask}
use Rattle.brake_base.specs.Masks
use Rattle.stage_lanes.specs.declared.stages.StageSet.{StageSet}
use Rattle.stage_lanes.specs.Stages
use Rattle.stage_lanes.specs.Stages.{AreStages}
use Rattle.stage_lanes.specs.ActionSets.{has_place, ArePlaces}
use Rattle.action_lanes.specs.Costs.{is_of, AreBits}
use Rattle.action_lanes.proofs.CostLemmas.{test_same, test_apart, yes, no}

-- ---- a set of three words
each_word : (P : ℕ → Type 0) → P 0 → P 1 → P 2 → (word : ℕ) → word < 3 → P word
each_word P p q r zero h = p
each_word P p q r (suc zero) h = q
each_word P p q r (suc (suc zero)) h = r
each_word P p q r (suc (suc (suc k))) h = absurd (omega (arith, h))

-- the places of which this holds, word by word
pub words_are : (x y z : ℕ) (holds : ℕ → Bool)
    → AreBits x (λ bit. holds (64 * 0 + bit)) → AreBits y (λ bit. holds (64 * 1 + bit)) → AreBits z (λ bit. holds (64 * 2 + bit))
    → ArePlaces (record { words = x ∷ y ∷ z ∷ [] }) holds
unfolding has_place
words_are x y z holds p q r place h =
    let at : 64 * (place / 64) + place % 64 ≡ place = omega arith in
    each_word (λ word. AreBits (slice_index (x ∷ y ∷ z ∷ []) word) (λ bit. holds (64 * word + bit))) p q r (place / 64) (omega (arith, h)) (place % 64) (omega arith)
    ∙ ap holds at

-- ---- a word and the stages of a side, at one of its eighths
either : (m n : ℕ) → m < 2 → n < 2 → (max m n == 1) ≡ ((m == 1) || (n == 1))
either zero zero p q = refl
either zero (suc zero) p q = refl
either (suc zero) zero p q = refl
either (suc zero) (suc zero) p q = refl
either (suc (suc m)) n p q = absurd (omega arith)
either m (suc (suc n)) p q = absurd (omega arith)

room : (s eighth : ℕ) → s < 256 → eighth < 8 → s * 2 ^ (8 * eighth) < 2 ^ 64
room s eighth few h =
    let powers : 2 ^ (8 + 8 * eighth) ≡ 256 * 2 ^ (8 * eighth) = pow-add 2 8 (8 * eighth) in
    let last : 8 + 8 * eighth ≤ 64 = omega (arith, h) in
    let most : 2 ^ (8 + 8 * eighth) ≤ 2 ^ 64 = pow-le-pow_right {n = 2} (omega arith) last in
    let below : s * 2 ^ (8 * eighth) < 256 * 2 ^ (8 * eighth) = mul-lt-mul_of_pos_right few (pow_pos (8 * eighth)) in
    omega (arith, powers, most, below)

shifted : (s eighth : ℕ) → s < 256 → eighth < 8 → (bit : ℕ) → (bit_at (s * 2 ^ (8 * eighth) % 2 ^ 64) bit == 1) ≡ ((bit / 8 == eighth) && (bit_at s (bit % 8) == 1))
shifted s eighth few h bit =
    let whole : s * 2 ^ (8 * eighth) % 2 ^ 64 ≡ s * 2 ^ (8 * eighth) + 0 = omega (arith, room s eighth few h) in
    ap (λ n. bit_at n bit == 1) whole ∙ elim (cases_lt bit (8 * eighth)) [
      | inl below ↦
          ap (λ b. b == 1) (bit_at_cat_low s (8 * eighth) 0 bit below ∙ bit_at-zero bit)
          ∙ ap (λ t. t && (bit_at s (bit % 8) == 1)) (sym (test_apart (bit / 8) eighth (λ e. omega (arith, e, below))))
      | inr above ↦ ap (λ b. b == 1) (bit_at_cat_high s (8 * eighth) 0 bit (pow_pos (8 * eighth)) above) ∙ elim (cases_lt bit (8 * eighth + 8)) [
        | inl inside ↦
            let q : bit / 8 ≡ eighth = omega (arith, above, inside) in
            let e : bit - 8 * eighth ≡ bit % 8 = omega (arith, above, inside) in
            ap (λ n. bit_at s n == 1) e ∙ ap (λ t. t && (bit_at s (bit % 8) == 1)) (sym (ap (λ n. n == eighth) q ∙ test_same eighth))
        | inr beyond ↦
            ap (λ b. b == 1) (bit_at_above s 8 (bit - 8 * eighth) few (omega (arith, beyond)))
            ∙ ap (λ t. t && (bit_at s (bit % 8) == 1)) (sym (test_apart (bit / 8) eighth (λ e. omega (arith, e, beyond))))
      ]
    ]

pub eighth_joined : (bits eighth : ℕ) (stages : StageSet) → stages.0 < 256 → eighth < 8
    → AreBits (bit_or bits (stages.0 * 2 ^ (8 * eighth) % 2 ^ 64)) (λ bit. bit_at bits bit == 1 || (bit / 8 == eighth && Stages.has stages (bit % 8)))
unfolding Stages.has
eighth_joined bits eighth stages few h bit low =
    let own = stages.0 * 2 ^ (8 * eighth) % 2 ^ 64 in
    ap (λ b. b == 1) (bit_at_or bits own bit)
    ∙ either (bit_at bits bit) (bit_at own bit) (bit_at-lt bits bit) (bit_at-lt own bit)
    ∙ ap (λ t. (bit_at bits bit == 1) || t) (shifted stages.0 eighth few h bit)

-- ---- eighth by eighth
or_none : (t : Bool) → (t || false) ≡ t
or_none true = refl
or_none false = refl

and_none : (t : Bool) → false ≡ (t && false)
and_none true = refl
and_none false = refl

-- the word has the bits of its eighths before one, where their places are of some bends and pass
abbrev pub HasBefore : Mask → (ℕ → Bool) → ℕ → ℕ → ℕ → Type 0
HasBefore bends test word eighths bits =
    AreBits bits (λ bit. nat_lt (bit / 8) eighths && (is_of bends (64 * word + bit) && test (64 * word + bit)))

module _ (bends : Mask) (test : ℕ → Bool) (word : ℕ) where
  pub none_before : HasBefore bends test word 0 0
  none_before bit h =
      ap (λ b. b == 1) (bit_at-zero bit)
      ∙ ap (λ t. t && (is_of bends (64 * word + bit) && test (64 * word + bit))) (no (bit / 8) 0 (omega arith))

  pub all_before : (eighths bits : ℕ) → 8 ≤ eighths → HasBefore bends test word eighths bits
      → AreBits bits (λ bit. is_of bends (64 * word + bit) && test (64 * word + bit))
  all_before eighths bits past before bit h =
      before bit h ∙ ap (λ t. t && (is_of bends (64 * word + bit) && test (64 * word + bit))) (sym (yes (bit / 8) eighths (omega (arith, h, past))))

  -- a bit of another eighth is as before
  stays : (eighth bit : ℕ) → bit / 8 ≢ eighth → (nat_lt (bit / 8) eighth && (is_of bends (64 * word + bit) && test (64 * word + bit)))
      ≡ (nat_lt (bit / 8) (eighth + 1) && (is_of bends (64 * word + bit) && test (64 * word + bit)))
  stays eighth bit apart = ap (λ t. t && (is_of bends (64 * word + bit) && test (64 * word + bit))) (elim (cases_lt (bit / 8) eighth) [
    | inl lower ↦ sym (yes (bit / 8) eighth lower) ∙ yes (bit / 8) (eighth + 1) (omega (arith, lower))
    | inr above ↦ sym (no (bit / 8) eighth above) ∙ no (bit / 8) (eighth + 1) (omega (arith, above, apart))
  ])

  bend_of : (eighth bit : ℕ) (t : Bool) → bit / 8 ≡ eighth → Masks.has bends ((8 * word + eighth) / 2 + 1) ≡ t → is_of bends (64 * word + bit) ≡ t
  bend_of eighth bit t e its = let f : (64 * word + bit) / 16 + 1 ≡ (8 * word + eighth) / 2 + 1 = omega (arith, e) in ap (Masks.has bends) f ∙ its

  pub eighth_taken : (eighth bits next : ℕ) (stages : StageSet) → Masks.has bends ((8 * word + eighth) / 2 + 1) ≡ true
      → HasBefore bends test word eighth bits → AreStages stages (λ stage. test (8 * (8 * word + eighth) + stage))
      → AreBits next (λ bit. bit_at bits bit == 1 || (bit / 8 == eighth && Stages.has stages (bit % 8)))
      → HasBefore bends test word (eighth + 1) next
  eighth_taken eighth bits next stages its before are joined bit h = joined bit h ∙ elim (cases_eq (bit / 8) eighth) [
    | inl same ↦
        let at : 8 * (8 * word + eighth) + bit % 8 ≡ 64 * word + bit = omega (arith, same) in
        let blank : (bit_at bits bit == 1) ≡ false = before bit h ∙ ap (λ t. t && (is_of bends (64 * word + bit) && test (64 * word + bit))) (sym (no (bit / 8) eighth (omega (arith, same)))) in
        let own : (bit / 8 == eighth) ≡ true = ap (λ n. n == eighth) same ∙ test_same eighth in
        (λ i. blank i || (own i && Stages.has stages (bit % 8)))
        ∙ are (bit % 8) (omega arith) ∙ ap test at
        ∙ (λ i. yes (bit / 8) (eighth + 1) (omega (arith, same)) i && (sym (bend_of eighth bit true same its) i && test (64 * word + bit)))
    | inr apart ↦
        ap (λ t. (bit_at bits bit == 1) || (t && Stages.has stages (bit % 8))) (test_apart (bit / 8) eighth apart)
        ∙ or_none (bit_at bits bit == 1) ∙ before bit h ∙ stays eighth bit apart
  ]

  pub eighth_left : (eighth bits : ℕ) → Masks.has bends ((8 * word + eighth) / 2 + 1) ≡ false → HasBefore bends test word eighth bits → HasBefore bends test word (eighth + 1) bits
  eighth_left eighth bits its before bit h = before bit h ∙ elim (cases_eq (bit / 8) eighth) [
    | inl same ↦
        ap (λ t. t && (is_of bends (64 * word + bit) && test (64 * word + bit))) (sym (no (bit / 8) eighth (omega (arith, same))))
        ∙ and_none (nat_lt (bit / 8) (eighth + 1))
        ∙ ap (λ t. nat_lt (bit / 8) (eighth + 1) && (t && test (64 * word + bit))) (sym (bend_of eighth bit false same its))
    | inr apart ↦ stays eighth bit apart
  ]
