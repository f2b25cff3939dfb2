-- Places of actions, and the bits of the three words.
use Rattle.std.proofs.Common.{◌≡◌, ◌≢◌, ℕ, zero, suc, ◌+◌, ◌-◌, ◌*◌, ◌/◌, ◌%◌, ◌^◌, ◌<◌, min, max, Bool, false, ◌&&◌, ◌||◌, not, ◌==◌, bit_and, bit_or, [], ◌∷◌, length, slice_index, slice_set, refl, ap, sym, ◌∙◌, arith, inl, inr, w64}
use Rattle.std.specs.Int.{bit_at, bit_not}
use Rattle.std.proofs.lemmas.List.{get_or-set_same, get_or-set_other}
use Rattle.std.proofs.lemmas.Nat.Bits.{bit_at_and, bit_at_or, bit_at_not, bit_at-lt, bit_at-zero}
use Rattle.std.proofs.lemmas.Bool.{cases_lt, cases_eq}
use Rattle.stage_lanes.specs.declared.actions.ActionSet.{ActionSet}
use Rattle.stage_lanes.specs.ActionSets.{has_place, ArePlaces}

-- ---- tests of one bit
pub or_test : (m n : ℕ) → m < 2 → n < 2 → (max m n == 1) ≡ ((m == 1) || (n == 1))
or_test zero zero p q = refl
or_test zero (suc zero) p q = refl
or_test (suc zero) zero p q = refl
or_test (suc zero) (suc zero) p q = refl
or_test (suc (suc m)) n p q = absurd (omega arith)
or_test m (suc (suc n)) p q = absurd (omega arith)

pub and_test : (m n : ℕ) → m < 2 → n < 2 → (min m n == 1) ≡ ((m == 1) && (n == 1))
and_test zero zero p q = refl
and_test zero (suc zero) p q = refl
and_test (suc zero) zero p q = refl
and_test (suc zero) (suc zero) p q = refl
and_test (suc (suc m)) n p q = absurd (omega arith)
and_test m (suc (suc n)) p q = absurd (omega arith)

not_test : (m : ℕ) → m < 2 → (1 - m == 1) ≡ not (m == 1)
not_test zero p = refl
not_test (suc zero) p = refl
not_test (suc (suc m)) p = absurd (omega arith)

pub no_bit : (m : ℕ) → m < 2 → (m == 1) ≡ false → m ≡ 0
no_bit zero h e = refl
no_bit (suc zero) h e = absurd (cc)
no_bit (suc (suc m)) h e = absurd (omega (arith, h))

pub or_bits : (m n bit : ℕ) → (bit_at (bit_or m n) bit == 1) ≡ ((bit_at m bit == 1) || (bit_at n bit == 1))
or_bits m n bit = ap (λ b. b == 1) (bit_at_or m n bit) ∙ or_test (bit_at m bit) (bit_at n bit) (bit_at-lt m bit) (bit_at-lt n bit)

and_bits : (m n bit : ℕ) → (bit_at (bit_and m n) bit == 1) ≡ ((bit_at m bit == 1) && (bit_at n bit == 1))
and_bits m n bit = ap (λ b. b == 1) (bit_at_and m n bit) ∙ and_test (bit_at m bit) (bit_at n bit) (bit_at-lt m bit) (bit_at-lt n bit)

without_bits : (m n bit : ℕ) → n < 2 ^ 64 → bit < 64 → (bit_at (bit_and m (bit_not w64 n)) bit == 1) ≡ ((bit_at m bit == 1) && not (bit_at n bit == 1))
without_bits m n bit fits h =
    ap (λ b. b == 1) (bit_at_and m (bit_not w64 n) bit ∙ ap (min (bit_at m bit)) (bit_at_not w64 n bit fits h))
    ∙ and_test (bit_at m bit) (1 - bit_at n bit) (bit_at-lt m bit) (omega arith)
    ∙ ap (λ t. (bit_at m bit == 1) && t) (not_test (bit_at n bit) (bit_at-lt n bit))

-- ---- a place and its bit
pub place_bit : (set : ActionSet) (place word bit : ℕ) → place ≡ 64 * word + bit → bit < 64 → has_place set place ≡ (bit_at (slice_index set.words word) bit == 1)
unfolding has_place
place_bit set place word bit e h =
    let q : place / 64 ≡ word = omega (arith, e, h) in
    let r : place % 64 ≡ bit = omega (arith, e, h) in
    λ i. bit_at (slice_index set.words (q i)) (r i) == 1

-- the set of which this holds, word by word
pub words_are : (x y z : ℕ) (holds : ℕ → Bool)
    → ((bit : ℕ) → bit < 64 → (bit_at x bit == 1) ≡ holds bit)
    → ((bit : ℕ) → bit < 64 → (bit_at y bit == 1) ≡ holds (64 + bit))
    → ((bit : ℕ) → bit < 64 → (bit_at z bit == 1) ≡ holds (128 + bit))
    → ArePlaces (record { words = x ∷ y ∷ z ∷ [] }) holds
words_are x y z holds p q r place h =
    elim (cases_lt place 64) [
      | inl low ↦ place_bit (record { words = x ∷ y ∷ z ∷ [] }) place 0 place (omega arith) low ∙ p place low
      | inr above ↦ elim (cases_lt place 128) [
        | inl middle ↦ let e : 64 + (place - 64) ≡ place = omega (arith, above) in
            place_bit (record { words = x ∷ y ∷ z ∷ [] }) place 1 (place - 64) (omega (arith, above)) (omega (arith, middle)) ∙ q (place - 64) (omega (arith, middle)) ∙ ap holds e
        | inr high ↦ let e : 128 + (place - 128) ≡ place = omega (arith, high) in
            place_bit (record { words = x ∷ y ∷ z ∷ [] }) place 2 (place - 128) (omega (arith, high)) (omega (arith, h)) ∙ r (place - 128) (omega (arith, h)) ∙ ap holds e
      ]
    ]

-- two sets put together word by word
joined : (op : ℕ → ℕ → ℕ) (both : Bool → Bool → Bool) (a b : ActionSet)
    → ((word bit : ℕ) → word < 3 → bit < 64 → (bit_at (op (slice_index a.words word) (slice_index b.words word)) bit == 1) ≡ both (bit_at (slice_index a.words word) bit == 1) (bit_at (slice_index b.words word) bit == 1))
    → ArePlaces (record { words = op (slice_index a.words 0) (slice_index b.words 0) ∷ op (slice_index a.words 1) (slice_index b.words 1) ∷ op (slice_index a.words 2) (slice_index b.words 2) ∷ [] }) (λ place. both (has_place a place) (has_place b place))
joined op both a b f =
    words_are _ _ _ (λ place. both (has_place a place) (has_place b place))
    (λ bit h. f 0 bit (omega arith) h ∙ sym (λ i. both (place_bit a bit 0 bit (omega arith) h i) (place_bit b bit 0 bit (omega arith) h i)))
    (λ bit h. f 1 bit (omega arith) h ∙ sym (λ i. both (place_bit a (64 + bit) 1 bit (omega arith) h i) (place_bit b (64 + bit) 1 bit (omega arith) h i)))
    (λ bit h. f 2 bit (omega arith) h ∙ sym (λ i. both (place_bit a (128 + bit) 2 bit (omega arith) h i) (place_bit b (128 + bit) 2 bit (omega arith) h i)))

pub union_places : (a b : ActionSet) → ArePlaces (record { words = bit_or (slice_index a.words 0) (slice_index b.words 0) ∷ bit_or (slice_index a.words 1) (slice_index b.words 1) ∷ bit_or (slice_index a.words 2) (slice_index b.words 2) ∷ [] }) (λ place. has_place a place || has_place b place)
union_places a b = joined bit_or (λ s t. s || t) a b (λ word bit _ h. or_bits (slice_index a.words word) (slice_index b.words word) bit)

pub both_places : (a b : ActionSet) → ArePlaces (record { words = bit_and (slice_index a.words 0) (slice_index b.words 0) ∷ bit_and (slice_index a.words 1) (slice_index b.words 1) ∷ bit_and (slice_index a.words 2) (slice_index b.words 2) ∷ [] }) (λ place. has_place a place && has_place b place)
both_places a b = joined bit_and (λ s t. s && t) a b (λ word bit _ h. and_bits (slice_index a.words word) (slice_index b.words word) bit)

pub without_places : (a b : ActionSet) → ((word : ℕ) → word < 3 → slice_index b.words word < 2 ^ 64) → ArePlaces (record { words = bit_and (slice_index a.words 0) (bit_not w64 (slice_index b.words 0)) ∷ bit_and (slice_index a.words 1) (bit_not w64 (slice_index b.words 1)) ∷ bit_and (slice_index a.words 2) (bit_not w64 (slice_index b.words 2)) ∷ [] }) (λ place. has_place a place && not (has_place b place))
without_places a b fits = joined (λ m n. bit_and m (bit_not w64 n)) (λ s t. s && not t) a b (λ word bit w h. without_bits (slice_index a.words word) (slice_index b.words word) bit (fits word w) h)

-- one word is changed
pub changed_places : (set : ActionSet) (word value : ℕ) (holds : ℕ → Bool) → length set.words ≡ 3 → word < 3
    → ((bit : ℕ) → bit < 64 → (bit_at value bit == 1) ≡ holds (64 * word + bit))
    → ((place : ℕ) → place / 64 ≢ word → has_place set place ≡ holds place)
    → ArePlaces (record { words = slice_set set.words word value }) holds
unfolding has_place
changed_places set word value holds three w inside outside place h =
    elim (cases_eq (place / 64) word) [
      | inl same ↦
          let e : 64 * word + place % 64 ≡ place = omega (arith, same) in
          let low : place % 64 < 64 = omega arith in
          ap (λ k. bit_at (slice_index (slice_set set.words word value) k) (place % 64) == 1) same
          ∙ ap (λ v. bit_at v (place % 64) == 1) (get_or-set_same set.words word value 0 (omega (arith, three, w)))
          ∙ inside (place % 64) low
          ∙ ap holds e
      | inr other ↦ ap (λ v. bit_at v (place % 64) == 1) (get_or-set_other set.words word (place / 64) value 0 other) ∙ outside place other
    ]

-- ---- the set of none
pub none_is : ArePlaces (record { words = 0 ∷ 0 ∷ 0 ∷ [] }) (λ place. false)
none_is = words_are 0 0 0 (λ place. false) (λ bit h. clear bit) (λ bit h. clear bit) (λ bit h. clear bit)
  where
    clear : (bit : ℕ) → (bit_at 0 bit == 1) ≡ false
    clear bit = ap (λ b. b == 1) (bit_at-zero bit)
