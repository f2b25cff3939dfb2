-- The order of keys is that of their sets and places.
use Rattle.std.proofs.Common.{◌≡◌, ◌≢◌, ◌⊎◌, ℕ, suc, ◌+◌, ◌*◌, ◌/◌, ◌%◌, ◌<◌, ◌≤◌, List, length, get_or, Some, None, arith, inl, inr, refl, sym, ◌∙◌, ap, subst}
use Rattle.std.proofs.Math.Nat.{mul-le-mul_left, mul_comm, mul-suc}
use Rattle.std.proofs.lemmas.Bool.{cases_lt}
use Rattle.std.proofs.lemmas.Bool.Decides.{eqb_tells}
use Rattle.std.proofs.lemmas.Option.{same_Some, none-some, slice_get-get_or, slice_get_within}
use Rattle.std.specs.Prelude.{slice_get, All}
use Rattle.brake_base.specs.declared.stroke.Key.{Key}
use Rattle.brake_base.specs.Keys.{KeyIsBefore}
use Rattle.row_pool.specs.Index.{Blocks, row_at, HasPlace, key_place, IsIndexed, HasNoRow, IsFirstIn, HaveNoRows, IsFirstOf}
use Rattle.row_pool.proofs.KeyLemmas.{place_below}

-- whole stages come before what is at a later attitude
row_step : (stages a b s : ℕ) → a < b → s < stages → a * stages + s < b * stages
row_step stages a b s less low =
    let product : stages * suc a ≤ stages * b = mul-le-mul_left stages less in
    let spread : stages * suc a ≡ a * stages + stages = mul-suc stages a ∙ ap (λ n. n + stages) (mul_comm stages a) in
    let turned : stages * b ≡ b * stages = mul_comm stages b in
    omega (arith, product, spread, turned, low)

module _ (places : ℕ) where
  -- a key is at a place of a set, or after it
  abbrev pub Reaches : ℕ → ℕ → Key → Type 0
  Reaches set from key = (set < key.mask.0) ⊎ ((key.mask.0 ≡ set) × (from ≤ key_place places key))

  pub reach_after : (a b : Key) → HasPlace places a → HasPlace places b → KeyIsBefore a b → Reaches a.mask.0 (key_place places a + 1) b
  reach_after a b has_a has_b (inl mask) = inl mask
  reach_after a b has_a has_b (inr (mask, inl turn)) =
      let step = row_step (places / 24) a.attitude b.attitude a.stage turn has_a.stage in
      inr (sym mask, omega (arith, step))
  reach_after a b has_a has_b (inr (mask, inr (turn, inl stage))) =
      let same = ap (λ (n : ℕ). n * (places / 24)) turn in
      inr (sym mask, omega (arith, same, stage))
  reach_after a b has_a has_b (inr (mask, inr (turn, inr (stage, never)))) = absurd never

  pub after_reach : (a b : Key) → HasPlace places a → HasPlace places b → Reaches a.mask.0 (key_place places a + 1) b → KeyIsBefore a b
  after_reach a b has_a has_b (inl mask) = inl mask
  after_reach a b has_a has_b (inr (mask, place)) = inr (sym mask, by_turn)
    where
      by_turn : (a.attitude < b.attitude) ⊎ ((a.attitude ≡ b.attitude) × ((a.stage < b.stage) ⊎ ((a.stage ≡ b.stage) × ⊥)))
      by_turn = elim (cases_lt a.attitude b.attitude) [
        | inl less ↦ inl less
        | inr more ↦ elim (eqb_tells a.attitude b.attitude) [
          | inl same ↦
              let equal = ap (λ (n : ℕ). n * (places / 24)) same.1 in
              inr (same.1, inl (omega (arith, equal, place)))
          | inr differ ↦
              let other = differ.1 in
              let step = row_step (places / 24) b.attitude a.attitude b.stage (omega (arith, more, other)) has_b.stage in
              absurd (omega (arith, step, place))
        ]
      ]

-- an index holds all of some keys
pub record ArePlaced (index : Blocks) (keys : List Key) : Type 0 where
  pub indexed : IsIndexed index keys
  pub whole : index.places % 24 ≡ 0
  pub each : All (HasPlace index.places) keys

module _ (index : Blocks) (keys : List Key) (placed : ArePlaced index keys) where
  -- each key is entered
  key_here : (row : ℕ) (key : Key) → slice_get keys row ≡ Some key → get_or keys row key ≡ key
  key_here row key at = same_Some (get_or keys row key) key (sym (slice_get-get_or keys row key (slice_get_within keys row key at)) ∙ at)

  pub key_has : (row : ℕ) (key : Key) → slice_get keys row ≡ Some key → HasPlace index.places key
  key_has row key at = subst (HasPlace index.places) (key_here row key at) (placed.each row key (slice_get_within keys row key at))

  key_entered : (row : ℕ) (key : Key) → slice_get keys row ≡ Some key → row_at index key.mask.0 (key_place index.places key) ≡ Some row
  key_entered row key at =
      let within = slice_get_within keys row key at in
      ap (λ (k : Key). row_at index k.mask.0 (key_place index.places k)) (sym (key_here row key at))
      ∙ placed.indexed.each row key within (placed.each row key within)

  pub below : (row : ℕ) (key : Key) → slice_get keys row ≡ Some key → key_place index.places key < index.places
  below row key at = place_below index.places key placed.whole (key_has row key at)

  -- no key is where nothing was entered
  none_here : (row : ℕ) (key : Key) → slice_get keys row ≡ Some key → row_at index key.mask.0 (key_place index.places key) ≡ None → ⊥
  none_here row key at none = none-some row (sym none ∙ key_entered row key at)

  pub none_in : (set from until row : ℕ) (key : Key) → slice_get keys row ≡ Some key → HasNoRow index set from until → key.mask.0 ≡ set → from ≤ key_place index.places key → key_place index.places key < until → ⊥
  none_in set from until row key at none mask later low =
      none_here row key at (ap (λ (n : ℕ). row_at index n (key_place index.places key)) mask ∙ none (key_place index.places key) later low)

  pub none_of : (from until row : ℕ) (key : Key) → slice_get keys row ≡ Some key → HaveNoRows index from until → from ≤ key.mask.0 → key.mask.0 < until → ⊥
  none_of from until row key at none later low = none_in key.mask.0 0 index.places row key at (none key.mask.0 later low) refl (omega arith) (below row key at)

  -- the key of the first row of a set from a place on
  module _ (set from next : ℕ) (first : IsFirstIn index set from next) (key : Key) (at : slice_get keys next ≡ Some key) where
    there : (key.mask.0 ≡ set) × (key_place index.places key ≡ first.place)
    there =
        let is = placed.indexed.only set first.place next key first.low first.here in
        let same = key_here next key at in
        (ap (λ (k : Key). k.mask.0) (sym same) ∙ is.2, ap (key_place index.places) (sym same) ∙ is.3)

    pub reaches_first : Reaches index.places set from key
    reaches_first = let place = there.1 in let later = first.later in inr (there.0, omega (arith, place, later))

    -- other keys of the set from the place on come after it, and so do those of later sets
    pub least_in : (row : ℕ) (other : Key) → slice_get keys row ≡ Some other → row ≢ next → Reaches index.places set from other → Reaches index.places key.mask.0 (key_place index.places key + 1) other
    least_in row other its differ (inl later) = let mask = there.0 in inl (omega (arith, mask, later))
    least_in row other its differ (inr (mask, later)) = elim (cases_lt (key_place index.places other) first.place) [
      | inl low ↦ absurd (none_in set from first.place row other its first.none_before mask later low)
      | inr high ↦ elim (eqb_tells (key_place index.places other) first.place) [
        | inl same ↦
            let read : row_at index other.mask.0 (key_place index.places other) ≡ Some next = (λ i. row_at index (mask i) (same.1 i)) ∙ first.here in
            absurd (differ (same_Some row next (sym (key_entered row other its) ∙ read)))
        | inr above ↦
            let place = there.1 in
            let no = above.1 in
            inr (mask ∙ sym there.0, omega (arith, place, high, no))
      ]
    ]

  pub next_within : (set from next : ℕ) → IsFirstIn index set from next → next < length keys
  next_within set from next first = (placed.indexed.only set first.place next no_key first.low first.here).0
    where
      no_key : Key
      no_key = record { mask = record { 0 = 0 }; attitude = 0; stage = 0 }

  -- the key of the first row of the sets from one on
  module _ (from next : ℕ) (first : IsFirstOf index from next) (key : Key) (at : slice_get keys next ≡ Some key) where
    pub reaches_of : from ≤ key.mask.0
    reaches_of = let mask = (there first.set 0 next first.first key at).0 in let later = first.later in omega (arith, mask, later)

    pub least_of : (row : ℕ) (other : Key) → slice_get keys row ≡ Some other → row ≢ next → from ≤ other.mask.0 → Reaches index.places key.mask.0 (key_place index.places key + 1) other
    least_of row other its differ later = elim (cases_lt other.mask.0 first.set) [
      | inl low ↦ absurd (none_of from first.set row other its first.none_before later low)
      | inr high ↦ least_in first.set 0 next first.first key at row other its differ (by_set high)
    ]
      where
        by_set : first.set ≤ other.mask.0 → Reaches index.places first.set 0 other
        by_set high = elim (eqb_tells other.mask.0 first.set) [
          | inl same ↦ inr (same.1, omega arith)
          | inr above ↦ let no = above.1 in inl (omega (arith, high, no))
        ]
