-- Lemmas for callers: what each change of a pool does to its keys, its worths and its reasons.
use Rattle.std.proofs.Common.{◌≡◌, ◌≢◌, ℕ, zero, suc, ◌<◌, List, [], ◌∷◌, ◌++◌, length, map, get_or, set, replicate, Option, Some, None, arith, refl, ap}
use Rattle.std.proofs.lemmas.List.{map-append}
use Rattle.std.specs.Prelude.{slice_get, option_and_then, option_map}
use Rattle.brake_base.specs.declared.stroke.Key.{Key}
use Rattle.brake_base.specs.declared.stroke.Worth.{Worth}
use Rattle.brake_base.specs.declared.reason.Reason.{Reason}
use Rattle.row_pool.specs.Rows.{Pool, PoolRow, keys, changed_at, worth_at, reason_at, new_row, with_row, with_worth, common_at, noted_reasons, with_notes}
use Rattle.stage_lanes.specs.declared.actions.ActionSet.{ActionSet}

module _ {X : Type 0} where
  pub length-changed_at : (place : ℕ) (change : X → X) (xs : List X) → length (changed_at place change xs) ≡ length xs
  length-changed_at place change [] = refl
  length-changed_at zero change (x ∷ xs) = refl
  length-changed_at (suc place) change (x ∷ xs) = ap suc (length-changed_at place change xs)

  pub slice_get-changed_at_same : (place : ℕ) (change : X → X) (xs : List X) → slice_get (changed_at place change xs) place ≡ option_map change (slice_get xs place)
  slice_get-changed_at_same place change [] = refl
  slice_get-changed_at_same zero change (x ∷ xs) = refl
  slice_get-changed_at_same (suc place) change (x ∷ xs) = slice_get-changed_at_same place change xs

  pub slice_get-changed_at_other : (place : ℕ) (change : X → X) (xs : List X) (k : ℕ) → k ≢ place → slice_get (changed_at place change xs) k ≡ slice_get xs k
  slice_get-changed_at_other place change [] k other = refl
  slice_get-changed_at_other zero change (x ∷ xs) zero other = absurd (other refl)
  slice_get-changed_at_other zero change (x ∷ xs) (suc k) other = refl
  slice_get-changed_at_other (suc place) change (x ∷ xs) zero other = refl
  slice_get-changed_at_other (suc place) change (x ∷ xs) (suc k) other = slice_get-changed_at_other place change xs k (λ same. other (ap suc same))

-- what an element shows, after a change of one element or a new last one
module _ {X Y : Type 0} (shown : X → Option Y) where
  shown_at_changed : (place : ℕ) (change : X → X) (xs : List X) (y : Y) → place < length xs → ((d : X) → shown (change (get_or xs place d)) ≡ Some y) → option_and_then shown (slice_get (changed_at place change xs) place) ≡ Some y
  shown_at_changed place change [] y within changed = let no : ⊥ = omega arith in absurd no
  shown_at_changed zero change (x ∷ xs) y within changed = changed x
  shown_at_changed (suc place) change (x ∷ xs) y within changed = shown_at_changed place change xs y (omega arith) changed

  shown_at_kept : (place : ℕ) (change : X → X) (xs : List X) (k : ℕ) → ((x : X) → shown (change x) ≡ shown x) → option_and_then shown (slice_get (changed_at place change xs) k) ≡ option_and_then shown (slice_get xs k)
  shown_at_kept place change [] k kept = refl
  shown_at_kept zero change (x ∷ xs) zero kept = kept x
  shown_at_kept zero change (x ∷ xs) (suc k) kept = refl
  shown_at_kept (suc place) change (x ∷ xs) zero kept = refl
  shown_at_kept (suc place) change (x ∷ xs) (suc k) kept = shown_at_kept place change xs k kept

  shown_at_push : (xs : List X) (x : X) (k : ℕ) → shown x ≡ None → option_and_then shown (slice_get (xs ++ x ∷ []) k) ≡ option_and_then shown (slice_get xs k)
  shown_at_push [] x zero none = none
  shown_at_push [] x (suc k) none = refl
  shown_at_push (y ∷ xs) x zero none = refl
  shown_at_push (y ∷ xs) x (suc k) none = shown_at_push xs x k none

-- an item that was set is found
pub slice_get-set_same : {X : Type 0} (xs : List X) (i : ℕ) (x : X) → i < length xs → slice_get (set xs i x) i ≡ Some x
slice_get-set_same [] i x within = let no : ⊥ = omega arith in absurd no
slice_get-set_same (y ∷ xs) zero x within = refl
slice_get-set_same (y ∷ xs) (suc i) x within = slice_get-set_same xs i x (omega arith)

-- the others stay
pub slice_get-set_other : {X : Type 0} (xs : List X) (i k : ℕ) (x : X) → k ≢ i → slice_get (set xs i x) k ≡ slice_get xs k
slice_get-set_other [] i k x other = refl
slice_get-set_other (y ∷ xs) zero zero x other = absurd (other refl)
slice_get-set_other (y ∷ xs) zero (suc k) x other = refl
slice_get-set_other (y ∷ xs) (suc i) zero x other = refl
slice_get-set_other (y ∷ xs) (suc i) (suc k) x other = slice_get-set_other xs i k x (λ same. other (ap suc same))

none-replicate : {X : Type 0} (n k : ℕ) → option_and_then (λ (x : Option X). x) (slice_get (replicate n None) k) ≡ None
none-replicate zero k = refl
none-replicate (suc n) zero = refl
none-replicate (suc n) (suc k) = none-replicate n k

-- what a change of one row leaves as it was, it leaves at each row
kept_by_changed_at : {X Y : Type 0} (view : X → Y) (place : ℕ) (change : X → X) → ((x : X) → view (change x) ≡ view x) → (xs : List X) → map view (changed_at place change xs) ≡ map view xs
kept_by_changed_at view place change same [] = refl
kept_by_changed_at view zero change same (x ∷ xs) = ap (λ y. y ∷ map view xs) (same x)
kept_by_changed_at view (suc place) change same (x ∷ xs) = ap (λ ys. view x ∷ ys) (kept_by_changed_at view place change same xs)

pub keys-with_row : (pool : Pool) (key : Key) → keys (with_row pool key) ≡ keys pool ++ key ∷ []
keys-with_row pool key = map-append (λ (row : PoolRow). row.key) pool.rows (new_row pool.actions key ∷ [])

pub keys-with_worth : (pool : Pool) (row : ℕ) (worth : Worth) → keys (with_worth pool row worth) ≡ keys pool
keys-with_worth pool row worth = kept_by_changed_at (λ (r : PoolRow). r.key) row (λ r. record r { worth = Some worth }) (λ r. refl) pool.rows

pub keys-with_notes : (pool : Pool) (row : ℕ) (notes : ActionSet) → keys (with_notes pool row notes) ≡ keys pool
keys-with_notes pool row notes =
    kept_by_changed_at (λ (r : PoolRow). r.key) row (λ r. record r { reasons = noted_reasons pool.actions (common_at pool r.key.mask) notes }) (λ r. refl) pool.rows

-- the reason that a row has for an action
abbrev reason_for : ℕ → PoolRow → Option Reason
reason_for action r = option_and_then (λ (reason : Option Reason). reason) (slice_get r.reasons action)

module _ (pool : Pool) (row : ℕ) where
  pub worth_at-with_row : (key : Key) → worth_at (with_row pool key) row ≡ worth_at pool row
  worth_at-with_row key = shown_at_push (λ (r : PoolRow). r.worth) pool.rows (new_row pool.actions key) row refl

  pub reason_at-with_row : (key : Key) (action : ℕ) → reason_at (with_row pool key) row action ≡ reason_at pool row action
  reason_at-with_row key action = shown_at_push (reason_for action) pool.rows (new_row pool.actions key) row (none-replicate pool.actions action)

  pub worth_at-with_worth_same : (worth : Worth) → row < length pool.rows → worth_at (with_worth pool row worth) row ≡ Some worth
  worth_at-with_worth_same worth within =
      shown_at_changed (λ (r : PoolRow). r.worth) row (λ r. record r { worth = Some worth }) pool.rows worth within (λ d. refl)

  pub worth_at-with_worth_other : (k : ℕ) (worth : Worth) → k ≢ row → worth_at (with_worth pool row worth) k ≡ worth_at pool k
  worth_at-with_worth_other k worth other =
      ap (option_and_then (λ (r : PoolRow). r.worth)) (slice_get-changed_at_other row (λ r. record r { worth = Some worth }) pool.rows k other)

  pub reason_at-with_worth : (k action : ℕ) (worth : Worth) → reason_at (with_worth pool row worth) k action ≡ reason_at pool k action
  reason_at-with_worth k action worth =
      shown_at_kept (reason_for action) row (λ r. record r { worth = Some worth }) pool.rows k (λ r. refl)

  pub worth_at-with_notes : (k : ℕ) (notes : ActionSet) → worth_at (with_notes pool row notes) k ≡ worth_at pool k
  worth_at-with_notes k notes =
      shown_at_kept (λ (r : PoolRow). r.worth) row (λ r. record r { reasons = noted_reasons pool.actions (common_at pool r.key.mask) notes }) pool.rows k (λ r. refl)

  pub reason_at-with_notes_other : (k action : ℕ) (notes : ActionSet) → k ≢ row → reason_at (with_notes pool row notes) k action ≡ reason_at pool k action
  reason_at-with_notes_other k action notes other =
      ap (option_and_then (reason_for action)) (slice_get-changed_at_other row (λ r. record r { reasons = noted_reasons pool.actions (common_at pool r.key.mask) notes }) pool.rows k other)

pub ruleset pool_lemmas = (
  length-changed_at,
  keys-with_row,
  keys-with_worth,
  keys-with_notes,
  worth_at-with_row,
  reason_at-with_row,
  worth_at-with_worth_same,
  worth_at-with_worth_other,
  reason_at-with_worth,
  worth_at-with_notes,
  reason_at-with_notes_other,
)
