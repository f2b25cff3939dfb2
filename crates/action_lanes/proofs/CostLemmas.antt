-- Costs by place and by side.
use Rattle.std.proofs.Common.{◌≡◌, ◌≢◌, ℕ, ◌+◌, ◌*◌, ◌/◌, ◌%◌, ◌<◌, ◌≤◌, ◌⊎◌, Bool, true, false, nat_lt, ◌==◌, min, IsTrue, if◌then◌else◌, List, [], length, get_or, set, replicate, slice_index, slice_set, ap, sym, ◌∙◌, arith, inl, inr, true≢false}
use Rattle.std.proofs.lemmas.List.{get_or-replicate, get_or-set_same, get_or-set_other}
use Rattle.std.proofs.lemmas.Bool.{cases_lt, cases_eq}
use Rattle.brake_base.specs.declared.mask.Mask.{Mask}
use Rattle.brake_base.specs.declared.stroke.Action.{Action}
use Rattle.brake_base.specs.Masks.{has}
use Rattle.brake_base.specs.Actions.{number_of_action}
use Rattle.stage_lanes.specs.declared.costs.StageCosts.{StageCosts}
use Rattle.stage_lanes.specs.Lanes.{AreLanes}
use Rattle.stage_lanes.specs.ActionSets.{place_of, side_of}
use Rattle.action_lanes.specs.declared.costs.ActionCosts.{ActionCosts}
use Rattle.action_lanes.specs.Costs.{lanes_at, cost_at, AreCosts, is_of}

pub test_same : (m : ℕ) → (m == m) ≡ true
test_same m = grind arith

pub test_apart : (m n : ℕ) → m ≢ n → (m == n) ≡ false
test_apart m n h = grind arith

pub yes : (m n : ℕ) → m < n → true ≡ nat_lt m n
yes m n h = grind arith

pub no : (m n : ℕ) → n ≤ m → false ≡ nat_lt m n
no m n h = grind arith

pub when_same : (m n x y : ℕ) → m ≡ n → (if m == n then x else y) ≡ x
when_same m n x y e = ap (λ t. if t then x else y) (ap (λ k. k == n) e ∙ test_same n)

pub when_apart : (m n x y : ℕ) → m ≢ n → (if m == n then x else y) ≡ y
when_apart m n x y h = ap (λ t. if t then x else y) (test_apart m n h)

pub place_is : (action : Action) → place_of action ≡ 8 * side_of action.bend action.back + action.stage
unfolding number_of_action
place_is action = omega arith

pub lane_is : (costs : ActionCosts) (side stage : ℕ) → stage < 8
    → slice_index (lanes_at costs side) stage ≡ cost_at costs (8 * side + stage)
unfolding cost_at
lane_is costs side stage h =
    let q : side ≡ (8 * side + stage) / 8 = omega (arith, h) in
    let r : stage ≡ (8 * side + stage) % 8 = omega (arith, h) in
    λ i. slice_index (lanes_at costs (q i)) (r i)

pub all_costs : (lanes : StageCosts) (cost : ℕ) → AreLanes lanes.0 (λ stage. cost)
    → AreCosts (record { 0 = replicate 24 lanes }) (λ place. cost)
unfolding cost_at
all_costs lanes cost same place h =
    ap (λ x. slice_index x.0 (place % 8)) (get_or-replicate 24 (place / 8) lanes (record { 0 = [] }) (omega (arith, h)))
    ∙ same (place % 8) (omega arith)

pub set_costs : (costs : ActionCosts) (side : ℕ) (lanes : StageCosts) → length costs.0 ≡ 24 → side < 24
    → AreCosts (record { 0 = slice_set costs.0 side lanes })
    (λ place. if place / 8 == side then slice_index lanes.0 (place % 8) else cost_at costs place)
unfolding cost_at
set_costs costs side lanes long h place low = elim (cases_eq (place / 8) side) [
  | inl same ↦
      ap (λ n. slice_index (get_or (set costs.0 side lanes) n (record { 0 = [] })).0 (place % 8)) same
      ∙ ap (λ x. slice_index x.0 (place % 8)) (get_or-set_same costs.0 side lanes (record { 0 = [] }) (omega (arith, long, h)))
      ∙ sym (when_same (place / 8) side (slice_index lanes.0 (place % 8)) (slice_index (lanes_at costs (place / 8)) (place % 8)) same)
  | inr apart ↦
      ap (λ x. slice_index x.0 (place % 8)) (get_or-set_other costs.0 side (place / 8) lanes (record { 0 = [] }) apart)
      ∙ sym (when_apart (place / 8) side (slice_index lanes.0 (place % 8)) (slice_index (lanes_at costs (place / 8)) (place % 8)) apart)
]

-- a side is set with one cost changed
pub set_one : (old new : ActionCosts) (lanes changed : List ℕ) (side stage cost place_at : ℕ) → stage < 8 → place_at ≡ 8 * side + stage
    → AreLanes lanes (λ t. cost_at old (8 * side + t))
    → AreLanes changed (λ t. if t == stage then cost else slice_index lanes t)
    → AreCosts new (λ place. if place / 8 == side then slice_index changed (place % 8) else cost_at old place)
    → AreCosts new (λ place. if place == place_at then cost else cost_at old place)
set_one old new lanes changed side stage cost place_at h e before after set place low =
    set place low ∙ elim (cases_eq (place / 8) side) [
      | inl same ↦
          when_same (place / 8) side (slice_index changed (place % 8)) (cost_at old place) same ∙ after (place % 8) (omega arith)
          ∙ elim (cases_eq (place % 8) stage) [
            | inl here ↦
                when_same (place % 8) stage cost (slice_index lanes (place % 8)) here
                ∙ sym (when_same place place_at cost (cost_at old place) (omega (arith, e, same, here)))
            | inr other ↦
                let its : 8 * side + place % 8 ≡ place = omega (arith, same) in
                when_apart (place % 8) stage cost (slice_index lanes (place % 8)) other
                ∙ before (place % 8) (omega arith) ∙ ap (cost_at old) its
                ∙ sym (when_apart place place_at cost (cost_at old place) (λ f. other (omega (arith, e, f, h))))
          ]
      | inr apart ↦
          when_apart (place / 8) side (slice_index changed (place % 8)) (cost_at old place) apart
          ∙ sym (when_apart place place_at cost (cost_at old place) (λ f. apart (omega (arith, e, f, h))))
    ]

-- ---- the sum of two
-- the sides before a side are summed up, the others are blank
pub record AreSummed (bends : Mask) (one two : ActionCosts) (sides : ℕ) (sums : ActionCosts) : Type 0 where
  pub done : (place : ℕ) → place < 192 → place / 8 < sides
      → cost_at sums place ≡ (if is_of bends place then cost_at one place + cost_at two place else 536870912)
  pub blank : (place : ℕ) → place < 192 → sides ≤ place / 8 → cost_at sums place ≡ 536870912

pub none_summed : (bends : Mask) (one two sums : ActionCosts) → AreCosts sums (λ place. 536870912) → AreSummed bends one two 0 sums
none_summed bends one two sums all = record {
  done = λ place h low. absurd (omega (arith, low));
  blank = λ place h past. all place h;
}

bend_of : (bends : Mask) (side place : ℕ) (t : Bool) → place / 8 ≡ side → has bends (side / 2 + 1) ≡ t → is_of bends place ≡ t
bend_of bends side place t e its = let f : place / 16 + 1 ≡ side / 2 + 1 = omega (arith, e) in ap (has bends) f ∙ its

pub all_summed : (bends : Mask) (one two : ActionCosts) (sides : ℕ) (sums : ActionCosts) → 24 ≤ sides → AreSummed bends one two sides sums
    → AreCosts sums (λ place. if is_of bends place then cost_at one place + cost_at two place else 536870912)
all_summed bends one two sides sums past all place h = all.done place h (omega (arith, h, past))

-- ---- the least
-- each lane is the least of its stage, at the sides before a side
pub record AreLow (bends : Mask) (costs : ActionCosts) (sides : ℕ) (low : List ℕ) : Type 0 where
  pub capped : (stage : ℕ) → stage < 8 → slice_index low stage ≤ 536870912
  pub least : (place : ℕ) → place < 192 → place / 8 < sides → IsTrue (is_of bends place) → slice_index low (place % 8) ≤ cost_at costs place
  pub attained : (stage : ℕ) → stage < 8 → (slice_index low stage ≡ 536870912)
      ⊎ ((place : ℕ) × (place < 192) × IsTrue (is_of bends place) × (cost_at costs place ≡ slice_index low stage))

pub side_taken : (bends : Mask) (costs : ActionCosts) (side : ℕ) (low next lanes : List ℕ) → side < 24 → has bends (side / 2 + 1) ≡ true
    → AreLanes lanes (λ stage. cost_at costs (8 * side + stage))
    → AreLanes next (λ stage. min (slice_index low stage) (slice_index lanes stage))
    → AreLow bends costs side low → AreLow bends costs (side + 1) next
side_taken bends costs side low next lanes h its p both before = record {
  capped = λ stage s. let e = both stage s in let c = before.capped stage s in omega (arith, e, c);
  least = λ place l past of. let e = both (place % 8) (omega arith) in elim (cases_eq (place / 8) side) [
    | inl same ↦
        let at : 8 * side + place % 8 ≡ place = omega (arith, same) in
        let f = p (place % 8) (omega arith) ∙ ap (cost_at costs) at in
        omega (arith, e, f)
    | inr apart ↦ let c = before.least place l (omega (arith, past, apart)) of in omega (arith, e, c)
  ];
  attained = λ stage s. let e = both stage s in elim (cases_lt (slice_index lanes stage) (slice_index low stage)) [
    | inl less ↦
        inr (8 * side + stage, omega (arith, h, s), bend_of bends side (8 * side + stage) true (omega (arith, s)) its, (let f = p stage s in omega (arith, e, f, less)))
    | inr more ↦
        let same : slice_index low stage ≡ slice_index next stage = omega (arith, e, more) in
        elim (before.attained stage s) [
          | inl top ↦ inl (sym same ∙ top)
          | inr found ↦ inr (found.0, found.1, found.2, found.3 ∙ same)
        ]
  ];
}

pub side_skipped : (bends : Mask) (costs : ActionCosts) (side : ℕ) (low : List ℕ) → has bends (side / 2 + 1) ≡ false
    → AreLow bends costs side low → AreLow bends costs (side + 1) low
side_skipped bends costs side low its before = record {
  capped = before.capped;
  least = λ place l past of. elim (cases_eq (place / 8) side) [
    | inl same ↦ absurd (true≢false (sym of ∙ bend_of bends side place false same its))
    | inr apart ↦ before.least place l (omega (arith, past, apart)) of
  ];
  attained = before.attained;
}
