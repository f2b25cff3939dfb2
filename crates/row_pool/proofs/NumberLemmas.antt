-- Actions by number and by place.
use Rattle.std.proofs.Common.{◌≡◌, ℕ, suc, ◌+◌, ◌-◌, ◌*◌, ◌/◌, ◌%◌, ◌<◌, ◌≤◌, ◌==◌, if◌then◌else◌, sym, ◌∙◌, ap, arith, inl, inr}
use Rattle.std.proofs.Math.Nat.{mod-lt, div-lt_iff_lt-mul, mul-le-mul_left, mul_comm, mul-suc}
use Rattle.std.proofs.lemmas.Nat.{same_from_place, div-add-mod'}
use Rattle.std.proofs.lemmas.Bool.{cases_lt}
use Rattle.std.proofs.lemmas.Grind.{common_steps}
use Rattle.brake_base.specs.declared.stroke.Back.{Back}
use Rattle.brake_base.specs.declared.stroke.Back.TheVariants.{Parent, Child}
use Rattle.brake_base.specs.declared.stroke.Action.{Action}
use Rattle.brake_base.specs.Actions.{IsActionAmong, back_number, number_of_action}
use Rattle.brake_base.proofs.Actions.{same_number, split_number}
use Rattle.stage_lanes.specs.ActionSets.{place_of}
use Rattle.row_pool.specs.Rows.{place_at}

-- the action of a number
abbrev pub action_at : ℕ → ℕ → Action
action_at stages number = record {
  bend = number / stages / 2 + 1;
  back = if number / stages % 2 == 0 then Parent else Child;
  stage = number % stages;
}

side_is : (n : ℕ) → back_number (if n % 2 == 0 then Parent else Child) ≡ n % 2
side_is n = grind (arith, common_steps)

pub action_among : (stages number : ℕ) → number < 24 * stages → IsActionAmong 12 stages (action_at stages number)
action_among stages number below =
    let some : 0 < stages = omega arith in
    let side : number / stages < 24 = (div-lt_iff_lt-mul some).1 (omega arith) in
    record { first = omega arith; last = omega arith; stage = mod-lt number some }

pub number_is : (stages number : ℕ) → number_of_action stages (action_at stages number) ≡ number
number_is stages number = split_number stages number _ (side_is (number / stages))

-- an action stands at the place of its number
pub place_is : (stages : ℕ) (action : Action) → IsActionAmong 12 stages action → place_at stages (number_of_action stages action) ≡ place_of action
unfolding number_of_action
place_is stages action among =
    let side = (action.bend - 1) * 2 + back_number action.back in
    let number = side * stages + action.stage in
    let stage = among.stage in
    let some : 0 < stages = omega (arith, stage) in
    let parts = same_from_place (number / stages) (number % stages) side action.stage stages (mod-lt number some) stage (div-add-mod' number stages) in
    λ i. parts.0 i * 8 + parts.1 i

pub place_of_number : (stages number : ℕ) → number < 24 * stages → place_of (action_at stages number) ≡ place_at stages number
place_of_number stages number below = sym (place_is stages (action_at stages number) (action_among stages number below)) ∙ ap (place_at stages) (number_is stages number)

-- on a machine of fewer stages actions have the order of their places
pub number_order : (stages : ℕ) (a b : Action) → stages ≤ 8 → IsActionAmong 12 stages a → IsActionAmong 12 stages b → place_of a ≤ place_of b → number_of_action stages a ≤ number_of_action stages b
unfolding number_of_action
number_order stages a b few first second le =
    let m = (a.bend - 1) * 2 + back_number a.back in
    let n = (b.bend - 1) * 2 + back_number b.back in
    elim (cases_lt m n) [
      | inl lower ↦
          let whole : stages * suc m ≤ stages * n = mul-le-mul_left stages lower in
          let spread : stages * suc m ≡ m * stages + stages = mul-suc stages m ∙ ap (λ k. k + stages) (mul_comm stages m) in
          let over : stages * n ≡ n * stages = mul_comm stages n in
          omega (arith, whole, spread, over, first.stage)
      | inr above ↦
          let e : n ≡ m = omega (arith, above, le, first.stage, second.stage, few) in
          let f : a.stage ≤ b.stage = omega (arith, e, le) in
          rw e (omega (arith, f))
    ]

-- what is at an earlier number is at an earlier place
pub place_before : (stages number : ℕ) (action : Action) → stages ≤ 8 → number < 24 * stages → IsActionAmong 12 stages action → number < number_of_action stages action → place_at stages number < place_of action
place_before stages number action few below among before = elim (cases_lt (place_at stages number) (place_of action)) [
  | inl low ↦ low
  | inr high ↦
      let here = place_of_number stages number below in
      let order = number_order stages action (action_at stages number) few among (action_among stages number below) (omega (arith, here, high)) in
      let its = number_is stages number in
      absurd (omega (arith, order, its, before))
]

pub place_from : (stages number : ℕ) (action : Action) → stages ≤ 8 → number < 24 * stages → IsActionAmong 12 stages action → number_of_action stages action ≤ number → place_of action ≤ place_at stages number
place_from stages number action few below among from = elim (cases_lt (place_at stages number) (place_of action)) [
  | inl low ↦
      let here = place_of_number stages number below in
      let own = action_among stages number below in
      let order = number_order stages (action_at stages number) action few own among (omega (arith, here, low)) in
      let its = number_is stages number in
      let one : action_at stages number ≡ action = same_number stages (action_at stages number) action own among (omega (arith, order, its, from)) in
      let same = ap place_of one in
      absurd (omega (arith, same, here, low))
  | inr high ↦ high
]

-- a number's place in a set, and its stage there
mod_of : (side stage : ℕ) → stage < 8 → (side * 8 + stage) % 8 ≡ stage
mod_of side stage low = omega (arith, low)

pub stage_of_place : (stages number : ℕ) → 0 < stages → stages ≤ 8 → place_at stages number % 8 < stages
stage_of_place stages number some few =
    let low = mod-lt number some in
    let e = mod_of (number / stages) (number % stages) (omega (arith, low, few)) in
    omega (arith, e, low)

pub place_low : (stages number : ℕ) → stages ≤ 8 → number < 24 * stages → place_at stages number < 192
place_low stages number few below =
    let some : 0 < stages = omega (arith, below) in
    let side : number / stages < 24 = (div-lt_iff_lt-mul some).1 (omega (arith, below)) in
    let low = mod-lt number some in
    omega (arith, side, low, few)

back_low : (back : Back) → back_number back < 2
back_low Parent = omega arith
back_low Child = omega arith

pub place_below : (action : Action) → IsActionAmong 12 8 action → place_of action < 192
unfolding number_of_action
place_below action among =
    let back = back_low action.back in
    let first = among.first in
    let last = among.last in
    let stage = among.stage in
    omega (arith, back, first, last, stage)

-- the stage of an action at its place
pub stage_is : (action : Action) → action.stage < 8 → place_of action % 8 ≡ action.stage
unfolding number_of_action
stage_is action low = omega (arith, low)
