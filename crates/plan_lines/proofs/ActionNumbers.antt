-- The numbers of a job's actions.
use Rattle.std.proofs.Common.{◌≡◌, ℕ, ◌+◌, ◌-◌, ◌*◌, ◌/◌, ◌<◌, ◌≤◌, arith, refl}
use Rattle.std.proofs.Math.Nat.{mod-lt, div-lt_iff_lt-mul, mul-le-mul_right}
use Rattle.std.proofs.lemmas.Grind.{common_steps}
use Rattle.brake_base.specs.declared.stroke.Back.{Back}
use Rattle.brake_base.specs.declared.stroke.Back.TheVariants.{Parent, Child}
use Rattle.brake_base.specs.declared.stroke.Action.{Action}
use Rattle.brake_base.specs.Actions.{IsActionAmong, back_number, number_of_action}
use Rattle.brake_base.proofs.Actions.{split_number}
use Rattle.cert_lines.specs.Lines.{action_at}
use Rattle.plan_lines.proofs.Actions.{action_is, side_is}

-- the number of the action of a number
pub number_is : (stages number : ℕ) → number_of_action stages (action_at stages number) ≡ number
number_is stages number = split_number stages number _ (side_is (number / stages))

small_side : (back : Back) → back_number back ≤ 1
small_side Parent = omega arith
small_side Child = omega arith

-- an action's number is below that of all actions of so many bends
pub number_below : (bends stages : ℕ) (a : Action) → 1 ≤ a.bend → a.bend ≤ bends → a.stage < stages → number_of_action stages a < 2 * bends * stages
unfolding number_of_action
number_below bends stages a first last stage =
    let side = small_side a.back in
    let m : ℕ = (a.bend - 1) * 2 + back_number a.back in
    let fits : m + 1 ≤ 2 * bends = omega (arith, first, last, side) in
    let most : (m + 1) * stages ≤ 2 * bends * stages = mul-le-mul_right stages fits in
    let split : (m + 1) * stages ≡ m * stages + stages = grind (arith, common_steps) in
    omega (arith, most, split, stage)

-- an action is that of its number
pub action_of_number : (stages : ℕ) (a : Action) → IsActionAmong 12 stages a → number_of_action stages a < 24 * stages → a ≡ action_at stages (number_of_action stages a)
action_of_number stages a fits below = action_is stages (number_of_action stages a) a below fits refl

-- an action of a number is one of so many bends
pub bend_of_number : (bends stages number : ℕ) → number < 2 * bends * stages → (1 ≤ (action_at stages number).bend) × ((action_at stages number).bend ≤ bends) × ((action_at stages number).stage < stages)
bend_of_number bends stages number below =
    let some : 0 < stages = grind (arith, common_steps) in
    let side : number / stages < 2 * bends = (div-lt_iff_lt-mul some).1 below in
    (omega arith, omega (arith, side), mod-lt number some)
