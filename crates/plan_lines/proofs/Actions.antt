-- The action of a number.
use Rattle.std.proofs.Common.{◌≡◌, ℕ, ◌*◌, ◌/◌, ◌%◌, ◌<◌, ◌≤◌, ◌==◌, sym, ◌∙◌, arith, if◌then◌else◌}
use Rattle.std.proofs.Math.Nat.{mod-lt, div-lt_iff_lt-mul}
use Rattle.std.proofs.lemmas.Grind.{common_steps}
use Rattle.brake_base.specs.declared.stroke.Back.TheVariants.{Parent, Child}
use Rattle.brake_base.specs.declared.stroke.Action.{Action}
use Rattle.brake_base.specs.Actions.{IsActionAmong, back_number, number_of_action}
use Rattle.brake_base.proofs.Actions.{same_number, split_number}
use Rattle.cert_lines.specs.Lines.{action_at}

pub side_is : (n : ℕ) → back_number (if n % 2 == 0 then Parent else Child) ≡ n % 2
side_is n = grind (arith, common_steps)

pub in_range : (stages number : ℕ) → number < 24 * stages → IsActionAmong 12 stages (action_at stages number)
in_range stages number below =
    let some : 0 < stages = omega arith in
    let side : number / stages < 24 = (div-lt_iff_lt-mul some).1 (omega arith) in
    record { first = omega arith; last = omega arith; stage = mod-lt number some }

-- an action of a number is that of the definition
pub action_is : (stages number : ℕ) (a : Action) → number < 24 * stages → IsActionAmong 12 stages a → number_of_action stages a ≡ number → a ≡ action_at stages number
action_is stages number a below fits is =
    same_number stages a (action_at stages number) fits (in_range stages number below) (is ∙ sym (split_number stages number _ (side_is (number / stages))))

-- the number of an action of so many bends, where there are at most 12
pub few_actions : (number bends stages : ℕ) → bends ≤ 12 → number < 2 * bends * stages → number < 24 * stages
few_actions number bends stages few below = grind (arith, common_steps)
