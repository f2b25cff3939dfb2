use Rattle.std.proofs.Common.{◌≡◌, ℕ, ◌≤◌, subst, arith}
use Rattle.brake_base.specs.Turns.{turn_of}
use Rattle.handling_cost.specs.declared.attitudes.Change.TheVariants.{Flip, Roll}
use Rattle.handling_cost.specs.StepCost.{kind_of_change}
use Rattle.handling_cost.proofs.Changes.{is_flip, is_roll}
use Rattle.handling_cost.proofs.attitudes.change_of_tilt.Goals as goal

pub returns-then-number-lt8 : goal.returns-then-number-lt8
returns-then-number-lt8 c =
    let same = c.number.ensures.value in
    let first : 4 ≤ c.number.result = omega (arith, same, c.requires) in
    let last : c.number.result ≤ 7 = omega (arith, c.if-number-lt8.true) in
    subst (λ (n : ℕ). Flip ≡ kind_of_change (turn_of n)) same (is_flip c.number.result c.number.ensures.below first last)

pub returns-else-number-lt8 : goal.returns-else-number-lt8
returns-else-number-lt8 c =
    let same = c.number.ensures.value in
    let first : 8 ≤ c.number.result = omega (arith, c.if-number-lt8.false) in
    subst (λ (n : ℕ). Roll ≡ kind_of_change (turn_of n)) same (is_roll c.number.result c.number.ensures.below first)
