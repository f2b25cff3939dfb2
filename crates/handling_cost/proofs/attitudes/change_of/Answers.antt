use Rattle.std.proofs.Common.{◌≡◌, ℕ, subst}
use Rattle.brake_base.specs.Turns.{turn_of}
use Rattle.handling_cost.specs.declared.attitudes.Change.TheVariants.{Same, Quarter, Half}
use Rattle.handling_cost.specs.StepCost.{kind_of_change}
use Rattle.handling_cost.proofs.Changes.{is_same, is_half, is_quarter}
use Rattle.handling_cost.proofs.attitudes.change_of.Goals as goal

pub returns-in-0 : goal.returns-in-0
returns-in-0 c = subst (λ (n : ℕ). Same ≡ kind_of_change (turn_of n)) c.number.ensures.value (is_same c.number.result c.in-0.is)

pub returns-in-2 : goal.returns-in-2
returns-in-2 c = subst (λ (n : ℕ). Half ≡ kind_of_change (turn_of n)) c.number.ensures.value (is_half c.number.result c.in-2.is)

pub returns-in-1 : goal.returns-in-1
returns-in-1 c = subst (λ (n : ℕ). Quarter ≡ kind_of_change (turn_of n)) c.number.ensures.value (is_quarter c.number.result c.in-1.is)
