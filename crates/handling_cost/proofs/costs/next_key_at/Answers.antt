use Rattle.std.proofs.Common.{◌∙◌, ap, sym, subst}
use Rattle.brake_base.specs.declared.mask.Mask.{Mask}
use Rattle.brake_base.specs.Masks.{union}
use Rattle.handling_cost.specs.StepCost.{IsKeyOf, key_after}
use Rattle.handling_cost.proofs.Keys.{next_in_range}
use Rattle.handling_cost.proofs.costs.next_key_at.Goals as goal

pub returns-clause-value : goal.returns-clause-value
unfolding key_after
returns-clause-value c =
    let mask = c.union.ensures.value ∙ ap (λ (m : Mask). union c.args.key.now.mask m) c.group.ensures.value in
    λ i. record { mask = mask i; attitude = c.attitude_for.ensures.value i; stage = c.args.action.stage }

pub returns-clause-range : goal.returns-clause-range
returns-clause-range c =
    subst (IsKeyOf c.args.job.now) (sym (returns-clause-value c)) (next_in_range c.args.job.now c.attitude_for.ensures.valid c.args.key.now c.args.action c.requires.key c.requires.action)
