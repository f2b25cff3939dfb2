use Rattle.std.proofs.Common.{◌∙◌, ap}
use Rattle.brake_base.specs.declared.stroke.Key.{Key}
use Rattle.handling_cost.specs.StepCost.{change, kind_of_change, key_after}
use Rattle.setup_sheet.proofs.order.change_for.Goals as goal

pub returns : goal.returns
unfolding key_after
returns c = c.change_between.ensures ∙ ap (λ (k : Key). kind_of_change (change c.args.key.now.attitude k.attitude)) c.next_key.ensures.value
