use Rattle.std.proofs.Common.{◌∙◌, ap}
use Rattle.brake_base.specs.Turns.{Matrix, turn_of, multiply}
use Rattle.fold_boxes.proofs.Numbered.{turn_number_is}
use Rattle.handling_cost.specs.StepCost.{change}
use Rattle.sheet_page.proofs.stroke.turn_between.Goals as goal

pub returns : goal.returns
returns c = turn_number_is c.then.result (change c.args.from c.args.to) c.then.ensures.below (c.then.ensures.turn ∙ ap (λ (m : Matrix). multiply (turn_of c.args.to) m) c.inverse.ensures.turn)
