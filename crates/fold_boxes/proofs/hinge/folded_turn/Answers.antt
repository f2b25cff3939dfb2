use Rattle.std.proofs.Common.{◌∙◌}
use Rattle.brake_base.specs.Turns.{multiply}
use Rattle.fold_boxes.proofs.Turned.{to_side}
use Rattle.fold_boxes.proofs.hinge.folded_turn.Goals as goal

pub returns : goal.returns
returns c = c.then.ensures.turn ∙ (λ i. multiply (c.side_turn.ensures i) (c.upright.ensures i)) ∙ to_side c.args.side c.args.dir
