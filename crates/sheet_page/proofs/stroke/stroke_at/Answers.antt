use Rattle.std.proofs.Common.{◌≡◌, ◌∙◌, ap}
use Rattle.brake_base.specs.declared.stroke.Key.{Key}
use Rattle.fold_boxes.specs.Pose.{turn_number}
use Rattle.handling_cost.specs.StepCost.{change, key_after}
use Rattle.sheet_page.specs.Strokes.{turn_before, stroke_of}
use Rattle.sheet_page.proofs.stroke.stroke_at.Goals as goal

pub returns-clause-value : goal.returns-clause-value
unfolding stroke_of key_after
returns-clause-value c =
    let turn : c.turn_between-turn.result ≡ turn_before c.args.job.now c.args.key.now c.args.step.now.action =
    c.turn_between-turn.ensures ∙ ap (λ (k : Key). turn_number (change c.args.key.now.attitude k.attitude)) c.next_key-after.ensures.value in
    λ i. record {
      number = c.args.number;
      step = c.args.step.now;
      before = c.args.key.now;
      after = c.next_key-after.ensures.value i;
      turn = turn i;
      cost = c.step_cost-cost.ensures.value i;
      drawing = c.drawing_of-drawing.ensures.value i;
      fingers = c.fingers_in-fingers.ensures.value i;
    }

pub returns-clause-good : goal.returns-clause-good
returns-clause-good c = record {
  range = c.requires.key;
  action = c.requires.step.action;
  after = c.next_key-after.ensures.value;
  next = c.next_key-after.ensures.range;
  cost = c.step_cost-cost.ensures.value;
  small = c.step_cost-cost.ensures.small;
  drawing = c.drawing_of-drawing.ensures.near;
  fingers = c.fingers_in-fingers.ensures.near;
}
