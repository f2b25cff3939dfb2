use Rattle.sheet_views.specs.Drawing.{drawing_data}
use Rattle.sheet_page.proofs.Gauging.{left_boxed, right_boxed, fingers_are}
use Rattle.sheet_page.proofs.stroke.fingers_in.Goals as goal

pub fingers_at-requires-clause-left : goal.fingers_at-requires-clause-left
fingers_at-requires-clause-left c = left_boxed c.args.job.now c.args.key.now c.args.step.now c.requires.step (drawing_data c.args.drawing.now) c.requires.drawing

pub fingers_at-requires-clause-right : goal.fingers_at-requires-clause-right
fingers_at-requires-clause-right c = right_boxed c.args.job.now c.args.key.now c.args.step.now c.requires.step (drawing_data c.args.drawing.now) c.requires.drawing

pub fingers_at-requires-clause-near : goal.fingers_at-requires-clause-near
fingers_at-requires-clause-near c = c.requires.near.pose

pub returns-clause-value : goal.returns-clause-value
returns-clause-value c = fingers_are c.args.job.now c.args.key.now c.args.step.now c.requires.step (drawing_data c.args.drawing.now) c.requires.drawing c.fingers_at.result c.fingers_at.ensures.value
