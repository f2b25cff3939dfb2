-- The strokes of a plan, as a page tells them. Costs are in tenths of a second, lengths in
-- micrometres.
use Rattle.std.specs.Prelude.{◌≡◌, ℕ, ◌≤◌, List}
use Rattle.brake_base.specs.declared.mask.Mask.{Mask}
use Rattle.brake_base.specs.declared.stroke.Action.{Action}
use Rattle.brake_base.specs.declared.stroke.Key.{Key}
use Rattle.brake_base.specs.declared.stroke.Step.{Step}
use Rattle.brake_base.specs.Masks.{bends_of}
use Rattle.fold_boxes.specs.Pose.{turn_number}
use Rattle.job_setup.specs.Setup.{JobData}
use Rattle.handling_cost.specs.StepCost.{IsKeyOf, IsActionAt, attitude_at, change, cost_of, key_after}
use Rattle.handling_cost.specs.Plan.{pose_before}
use Rattle.setup_sheet.specs.OrderSheet.{posed_face}
use Rattle.sheet_views.specs.declared.fingers.Fingers.{Fingers}
use Rattle.sheet_views.specs.Drawing.{DrawingData, drawing_data, drawing_of}
use Rattle.sheet_views.specs.Fingers.{fingers_against}
use Rattle.sheet_views.specs.Near.{IsNearDrawing, IsNearFingers}
use Rattle.sheet_page.specs.declared.stroke.Stroke.{Stroke}

-- a stroke: its number from 1, its step, the keys before it and after it, the number of the turn
-- before it, what it costs, its drawing, and its stop fingers
pub record StrokeData : Type 0 where
  pub number : ℕ
  pub step : Step
  pub before : Key
  pub after : Key
  pub turn : ℕ
  pub cost : ℕ
  pub drawing : DrawingData
  pub fingers : Fingers

abbrev pub stroke_data : Stroke → StrokeData
stroke_data stroke = record {
  number = stroke.number;
  step = stroke.step;
  before = stroke.before;
  after = stroke.after;
  turn = stroke.turn;
  cost = stroke.cost;
  drawing = drawing_data stroke.drawing;
  fingers = stroke.fingers;
}

-- the turn of the part before an action
abbrev pub turn_before : JobData → Key → Action → ℕ
turn_before job key action = turn_number (change key.attitude (attitude_at job key.mask action))

-- the fingers of a step where the bends of the mask are folded: those against its gauge's faces, as
-- they lie in the step's pose
abbrev pub fingers_of : JobData → Mask → Step → Fingers
fingers_of job mask step =
    let pose = pose_before job mask step.action in
    fingers_against job (posed_face pose step.gauge.left_face)
    (posed_face pose step.gauge.right_face)

-- the stroke of a step at a key
unfoldable pub stroke_of : JobData → (number : ℕ) → Key → Step → StrokeData
stroke_of job number key step = record {
  number = number;
  step = step;
  before = key;
  after = key_after job key step.action;
  turn = turn_before job key step.action;
  cost = cost_of job key step.action;
  drawing = drawing_of job key.mask step.action;
  fingers = fingers_of job key.mask step;
}

-- the bends that a stroke bends, in ascending order
abbrev pub bends_in : StrokeData → List ℕ
bends_in stroke = bends_of stroke.drawing.pose.group

-- what holds of the stroke of a step that can be tried
pub record IsStroke (job : JobData) (stroke : StrokeData) : Type 0 where
  pub range : IsKeyOf job stroke.before
  pub action : IsActionAt job stroke.before stroke.step.action
  pub after : stroke.after ≡ key_after job stroke.before stroke.step.action
  pub next : IsKeyOf job stroke.after
  pub cost : stroke.cost ≡ cost_of job stroke.before stroke.step.action
  pub small : stroke.cost ≤ 8000000
  pub drawing : IsNearDrawing stroke.drawing
  pub fingers : IsNearFingers stroke.fingers
