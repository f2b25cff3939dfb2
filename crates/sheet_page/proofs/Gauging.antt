-- The fingers of a step stand against boxes of its pose.
use Rattle.std.proofs.Common.{◌≡◌, ◌<◌, ◌≤◌, ◌∙◌, length, ap, arith}
use Rattle.std.specs.Prelude.{slice_index_or}
use Rattle.brake_base.specs.declared.stroke.Key.{Key}
use Rattle.brake_base.specs.declared.stroke.Step.{Step}
use Rattle.fold_boxes.specs.Pose.{PoseData}
use Rattle.job_setup.specs.Setup.{JobData, shape_of}
use Rattle.job_setup.specs.StageOf.{stage_of}
use Rattle.job_setup.specs.StrokeGroup.{group_of}
use Rattle.handling_cost.specs.Plan.{pose_before}
use Rattle.handling_cost.proofs.PosedFaces.{faces_boxed}
use Rattle.setup_sheet.specs.OrderSheet.{IsStepAt, no_box}
use Rattle.sheet_views.specs.declared.fingers.Fingers.{Fingers}
use Rattle.sheet_views.specs.Drawing.{DrawingData, drawing_of}
use Rattle.sheet_views.specs.Fingers.{fingers_against, AreFingers}
use Rattle.sheet_page.specs.Strokes.{fingers_of}

module _ (job : JobData) (key : Key) (step : Step) (at : IsStepAt job key step) (drawing : DrawingData) (is : drawing ≡ drawing_of job key.mask step.action) where
  pose_is : drawing.pose ≡ pose_before job key.mask step.action
  pose_is = ap (λ (d : DrawingData). d.pose) is

  boxed : length job.part.faces ≤ length drawing.pose.boxes
  boxed =
      let stage = stage_of job step.action.stage in
      faces_boxed (shape_of job) key.mask (group_of job key.mask step.action.bend) step.action.back stage.x0 stage.x1 drawing.pose pose_is

  pub left_boxed : step.gauge.left_face < length drawing.pose.boxes
  left_boxed = omega (arith, boxed, at.left)

  pub right_boxed : step.gauge.right_face < length drawing.pose.boxes
  right_boxed = omega (arith, boxed, at.right)

  pub fingers_are : (fingers : Fingers) → AreFingers job drawing.pose step.gauge fingers → fingers ≡ fingers_of job key.mask step
  fingers_are fingers are =
      are no_box
      ∙ ap (λ (p : PoseData). fingers_against job (slice_index_or p.boxes step.gauge.left_face no_box) (slice_index_or p.boxes step.gauge.right_face no_box)) pose_is
