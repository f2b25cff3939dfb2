-- The text of the order sheet, and the steps that it can tell. Lengths are in micrometres, costs in
-- tenths of a second.
use Rattle.std.specs.Prelude.{ℕ, ◌+◌, ◌<◌, ◌==◌, ℤ, pos, not, List, [], ◌∷◌, ◌++◌, codes, filter}
use Rattle.std.specs.Prelude.{length}
use Rattle.std.specs.List.{flat_map, slice_index_or}
use Rattle.brake_base.specs.declared.space.Box3.{Box3}
use Rattle.brake_base.specs.declared.mask.Mask.{Mask}
use Rattle.brake_base.specs.declared.stroke.Back.{Back}
use Rattle.brake_base.specs.declared.stroke.Back.TheVariants.{Parent, Child}
use Rattle.brake_base.specs.declared.stroke.Half.TheVariants.{Back as BackHalf}
use Rattle.brake_base.specs.declared.stroke.Key.{Key}
use Rattle.brake_base.specs.declared.stroke.Action.{Action}
use Rattle.brake_base.specs.declared.stroke.Gauge.{Gauge}
use Rattle.brake_base.specs.declared.stroke.Step.{Step}
use Rattle.brake_base.specs.Vectors.{origin}
use Rattle.brake_base.specs.Masks.{bends_of}
use Rattle.part_file.specs.Part.{face_at}
use Rattle.fold_boxes.specs.declared.posed_part.PoseBox.{PoseBox}
use Rattle.fold_boxes.specs.Pose.{PoseData}
use Rattle.machine_file.specs.declared.machine.GaugeRule.{GaugeRule}
use Rattle.job_setup.specs.Setup.{JobData}
use Rattle.job_setup.specs.StrokeGroup.{group_of}
use Rattle.job_setup.specs.LegalGauge.{far_edge, left_finger, right_finger}
use Rattle.handling_cost.specs.declared.attitudes.Change.{Change}
use Rattle.handling_cost.specs.declared.attitudes.Change.TheVariants.{Same, Quarter, Half, Flip}
use Rattle.handling_cost.specs.declared.attitudes.Change.TheVariants.{Roll}
use Rattle.handling_cost.specs.StepCost.{IsActionAt, attitude_at, change, kind_of_change, key_after}
use Rattle.handling_cost.specs.StepCost.{cost_of}
use Rattle.handling_cost.specs.Plan.{pose_before, start, total}
use Rattle.setup_sheet.specs.Sheets.{field}

-- the action can be tried at the key, and the gauge's faces are the part's; whether the stroke is
-- free plays no part
pub record IsStepAt (job : JobData) (key : Key) (step : Step) : Type 0 where
  pub action : IsActionAt job key step.action
  pub left : step.gauge.left_face < length job.part.faces
  pub right : step.gauge.right_face < length job.part.faces

-- steps, each such at the key that those before it lead to
abbrev pub AreSteps : JobData → Key → List Step → Type 0
AreSteps job key [] = Unit {0}
AreSteps job key (step ∷ steps) =
    IsStepAt job key step × AreSteps job (key_after job key step.action) steps

-- the word for the side of the bend that lies towards the backgauge
unfoldable pub back_word : Back → List ℕ
back_word Parent = codes "parent"
back_word Child = codes "child"

-- the word for what becomes of the part before the stroke
unfoldable pub change_word : Change → List ℕ
change_word Same = codes "none"
change_word Quarter = codes "quarter"
change_word Half = codes "half"
change_word Flip = codes "flip"
change_word Roll = codes "roll"

-- the bends that are bent together with the lead of a stroke, in ascending order
unfoldable pub bent_with : JobData → Mask → ℕ → List ℕ
bent_with job mask lead = filter (λ b. not (b == lead)) (bends_of (group_of job mask lead))

-- `with B2 B3`: these bends; nothing where there is none
unfoldable pub with_words : List ℕ → List ℕ
with_words [] = []
with_words (bend ∷ bends) = codes " with" ++ flat_map (λ b. field (pos b)) (bend ∷ bends)

-- `bend B NAME with B2 B3`: the lead, the name of its child face, and the other bends of its group
unfoldable pub bend_words : JobData → Mask → ℕ → List ℕ
bend_words job mask lead =
    codes " bend" ++ field (pos lead) ++ codes " " ++ (face_at job.part.faces lead).name
    ++ with_words (bent_with job mask lead)

-- `back SIDE stage S turn KIND`: the side at the back, the stage, and what becomes of the part
-- before the stroke
unfoldable pub hold_words : JobData → Key → Action → List ℕ
hold_words job key action =
    codes " back " ++ back_word action.back ++ codes " stage" ++ field (pos action.stage)
    ++ codes " turn "
    ++ change_word (kind_of_change (change key.attitude (attitude_at job key.mask action)))

-- a box where there is none
abbrev pub no_box : PoseBox
no_box = record { id = 0; half = BackHalf; body = record { lo = origin; hi = origin } }

-- the box of a face in a pose, whose boxes are those of the faces in order of number, and then
-- those of corners
abbrev pub posed_face : PoseData → ℕ → PoseBox
posed_face pose face = slice_index_or pose.boxes face no_box

-- ` F X`: the face against whose edge a finger stands, and where the finger begins along the bed
unfoldable pub finger_words : ℕ → ℤ × ℤ → List ℕ
finger_words face range = field (pos face) ++ field range.0

-- `gauge G fingers L LX R RX`: how far behind the bend line the fingers stand, and the left and the
-- right finger
unfoldable pub gauge_words : GaugeRule → Gauge → PoseBox → PoseBox → List ℕ
gauge_words rule gauge left right =
    codes " gauge" ++ field (far_edge left) ++ codes " fingers"
    ++ finger_words gauge.left_face (left_finger rule left)
    ++ finger_words gauge.right_face (right_finger rule right)

-- the same of a step, by the boxes of its gauge's faces
abbrev pub gauge_words_of : JobData → Mask → Step → List ℕ
gauge_words_of job mask step =
    let pose = pose_before job mask step.action in
    gauge_words job.setup.gauge step.gauge (posed_face pose step.gauge.left_face)
    (posed_face pose step.gauge.right_face)

-- `step K` with its bends, how the part is held, the gauge, and `cost C`
unfoldable pub step_line : JobData → ℕ → Key → Step → List ℕ
step_line job number key step =
    codes "step" ++ field (pos number) ++ bend_words job key.mask step.action.bend
    ++ hold_words job key step.action
    ++ gauge_words_of job key.mask step
    ++ codes " cost" ++ field (pos (cost_of job key step.action)) ++ codes "\n"

-- a line for each step, numbered in order
abbrev pub step_lines : JobData → ℕ → Key → List Step → List ℕ
step_lines job number key [] = []
step_lines job number key (step ∷ steps) =
    step_line job number key step
    ++ step_lines job (number + 1) (key_after job key step.action) steps

-- `order N`: the number of steps
unfoldable pub order_line : ℕ → List ℕ
order_line count = codes "order" ++ field (pos count) ++ codes "\n"

-- `total C`: what the steps cost together
unfoldable pub total_line : ℕ → List ℕ
total_line cost = codes "total" ++ field (pos cost) ++ codes "\n"

-- The order sheet: how many steps there are, a line for each, and their total cost.
unfoldable pub order_text : JobData → List Step → List ℕ
order_text job steps =
    order_line (length steps) ++ step_lines job 1 start steps ++ total_line (total job start steps)
