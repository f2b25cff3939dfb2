-- What is told of a stroke. Lengths are in micrometres, costs in tenths of a second.
use Rattle.std.specs.Prelude.{ℕ, ◌==◌, pos, List, [], ◌∷◌, ◌++◌, codes, length, flat_map}
use Rattle.std.specs.Prelude.{if◌then◌else◌}
use Rattle.std.specs.Fmt.{signed_decimal}
use Rattle.brake_base.specs.declared.stroke.Back.{Back}
use Rattle.brake_base.specs.declared.stroke.Back.TheVariants.{Parent, Child}
use Rattle.brake_base.specs.declared.stroke.Gauge.{Gauge}
use Rattle.unfolder.specs.Cores.{joint_of}
use Rattle.job_setup.specs.Setup.{StageData, JobData}
use Rattle.job_setup.specs.StageOf.{stage_of}
use Rattle.handling_cost.specs.StepCost.{change, change_cost, stage_cost}
use Rattle.svg_text.specs.Escapes.{escaped}
use Rattle.svg_text.specs.Forms.{line_of}
use Rattle.sheet_words.specs.declared.turns.Movement.{Movement}
use Rattle.sheet_words.specs.Faces.{face_words, faces_words}
use Rattle.sheet_words.specs.Lists.{mm, seconds}
use Rattle.sheet_words.specs.Turns.{icon_shapes, words_left, words_right, movements, turn_words, looks}
use Rattle.sheet_page.specs.declared.forms.TheConstants.{FACT_BACK, FACT_FINGERS, FACT_GAUGE}
use Rattle.sheet_page.specs.declared.forms.TheConstants.{FACT_STATION, FACT_TIME, FACT_TURN}
use Rattle.sheet_page.specs.declared.forms.TheConstants.{FACT_TURN_END, ICON}
use Rattle.sheet_page.specs.Strokes.{StrokeData, bends_in}

-- the icon of a movement, with the words at its left and right
abbrev pub icon_line : Movement → List ℕ
icon_line movement =
    line_of ICON.now
    (icon_shapes movement ∷ words_left movement ∷ words_right movement ∷ [])

-- the turn of a number, by its icons and in words, and where side A looks then
abbrev pub turn_end_line : (turn attitude : ℕ) → List ℕ
turn_end_line turn attitude =
    line_of FACT_TURN_END.now (escaped (turn_words turn) ∷ looks attitude ∷ [])

unfoldable pub turn_fact : (turn attitude : ℕ) → List ℕ
turn_fact turn attitude =
    line_of FACT_TURN.now [] ++ flat_map icon_line (movements turn) ++ turn_end_line turn attitude

-- the faces at the back: the parent, or the flanges
abbrev pub faces_at : JobData → StrokeData → Back → List ℕ
faces_at job stroke Parent = (joint_of job.part.faces stroke.step.action.bend).on ∷ []
faces_at job stroke Child = bends_in stroke

unfoldable pub faces_at_back : JobData → StrokeData → List ℕ
faces_at_back job stroke = faces_at job stroke stroke.step.action.back

abbrev pub back_fact : JobData → (faces : List ℕ) → List ℕ
back_fact job faces =
    line_of FACT_BACK.now (escaped (faces_words job 0 (length faces) faces) ∷ [])

-- the station with its punch and its die
unfoldable pub tools_words : StageData → List ℕ
tools_words stage = stage.punch.name ++ codes " / " ++ stage.die.name

abbrev pub station_fact : JobData → (number : ℕ) → List ℕ
station_fact job number =
    line_of FACT_STATION.now
    (signed_decimal (pos number) ∷ escaped (tools_words (stage_of job number)) ∷ [])

-- how far behind the bend line the fingers stand, and the faces whose edges they meet
unfoldable pub edges_words : JobData → Gauge → List ℕ
edges_words job gauge =
    if gauge.left_face == gauge.right_face
    then codes "edge of " ++ face_words job gauge.left_face
    else codes "edges of " ++ faces_words job 0 2 (gauge.left_face ∷ gauge.right_face ∷ [])

abbrev pub gauge_fact : JobData → StrokeData → List ℕ
gauge_fact job stroke =
    line_of FACT_GAUGE.now
    (mm stroke.fingers.edge ∷ escaped (edges_words job stroke.step.gauge) ∷ [])

-- where the fingers begin along the bed, and the ends of the bend line
abbrev pub fingers_fact : StrokeData → List ℕ
fingers_fact stroke =
    line_of FACT_FINGERS.now
    (mm stroke.fingers.left.lo.x ∷ mm stroke.fingers.right.lo.x ∷ mm stroke.drawing.line.0
    ∷ mm stroke.drawing.line.1 ∷ [])

-- a part of the cost, where there is one, and the parts of a stroke's cost
unfoldable pub cost_part : (word : List ℕ) → (cost : ℕ) → List ℕ
cost_part word cost = if cost == 0 then [] else word ++ seconds cost

abbrev pub turn_cost : JobData → StrokeData → ℕ
turn_cost job stroke =
    change_cost job.setup.cost (change stroke.before.attitude stroke.after.attitude)

abbrev pub way_cost : JobData → StrokeData → ℕ
way_cost job stroke =
    stage_cost job stroke.before.mask stroke.before.stage stroke.step.action.stage

unfoldable pub cost_words : JobData → StrokeData → List ℕ
cost_words job stroke =
    codes "stroke " ++ seconds job.setup.cost.stroke
    ++ cost_part (codes " + turn ") (turn_cost job stroke)
    ++ cost_part (codes " + station ") (way_cost job stroke)

abbrev pub time_fact : JobData → StrokeData → List ℕ
time_fact job stroke =
    line_of FACT_TIME.now (seconds stroke.cost ∷ escaped (cost_words job stroke) ∷ [])

-- the facts of a stroke
unfoldable pub facts_text : JobData → StrokeData → List ℕ
facts_text job stroke =
    turn_fact stroke.turn stroke.after.attitude ++ back_fact job (faces_at_back job stroke)
    ++ station_fact job stroke.step.action.stage ++ gauge_fact job stroke
    ++ fingers_fact stroke ++ time_fact job stroke
