-- The table of the strokes in order. Lengths are in micrometres, costs in tenths of a second.
use Rattle.std.specs.Prelude.{◌≡◌, ℕ, ◌+◌, pos, List, [], ◌∷◌, ◌++◌, codes, length}
use Rattle.std.specs.Fmt.{signed_decimal}
use Rattle.brake_base.specs.declared.stroke.Key.{Key}
use Rattle.brake_base.specs.declared.stroke.Step.{Step}
use Rattle.part_file.specs.declared.part.Dir.{Dir}
use Rattle.part_file.specs.declared.part.Dir.TheVariants.{Up, Down}
use Rattle.unfolder.specs.Cores.{joint_of}
use Rattle.job_setup.specs.Setup.{JobData}
use Rattle.handling_cost.specs.StepCost.{key_after}
use Rattle.handling_cost.specs.Plan.{start}
use Rattle.svg_text.specs.Escapes.{escaped}
use Rattle.svg_text.specs.Forms.{line_of}
use Rattle.sheet_words.specs.Lists.{mm, seconds}
use Rattle.sheet_words.specs.Turns.{turn_words}
use Rattle.sheet_page.specs.declared.forms.TheConstants.{H2, ORDER_HEAD, ORDER_ROW, ORDER_SUM}
use Rattle.sheet_page.specs.declared.forms.TheConstants.{SECTION, SECTION_END, TABLE, TABLE_END}
use Rattle.sheet_page.specs.declared.order.Cells.{Cells}
use Rattle.sheet_page.specs.declared.order.TheConstants.{TITLE}
use Rattle.sheet_figures.specs.BendWords.{number_words}
use Rattle.sheet_page.specs.Lists.{name_words, label_words}
use Rattle.sheet_page.specs.Strokes.{StrokeData, stroke_of, bends_in}
use Rattle.sheet_page.specs.Facts.{faces_at_back}

-- the direction of a bend
unfoldable pub dir_word : Dir → List ℕ
dir_word Up = codes " up"
dir_word Down = codes " down"

-- the bends of a stroke and their direction
unfoldable pub bends_cell : JobData → StrokeData → List ℕ
bends_cell job stroke =
    number_words 0 (length (bends_in stroke)) (bends_in stroke)
    ++ dir_word (joint_of job.part.faces stroke.step.action.bend).dir

-- the names of its flanges, and the faces at the back
abbrev pub flanges_cell : JobData → StrokeData → List ℕ
flanges_cell job stroke = name_words job 0 (length (bends_in stroke)) (bends_in stroke)

abbrev pub back_cell : JobData → StrokeData → List ℕ
back_cell job stroke =
    label_words job 0 (length (faces_at_back job stroke)) (faces_at_back job stroke)

-- the texts in a row are those of the stroke
pub record AreCells (job : JobData) (stroke : StrokeData) (cells : Cells) : Type 0 where
  pub bends : cells.bends.items ≡ bends_cell job stroke
  pub flanges : cells.flanges.items ≡ flanges_cell job stroke
  pub turn : cells.turn.items ≡ turn_words stroke.turn
  pub back : cells.back.items ≡ back_cell job stroke

-- a row of texts and what else it tells of a stroke
abbrev pub row_line : StrokeData → (bends flanges turn back : List ℕ) → List ℕ
row_line stroke bends flanges turn back =
    line_of ORDER_ROW.now
    (signed_decimal (pos stroke.number) ∷ escaped bends ∷ escaped flanges ∷ escaped turn
    ∷ escaped back ∷ signed_decimal (pos stroke.step.action.stage) ∷ mm stroke.fingers.edge
    ∷ mm stroke.fingers.left.lo.x ∷ mm stroke.fingers.right.lo.x ∷ seconds stroke.cost ∷ [])

-- the row of a stroke
abbrev pub order_row : JobData → StrokeData → List ℕ
order_row job stroke =
    row_line stroke (bends_cell job stroke) (flanges_cell job stroke) (turn_words stroke.turn)
    (back_cell job stroke)

-- a row for each step, numbered in order
abbrev pub order_rows : JobData → (number : ℕ) → Key → List Step → List ℕ
order_rows job number key [] = []
order_rows job number key (step ∷ steps) =
    order_row job (stroke_of job number key step)
    ++ order_rows job (number + 1) (key_after job key step.action) steps

-- the table, and what the strokes cost together
unfoldable pub order_text : JobData → List Step → (cost : ℕ) → List ℕ
order_text job steps cost =
    line_of SECTION.now ([] ∷ []) ++ line_of H2.now (escaped TITLE.now ∷ [])
    ++ line_of TABLE.now [] ++ line_of ORDER_HEAD.now []
    ++ order_rows job 1 start steps
    ++ line_of ORDER_SUM.now (seconds cost ∷ []) ++ line_of TABLE_END.now []
    ++ line_of SECTION_END.now []
