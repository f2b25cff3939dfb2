-- The part as a body. Lengths are in hundredths of a micrometre of the drawn picture, widths in
-- tenths of a millimetre of paper.
use Rattle.std.specs.Prelude.{◌≡◌, ℕ, ◌^◌, ◌≤◌, ℤ, pos, ◌+ℤ◌, ◌-ℤ◌, ◌*ℤ◌, unsigned_abs, Option, Some, None, Bool, true, false, List, [], ◌∷◌, ◌++◌, codes, map, flat_map, All}
use Rattle.std.specs.Fmt.{signed_decimal}
use Rattle.std.specs.List.{slice_index_or}
use Rattle.brake_base.specs.Vectors.{origin, vector, IsWithin}
use Rattle.box_paint.specs.declared.projection.Face.{Face}
use Rattle.box_paint.specs.declared.projection.FaceKind.{FaceKind}
use Rattle.box_paint.specs.declared.projection.FaceKind.TheVariants.{Right, Front, Top}
use Rattle.box_paint.specs.Projection.{drawn, faces_of}
use Rattle.box_paint.specs.Painting.{IsOrder, HidesNone}
use Rattle.svg_text.specs.Forms.{line_of}
use Rattle.sheet_paper.specs.declared.window.Area.{Area}
use Rattle.sheet_paper.specs.declared.window.Paper.{Paper}
use Rattle.sheet_paper.specs.declared.window.Window.{Window}
use Rattle.sheet_paper.specs.declared.shapes.Dashes.TheVariants.{Dashed}
use Rattle.sheet_paper.specs.FigureLines.{length_text, width_text, line_between, end_line}
use Rattle.sheet_paper.specs.Scales.{IsLeastScale}
use Rattle.sheet_paper.specs.Windows.{framed, across, upright, window_around}
use Rattle.sheet_views.specs.declared.part_views.DrawnBox.{DrawnBox}
use Rattle.sheet_views.specs.Drawing.{DrawingData}
use Rattle.sheet_figures.specs.declared.forms.TheConstants.{FACE, BOX_OF_FACES}
use Rattle.sheet_figures.specs.declared.titles.TheConstants.{PART_BEFORE, PART_BEFORE_SENTENCE, PART_AFTER, PART_AFTER_SENTENCE}
use Rattle.sheet_figures.specs.SideViews.{group_end, figure_begin}
use Rattle.sheet_figures.specs.ShownAreas.{bodies_area}

-- the class of a face
unfoldable pub face_class : FaceKind → Bool → List ℕ
face_class Right false = codes "right"
face_class Front false = codes "front"
face_class Top false = codes "top"
face_class Right true = codes "rightm"
face_class Front true = codes "frontm"
face_class Top true = codes "topm"

-- a corner of a face, where it is drawn
abbrev pub corner_at : Face → ℕ → ℤ × ℤ
corner_at face i = drawn (slice_index_or face.corners i origin)

-- a face by its four corners, in order
abbrev pub face_line : Window → Bool → Face → List ℕ
face_line window moves face =
    line_of FACE.now
    (face_class face.kind moves ∷ width_text window (pos 1)
    ∷ length_text window (corner_at face 0).0 ∷ length_text window (corner_at face 0).1
    ∷ length_text window (corner_at face 1).0 ∷ length_text window (corner_at face 1).1
    ∷ length_text window (corner_at face 2).0 ∷ length_text window (corner_at face 2).1
    ∷ length_text window (corner_at face 3).0 ∷ length_text window (corner_at face 3).1 ∷ [])

-- the corners of a face lie within 2^40 micrometres
abbrev pub IsNearFace : Face → Type 0
IsNearFace face = All (IsWithin (2 ^ 40)) face.corners

-- a box: its number, and its faces that look towards the eye
abbrev pub box_begin : (id : ℕ) → List ℕ
box_begin id = line_of BOX_OF_FACES.now (signed_decimal (pos id) ∷ [])

unfoldable pub body_lines : Window → DrawnBox → List ℕ
body_lines window b =
    box_begin b.id ++ flat_map (face_line window b.moves) (faces_of b.body) ++ group_end

-- the box at a place
abbrev pub no_box : DrawnBox
no_box =
    record { id = 0; body = record { lo = origin; hi = origin }; moves = false; in_line = false }

abbrev pub lines_at : Window → List DrawnBox → ℕ → List ℕ
lines_at window boxes at = body_lines window (slice_index_or boxes at no_box)

-- The text goes on with the boxes in the order in which they are painted: what is painted first hides
-- nothing of what comes later.
pub record IsPainted (window : Window) (boxes : List DrawnBox) (before after : List ℕ)
    : Type 0 where
  pub order : List ℕ
  pub each : IsOrder (map (λ b. b.body) boxes) order
  pub law : HidesNone (map (λ b. b.body) boxes) order
  pub text : after ≡ before ++ flat_map (lines_at window boxes) order

-- the bend line, which lies on the x axis, where it is shown
abbrev pub drawn_end : ℤ → ℤ × ℤ
drawn_end x = drawn (vector x (pos 0) (pos 0))

abbrev pub IsNearLine : ℤ × ℤ → Type 0
IsNearLine line = (unsigned_abs line.0 ≤ 2 ^ 40) × (unsigned_abs line.1 ≤ 2 ^ 40)

unfoldable pub bend_mark : Window → Option (ℤ × ℤ) → List ℕ
bend_mark window None = []
bend_mark window (Some line) =
    line_between window (codes "bend") (pos 4) (Dashed (pos 20) (pos 10)) (drawn_end line.0)
    (drawn_end line.1)

-- The text goes on with a view of the part as a body: its boxes as they are painted, and the bend
-- line over them where it is shown.
pub record IsPartView (window : Window) (title sentence : List ℕ) (boxes : List DrawnBox)
    (line : Option (ℤ × ℤ)) (before after : List ℕ) : Type 0 where
  pub painted : List ℕ
  pub boxes_painted :
      IsPainted window boxes (before ++ figure_begin window title sentence) painted
  pub text :
      after ≡ painted ++ bend_mark window line ++ group_end ++ end_line window title

-- the paper of such a view
abbrev pub body_paper : Paper
body_paper = framed (pos 60) (pos 42) (pos 1)

-- its window at a scale, around an area of the drawn picture
abbrev pub body_window : (scale : ℤ) → Area → (number : ℤ) → Window
body_window scale area number =
    window_around body_paper scale (pos 100 *ℤ scale) 5 area number

-- the least scale at which an area of the drawn picture has room
abbrev pub IsBodyScale : Area → (scale : ℤ) → Type 0
IsBodyScale area scale =
    IsLeastScale (area.x1 -ℤ area.x0) (area.y1 -ℤ area.y0) (pos 100 *ℤ across body_paper)
    (pos 100 *ℤ upright body_paper) scale

-- The text goes on with two figures, the part before a stroke with its bend line and the part after
-- it, both around all that they show, at the least scale at which that has room.
pub record AreBodies (drawing : DrawingData) (number : ℤ) (before after : List ℕ) : Type 0 where
  pub scale : ℤ
  pub least : IsBodyScale (bodies_area drawing.before drawing.after) scale
  pub between : List ℕ
  pub part_before :
      IsPartView (body_window scale (bodies_area drawing.before drawing.after) number)
      PART_BEFORE.now PART_BEFORE_SENTENCE.now drawing.before (Some drawing.line) before between
  pub part_after :
      IsPartView
      (body_window scale (bodies_area drawing.before drawing.after) (number +ℤ pos 1))
      PART_AFTER.now PART_AFTER_SENTENCE.now drawing.after None between after
