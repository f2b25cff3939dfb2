-- The marks of a stroke from above. Lengths are in micrometres, widths in tenths of a millimetre of
-- paper.
use Rattle.std.specs.Prelude.{ℕ, ℤ, pos, neg_ℤ, ◌+ℤ◌, ◌-ℤ◌, ◌*ℤ◌, int_lt, List, [], ◌∷◌, ◌++◌, codes}
use Rattle.std.specs.Prelude.{if◌then◌else◌}
use Rattle.std.specs.List.{slice_index_or}
use Rattle.brake_base.specs.declared.space.Box3.{Box3}
use Rattle.sheet_paper.specs.declared.shapes.Dashes.TheVariants.{Dashed}
use Rattle.sheet_paper.specs.declared.window.Window.{Window}
use Rattle.sheet_paper.specs.Windows.{right_of, top_of}
use Rattle.sheet_paper.specs.Spreading.{spread_out}
use Rattle.sheet_paper.specs.FigureLines.{LabelData, line_between, leader_line, label_line}
use Rattle.sheet_views.specs.declared.fingers.Fingers.{Fingers}
use Rattle.sheet_words.specs.Lists.{mm}

-- where the labels of two places stand: moved apart by 13 mm, and 5 mm within the window
abbrev pub label_places : Window → (first second : ℤ) → List ℤ
label_places window first second =
    spread_out (window.x +ℤ (pos 50 *ℤ window.unit))
    (right_of window -ℤ (pos 50 *ℤ window.unit)) (pos 130 *ℤ window.unit)
    (first ∷ second ∷ [])

abbrev pub both_of : List ℤ → ℤ × ℤ
both_of places = (slice_index_or places 0 (pos 0), slice_index_or places 1 (pos 0))

abbrev pub two_labels : Window → (first second : ℤ) → ℤ × ℤ
two_labels window first second = both_of (label_places window first second)

-- a label above the window's upper edge, or below its lower one
abbrev pub upper_label : Window → (at : ℤ) → LabelData
upper_label window at = record {
  x = at;
  y = neg_ℤ (top_of window);
  right = pos 0;
  up = pos 40;
  size = pos 28;
  class = codes "big";
}

abbrev pub lower_label : Window → (at : ℤ) → LabelData
lower_label window at = record {
  x = at;
  y = neg_ℤ window.y;
  right = pos 0;
  up = neg_ℤ (pos 58);
  size = pos 26;
  class = [];
}

-- where a finger begins: a leader from its far left corner to its label
unfoldable pub finger_mark : Window → Box3 → (label : ℤ) → List ℕ
finger_mark window finger label =
    let head = neg_ℤ (top_of window) in
    leader_line window (finger.lo.x, neg_ℤ finger.hi.y)
    (finger.lo.x, head -ℤ (pos 4 *ℤ window.unit)) (label, head -ℤ (pos 28 *ℤ window.unit))
    (label, head -ℤ (pos 34 *ℤ window.unit))
    ++ label_line window (upper_label window label) (mm finger.lo.x)

-- an end of the bend line: a line to the window's lower edge, and a leader to its label
unfoldable pub end_mark : Window → (end label : ℤ) → List ℕ
end_mark window end label =
    let foot = neg_ℤ window.y in
    line_between window (codes "guide") (pos 1) (Dashed (pos 3) (pos 5)) (end, pos 0) (end, foot)
    ++ leader_line window (end, foot) (end, foot +ℤ (pos 4 *ℤ window.unit))
    (label, foot +ℤ (pos 28 *ℤ window.unit)) (label, foot +ℤ (pos 34 *ℤ window.unit))
    ++ label_line window (lower_label window label) (mm end)

-- two fingers by x, and their marks
unfoldable pub marks_of_two : Window → (first second : Box3) → List ℕ
marks_of_two window first second =
    finger_mark window first (two_labels window first.lo.x second.lo.x).0
    ++ finger_mark window second (two_labels window first.lo.x second.lo.x).1

unfoldable pub finger_marks : Window → Fingers → List ℕ
finger_marks window fingers =
    if int_lt fingers.right.lo.x fingers.left.lo.x
    then marks_of_two window fingers.right fingers.left
    else marks_of_two window fingers.left fingers.right

-- the marks of both ends
unfoldable pub end_marks : Window → (line : ℤ × ℤ) → List ℕ
end_marks window line =
    end_mark window line.0 (two_labels window line.0 line.1).0
    ++ end_mark window line.1 (two_labels window line.0 line.1).1
