-- What the views from above and of the part as a body show: each time the least area that holds all
-- of it. Lengths are in micrometres, those of the drawn picture in hundredths of one.
use Rattle.std.specs.Prelude.{ℕ, pos, Option, Some, None, List, fold}
use Rattle.brake_base.specs.declared.plane.Rect.{Rect}
use Rattle.brake_base.specs.declared.space.Box3.{Box3}
use Rattle.brake_base.specs.Vectors.{vector}
use Rattle.box_paint.specs.Projection.{drawn}
use Rattle.job_setup.specs.Setup.{StageData, JobData}
use Rattle.job_setup.specs.StageOf.{stage_of}
use Rattle.sheet_paper.specs.declared.window.Area.{Area}
use Rattle.sheet_paper.specs.Windows.{joined}
use Rattle.sheet_views.specs.declared.fingers.Fingers.{Fingers}
use Rattle.sheet_views.specs.declared.part_views.DrawnBox.{DrawnBox}
use Rattle.sheet_figures.specs.Above.{above_of}

-- ---- from above
-- the area with the boxes of the part
abbrev pub with_boxes : Area → List DrawnBox → Area
with_boxes area boxes = fold (λ shown b. joined shown (above_of b.body)) area boxes

-- a box of a stage's die
abbrev pub over_stage : StageData → Rect → Area
over_stage stage rect = record { x0 = stage.x0; x1 = stage.x1; y0 = rect.y0; y1 = rect.y1 }

abbrev pub with_die : Area → StageData → List Rect → Area
with_die area stage boxes = fold (λ shown rect. joined shown (over_stage stage rect)) area boxes

-- the range of a stage along x, as high as an area
abbrev pub range_of : Area → StageData → Area
range_of area stage = record { x0 = stage.x0; x1 = stage.x1; y0 = area.y0; y1 = area.y1 }

-- both fingers, the part, and the station in use with its die
abbrev pub above_area : JobData → (stage : ℕ) → List DrawnBox → Fingers → Area
above_area job stage boxes fingers =
    let part = with_boxes (joined (above_of fingers.left) (above_of fingers.right)) boxes in
    let used = stage_of job stage in
    with_die (joined part (range_of part used)) used used.die.body

-- ---- as a body
-- the drawn places of a box's corners: the leftmost, the rightmost, the lowest and the highest
abbrev pub drawn_area : Box3 → Area
drawn_area b = record {
  x0 = (drawn b.lo).0;
  x1 = (drawn b.hi).0;
  y0 = (drawn (vector b.hi.x b.lo.y b.lo.z)).1;
  y1 = (drawn (vector b.lo.x b.hi.y b.hi.z)).1;
}

-- an area with another, where there is a first
unfoldable pub with_drawn : Option Area → Area → Area
with_drawn None second = second
with_drawn (Some first) second = joined first second

abbrev pub with_drawn_boxes : Option Area → List DrawnBox → Option Area
with_drawn_boxes area boxes =
    fold (λ shown b. Some (with_drawn shown (drawn_area b.body))) area boxes

-- the boxes before a stroke and after it, and a point where there are none
unfoldable pub or_point : Option Area → Area
or_point None = record { x0 = pos 0; x1 = pos 0; y0 = pos 0; y1 = pos 0 }
or_point (Some area) = area

abbrev pub bodies_area : (before after : List DrawnBox) → Area
bodies_area before after = or_point (with_drawn_boxes (with_drawn_boxes None before) after)
