use Rattle.std.proofs.Common.{◌≡◌, take}
use Rattle.sheet_paper.specs.Windows.{IsDrawable}
use Rattle.sheet_figures.specs.ShownAreas.{with_boxes}
use Rattle.sheet_figures.proofs.above_area.with_boxes.Given as goal

abbrev pub invariant-loop-part_box : goal.invariant-loop-part_box
invariant-loop-part_box l = record {
  value : l.grown ≡ with_boxes l.area (take l.part_box-index l.boxes);
  near : IsDrawable l.grown;
}
