use Rattle.std.proofs.Common.{◌≡◌, take}
use Rattle.std.specs.Prelude.{IfSome}
use Rattle.sheet_paper.specs.Windows.{IsDrawable}
use Rattle.sheet_figures.specs.ShownAreas.{with_drawn_boxes}
use Rattle.sheet_figures.proofs.bodies.with_drawn_boxes.Given as goal

abbrev pub invariant-loop-part_box : goal.invariant-loop-part_box
invariant-loop-part_box l = record {
  value : l.all ≡ with_drawn_boxes l.fn.area (take l.part_box-index l.boxes);
  near : IfSome l.all IsDrawable;
}
