use Rattle.std.proofs.Common.{take}
use Rattle.std.specs.Prelude.{flat_map}
use Rattle.sheet_views.specs.SideArea.{box_corners, Grows}
use Rattle.sheet_views.proofs.side_view.with_boxes.Given as goal

abbrev pub invariant-loop-pose_box : goal.invariant-loop-pose_box
invariant-loop-pose_box l = Grows l.area (flat_map box_corners (take l.pose_box-index l.boxes)) l.grown
