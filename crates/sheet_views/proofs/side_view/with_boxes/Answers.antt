use Rattle.std.proofs.Common.{List, subst, arith}
use Rattle.std.specs.Prelude.{flat_map}
use Rattle.std.proofs.lemmas.List.{take_all}
use Rattle.fold_boxes.specs.declared.posed_part.PoseBox.{PoseBox}
use Rattle.sheet_views.specs.SideArea.{box_corners, Grows}
use Rattle.sheet_views.proofs.LeastRects.{grows_none, grows_by_box}
use Rattle.sheet_views.proofs.side_view.with_boxes.Goals as goal

pub loop-pose_box-init : goal.loop-pose_box-init
loop-pose_box-init c = grows_none c.args.area.now

pub loop-pose_box-preserved : goal.loop-pose_box-preserved
loop-pose_box-preserved c = grows_by_box c.args.boxes.now c.loop-pose_box.pose_box-index _ c.args.area.now c.loop-pose_box.grown c.with_box-grown.result c.with_box-grown.ensures c.loop-pose_box-test.true c.loop-pose_box.invariant

pub returns : goal.returns
returns c =
    let all = take_all c.loop-pose_box.pose_box-index c.args.boxes.now (omega (arith, c.loop-pose_box-test.false)) in
    subst (λ (boxes : List PoseBox). Grows c.args.area.now (flat_map box_corners boxes) c.loop-pose_box.grown) all c.loop-pose_box.invariant
