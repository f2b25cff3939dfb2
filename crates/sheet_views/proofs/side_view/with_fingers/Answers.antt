use Rattle.sheet_views.specs.SideArea.{far_corners}
use Rattle.sheet_views.proofs.LeastRects.{grows_twice}
use Rattle.sheet_views.proofs.side_view.with_fingers.Goals as goal

pub returns : goal.returns
returns c =
    let fingers = c.args.fingers.now in
    grows_twice c.args.area.now c.with_finger.result c.with_finger-2.result (far_corners fingers.left) (far_corners fingers.right) c.with_finger.ensures c.with_finger-2.ensures
