-- The stop fingers of a stroke, against the edges of the gauge's two faces. Lengths are in
-- micrometres.
use Rattle.std.specs.Prelude.{◌≡◌, slice_index_or}
use Rattle.brake_base.specs.declared.stroke.Gauge.{Gauge}
use Rattle.fold_boxes.specs.declared.posed_part.PoseBox.{PoseBox}
use Rattle.fold_boxes.specs.Pose.{PoseData}
use Rattle.job_setup.specs.Setup.{JobData}
use Rattle.job_setup.specs.LegalGauge.{far_edge, left_finger, right_finger, finger_box}
use Rattle.sheet_views.specs.declared.fingers.Fingers.{Fingers}

-- the fingers against the edges of two boxes, both where the left one ends
abbrev pub fingers_against : JobData → PoseBox → PoseBox → Fingers
fingers_against job left right =
    let rule = job.setup.gauge in
    let edge = far_edge left in record {
      edge = edge;
      left = finger_box rule job.part.thickness edge (left_finger rule left);
      right = finger_box rule job.part.thickness edge (right_finger rule right);
    }

-- The fingers of a gauge are those against the boxes of its faces in the pose: the box of face i has
-- the place i.
abbrev pub AreFingers : JobData → PoseData → Gauge → Fingers → Type 0
AreFingers job pose gauge fingers =
    (default : PoseBox)
    → fingers
    ≡ fingers_against job (slice_index_or pose.boxes gauge.left_face default)
    (slice_index_or pose.boxes gauge.right_face default)
