-- The faces of a legal pair.
use Rattle.std.proofs.Common.{◌<◌, length}
use Rattle.brake_base.specs.declared.stroke.Gauge.{Gauge}
use Rattle.fold_boxes.specs.Pose.{PoseData}
use Rattle.job_setup.specs.Setup.{JobData}
use Rattle.job_setup.specs.LegalGauge.{IsLegalPair}

-- the faces of a legal pair are faces of the part
pub legal_within : (job : JobData) (pose : PoseData) (gauge : Gauge) → IsLegalPair job pose gauge → (gauge.left_face < length pose.places) × (gauge.right_face < length pose.places)
legal_within job pose gauge legal = (legal.4.0.level.within, legal.4.1.4.0.level.within)
