-- The first legal pair of faces.
use Rattle.std.specs.Prelude.{◌≡◌, ℕ, ◌<◌, List, [], ◌∷◌, Any, Option, Some, None}
use Rattle.brake_base.specs.declared.stroke.Gauge.{Gauge}
use Rattle.brake_base.specs.Order.{IsBefore}
use Rattle.fold_boxes.specs.declared.posed_part.PoseBox.{PoseBox}
use Rattle.fold_boxes.specs.Pose.{PoseData}
use Rattle.job_setup.specs.Setup.{JobData}
use Rattle.job_setup.specs.LegalGauge.{IsFlatFace, IsRightOf, IsLegalPair, LacksGauge}

-- some box of the part is that of the face, in the back half, and lies in the sheet's plane
abbrev pub HasFlatFace : JobData → PoseData → ℕ → Type 0
HasFlatFace job pose face = Any (λ box. IsFlatFace job.part.thickness pose face box) pose.boxes

-- the fingers may stand against the faces whose boxes these are
abbrev pub AreLegalBoxes : JobData → PoseData → PoseBox → PoseBox → Type 0
AreLegalBoxes job pose left right =
    IsFlatFace job.part.thickness pose left.id left
    × IsRightOf job pose (record { left_face = left.id; right_face = right.id }) left right

-- pairs stand in the order of their left faces, then of their right ones
abbrev pub gauge_place : Gauge → List ℕ
gauge_place gauge = gauge.left_face ∷ gauge.right_face ∷ []

-- it is legal, and no pair before it is; none exactly where no pair is legal
abbrev pub IsFirstLegal : JobData → PoseData → Option Gauge → Type 0
IsFirstLegal job pose None = LacksGauge job pose
IsFirstLegal job pose (Some gauge) =
    IsLegalPair job pose gauge
    × ((other : Gauge) → IsBefore (gauge_place other) (gauge_place gauge)
    → IsLegalPair job pose other → ⊥)

-- the first legal pair of those with this left face
abbrev pub IsFirstWith : JobData → PoseData → ℕ → Option Gauge → Type 0
IsFirstWith job pose left None =
    (gauge : Gauge) → gauge.left_face ≡ left → IsLegalPair job pose gauge → ⊥
IsFirstWith job pose left (Some gauge) =
    (gauge.left_face ≡ left)
    × IsLegalPair job pose gauge
    × ((other : Gauge) → other.left_face ≡ left → other.right_face < gauge.right_face
    → IsLegalPair job pose other → ⊥)
