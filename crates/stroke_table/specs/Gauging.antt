-- How the first legal pair of a stroke is looked for.
use Rattle.std.specs.Prelude.{◌≡◌, pos, ◌≤ℤ◌}
use Rattle.brake_base.specs.declared.stroke.Half.TheVariants.{Back}
use Rattle.machine_file.specs.declared.machine.GaugeRule.{GaugeRule}
use Rattle.fold_boxes.specs.declared.posed_part.PoseBox.{PoseBox}
use Rattle.fold_boxes.specs.Pose.{PoseData}
use Rattle.job_setup.specs.Setup.{JobData}
use Rattle.job_setup.specs.LegalGauge.{IsLegalPair}

-- the faces of the two boxes make a legal pair
abbrev pub MakesPair : JobData → PoseData → PoseBox → PoseBox → Type 0
MakesPair job pose left right =
    IsLegalPair job pose (record { left_face = left.id; right_face = right.id })

-- the box is of the back half, and ends where the sheet's upper surface lies, at height 0
pub record IsAtTop (box : PoseBox) : Type 0 where
  pub half : box.half ≡ Back
  pub top : box.body.hi.z ≡ pos 0

-- the box is such a one, and ends no nearer to the bend line than the gauge comes
pub record MayBeLeft (rule : GaugeRule) (left : PoseBox) : Type 0 where
  pub top : IsAtTop left
  pub near : rule.near ≤ℤ left.body.hi.y

-- the right box is one at the top, and ends at the edge at which the left one ends
pub record MayBeRight (left right : PoseBox) : Type 0 where
  pub top : IsAtTop right
  pub edge : right.body.hi.y ≡ left.body.hi.y
