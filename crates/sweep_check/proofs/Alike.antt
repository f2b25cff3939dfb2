-- The first reason among kinds, in a pose and in another that has the same reasons of those kinds.
use Rattle.std.proofs.Common.{◌≡◌, ℕ, ◌≤◌, ◌↔◌, List, Option, Some, None, subst, arith}
use Rattle.brake_base.specs.declared.stroke.Back.{Back}
use Rattle.brake_base.specs.declared.reason.Reason.{Reason}
use Rattle.brake_base.specs.declared.reason.Reason.TheVariants.{Cover, Rest, Frame, Upper, Nose, Lower, SelfHit, NoGauge, Load}
use Rattle.fold_boxes.specs.declared.posed_part.PoseBox.{PoseBox}
use Rattle.fold_boxes.specs.Pose.{PoseData}
use Rattle.job_setup.specs.Setup.{JobData}
use Rattle.job_setup.specs.Reasons.{IsReasonOf}
use Rattle.sweep_check.specs.FirstReasons.{kind_place, IsFirstAmong, pose_of_boxes}
use Rattle.sweep_check.proofs.Orders.{kinds_in_order, among_seen}

-- the two poses have the same reasons of the kinds of a range
abbrev pub AreAlike : JobData → PoseData → PoseData → Back → ℕ → ℕ → ℕ → Type 0
AreAlike job pose other back stage from to = (reason : Reason) → from ≤ kind_place reason → kind_place reason ≤ to → IsReasonOf job pose back stage reason ↔ IsReasonOf job other back stage reason

pub among_alike : (job : JobData) (pose other : PoseData) (back : Back) (stage from to : ℕ) (found : Option Reason) → AreAlike job pose other back stage from to → IsFirstAmong job pose back stage from to found → IsFirstAmong job other back stage from to found
among_alike job pose other back stage from to None alike none = λ reason low high holds. none reason low high ((alike reason low high).1 holds)
among_alike job pose other back stage from to (Some reason) alike first = record {
  low = first.low;
  high = first.high;
  holds = (alike reason first.low first.high).0 first.holds;
  first = λ next low holds before.
      let order = kinds_in_order next reason before in
      let high = first.high in
      first.first next low ((alike next low (omega (arith, order, high))).1 holds) before;
}

-- from Frame to SelfHit only the boxes count
pub boxes_alike : (job : JobData) (pose : PoseData) (back : Back) (stage from to : ℕ) → 3 ≤ from → to ≤ 7 → AreAlike job (pose_of_boxes pose.boxes) pose back stage from to
boxes_alike job pose back stage from to low high Cover above below = absurd (omega (arith, low, above))
boxes_alike job pose back stage from to low high (Rest half) above below = absurd (omega (arith, low, above))
boxes_alike job pose back stage from to low high (Frame box) above below = (λ holds. holds, λ holds. holds)
boxes_alike job pose back stage from to low high (Upper box quarter index) above below = (λ holds. holds, λ holds. holds)
boxes_alike job pose back stage from to low high (Nose box quarter other) above below = (λ holds. holds, λ holds. holds)
boxes_alike job pose back stage from to low high (Lower box quarter index) above below = (λ holds. holds, λ holds. holds)
boxes_alike job pose back stage from to low high (SelfHit box quarter other) above below = (λ holds. holds, λ holds. holds)
boxes_alike job pose back stage from to low high NoGauge above below = absurd (omega (arith, high, below))
boxes_alike job pose back stage from to low high Load above below = absurd (omega (arith, high, below))

pub of_boxes : (job : JobData) (pose : PoseData) (boxes : List PoseBox) (back : Back) (stage from to : ℕ) (found one : Option Reason) → boxes ≡ pose.boxes → found ≡ one → 3 ≤ from → to ≤ 7 → IsFirstAmong job (pose_of_boxes boxes) back stage from to found
    → IsFirstAmong job pose back stage from to one
of_boxes job pose boxes back stage from to found one same is low high first =
    among_seen job pose back stage from to found one is
    (among_alike job (pose_of_boxes pose.boxes) pose back stage from to found (boxes_alike job pose back stage from to low high) (subst (λ (bs : List PoseBox). IsFirstAmong job (pose_of_boxes bs) back stage from to found) same first))
