-- Whether NoGauge holds, from the first legal pair.
use Rattle.std.proofs.Common.{◌≡◌, ℕ, not, Bool, true, false, ◌↔◌, IsTrue, Option, Some, None, refl}
use Rattle.std.specs.Option.{is_some}
use Rattle.brake_base.specs.declared.mask.Mask.{Mask}
use Rattle.brake_base.specs.declared.stroke.Back.{Back}
use Rattle.brake_base.specs.declared.stroke.Gauge.{Gauge}
use Rattle.brake_base.specs.declared.reason.Reason.TheVariants.{NoGauge}
use Rattle.job_setup.specs.Setup.{JobData}
use Rattle.job_setup.specs.Reasons.{pose_at, IsReason}
use Rattle.gauge_rules.specs.Pairs.{IsFirstLegal}

-- the reason NoGauge holds exactly where there is no first legal pair
pub no_gauge_is : (job : JobData) (mask group : Mask) (back : Back) (stage : ℕ) (gauge : Option Gauge) (answer : Bool) → is_some gauge ≡ not answer → IsFirstLegal job (pose_at job mask group back stage) gauge
    → IsTrue answer ↔ IsReason job mask group back stage NoGauge
no_gauge_is job mask group back stage None true is none = (λ _. none, λ _. refl)
no_gauge_is job mask group back stage None false is none = absurd cc
no_gauge_is job mask group back stage (Some gauge) true is first = absurd cc
no_gauge_is job mask group back stage (Some gauge) false is first = (λ yes. absurd cc, λ holds. absurd (holds gauge first.0))
