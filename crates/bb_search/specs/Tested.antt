-- What a test of an action tells.
use Rattle.std.specs.Prelude.{◌≡◌, Some}
use Rattle.brake_base.specs.declared.mask.Mask.{Mask}
use Rattle.brake_base.specs.declared.stroke.Key.{Key}
use Rattle.brake_base.specs.declared.stroke.Action.{Action}
use Rattle.brake_base.specs.declared.stroke.Gauge.{Gauge}
use Rattle.job_setup.specs.Setup.{JobData}
use Rattle.job_setup.specs.StrokeGroup.{group_of}
use Rattle.job_setup.specs.Reasons.{pose_at}
use Rattle.gauge_rules.specs.Pairs.{IsFirstLegal}
use Rattle.handling_cost.specs.StepCost.{attitude_at}
use Rattle.handling_cost.specs.Plan.{IsReasonFor, IsLegal}
use Rattle.bb_search.specs.declared.search_table.Tested.{Tested}
use Rattle.bb_search.specs.declared.search_table.Tested.TheVariants.{Refused, Free}

-- the gauge is the first legal pair in the stroke of an action's group
unfoldable pub IsFirstGauge : JobData → Mask → Action → Gauge → Type 0
IsFirstGauge job mask action gauge =
    IsFirstLegal job (pose_at job mask (group_of job mask action.bend) action.back action.stage)
    (Some gauge)

-- what a test of an action tells: a reason against it, or how the part is held and gauged
abbrev pub IsTested : JobData → Key → Action → Tested → Type 0
IsTested job key action (Refused reason) = IsReasonFor job key.mask action reason
IsTested job key action (Free attitude gauge) =
    (attitude ≡ attitude_at job key.mask action) × IsLegal job key (record {
      action = action;
      gauge = gauge;
    }) × IsFirstGauge job key.mask action gauge
