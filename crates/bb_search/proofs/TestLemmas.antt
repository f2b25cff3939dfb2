-- What a test of an action tells.
use Rattle.std.proofs.Common.{◌≡◌, Option, Some, None}
use Rattle.brake_base.specs.declared.stroke.Key.{Key}
use Rattle.brake_base.specs.declared.stroke.Action.{Action}
use Rattle.brake_base.specs.declared.stroke.Gauge.{Gauge}
use Rattle.brake_base.specs.declared.reason.Reason.{Reason}
use Rattle.brake_base.specs.declared.reason.Reason.TheVariants.{NoGauge}
use Rattle.job_setup.specs.Setup.{JobData}
use Rattle.job_setup.specs.StrokeGroup.{group_of}
use Rattle.handling_cost.specs.StepCost.{IsActionAt, attitude_at}
use Rattle.handling_cost.specs.Plan.{IsReasonFor, IsGaugeFor}
use Rattle.stroke_table.specs.declared.stroke.StageStroke.{StageStroke}
use Rattle.stroke_table.specs.Strokes.{IsStrokeAt, IsFirstAt}
use Rattle.bb_search.specs.declared.search_table.Tested.TheVariants.{Free}
use Rattle.bb_search.specs.Tested.{IsFirstGauge, IsTested}

-- the first reason against an action at a key
abbrev pub IsFirstFor : JobData → Key → Action → Option Reason → Type 0
IsFirstFor job key action reason = IsFirstAt job key.mask (group_of job key.mask action.bend) action.back action.stage reason

pub refused : (job : JobData) (key : Key) (action : Action) (reason : Reason) → IsFirstFor job key action (Some reason) → IsReasonFor job key.mask action reason
unfolding IsReasonFor
refused job key action reason first = first.holds

module _ (job : JobData) (key : Key) (action : Action) (at : IsActionAt job key action) (none : IsFirstFor job key action None) (stroke : StageStroke) (is : IsStrokeAt job key.mask action stroke) where
  pub has_gauge : stroke.gauge ≡ None → ⊥
  has_gauge no_gauge = none NoGauge (rw no_gauge at is.gauge)

  pub free : (gauge : Gauge) → stroke.gauge ≡ Some gauge → IsTested job key action (Free stroke.attitude gauge)
  unfolding IsReasonFor IsGaugeFor IsFirstGauge attitude_at
  free gauge some =
      let first = rw some at is.gauge in (
        is.attitude,
        record { action = at; free = λ reason other holds. none reason holds; gauge = first.0 },
        first,
      )
