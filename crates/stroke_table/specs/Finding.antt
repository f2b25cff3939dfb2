-- What is found of a stroke.
use Rattle.std.specs.Prelude.{ℕ, ◌<◌, length, Option}
use Rattle.brake_base.specs.declared.mask.Mask.{Mask}
use Rattle.brake_base.specs.declared.stroke.Back.{Back}
use Rattle.brake_base.specs.declared.stroke.Gauge.{Gauge}
use Rattle.job_setup.specs.Setup.{JobData, stage_count}
use Rattle.job_setup.specs.Reasons.{pose_at}
use Rattle.gauge_rules.specs.Pairs.{IsFirstLegal}
use Rattle.stroke_table.specs.declared.keys.StrokeKey.{StrokeKey}
use Rattle.stroke_table.specs.declared.known.FoundGauge.{FoundGauge}
use Rattle.stroke_table.specs.declared.known.FoundGauge.TheVariants.{Unsought, Sought}
use Rattle.stroke_table.specs.declared.known.KnownStroke.{KnownStroke}
use Rattle.stroke_table.specs.Codes.{AreLeastCodes, HoldsAmong}

-- it is the first legal pair of the stroke at each stage
abbrev pub IsGaugeOf : JobData → Mask → Mask → Back → Option Gauge → Type 0
IsGaugeOf job mask group back gauge =
    (stage : ℕ) → stage < length job.setup.stages
    → IsFirstLegal job (pose_at job mask group back stage) gauge

-- so it is where the pair was looked for
abbrev pub IsFoundGauge : JobData → Mask → Mask → Back → FoundGauge → Type 0
IsFoundGauge job mask group back Unsought = Unit {0}
IsFoundGauge job mask group back (Sought gauge) = IsGaugeOf job mask group back gauge

-- What is found of a stroke: the least codes of all its reasons, and its first legal pair where
-- that was looked for.
pub record IsFound (job : JobData) (stroke : StrokeKey) (found : KnownStroke) : Type 0 where
  pub codes :
      AreLeastCodes (stage_count job) (HoldsAmong job stroke.mask stroke.of 1 9) found.codes.0
  pub gauge : IsFoundGauge job stroke.mask stroke.of.group stroke.of.back found.gauge
