-- How large the coordinates of a job can be.
use Rattle.std.specs.Prelude.{All}
use Rattle.brake_base.specs.declared.plane.Rect.{Rect}
use Rattle.machine_file.specs.declared.machine.Fixed.{Fixed}
use Rattle.machine_file.specs.declared.machine.GaugeRule.{GaugeRule}
use Rattle.unfolder.specs.Extent.{IsNear}
use Rattle.job_setup.specs.Setup.{StageData, JobData}

pub record IsNearBox (box : Fixed) : Type 0 where
  pub x0 : IsNear box.x0
  pub x1 : IsNear box.x1
  pub y0 : IsNear box.rect.y0
  pub y1 : IsNear box.rect.y1
  pub z0 : IsNear box.rect.z0
  pub z1 : IsNear box.rect.z1

pub record IsNearStage (stage : StageData) : Type 0 where
  pub x0 : IsNear stage.x0
  pub x1 : IsNear stage.x1

-- a box of a tool's body, across the bed and upwards
pub record IsNearProfile (profile : Rect) : Type 0 where
  pub y0 : IsNear profile.y0
  pub y1 : IsNear profile.y1
  pub z0 : IsNear profile.z0
  pub z1 : IsNear profile.z1

-- the boxes of a stage's tools
pub record HasNearTools (stage : StageData) : Type 0 where
  pub punch : All IsNearProfile stage.punch.body
  pub die : All IsNearProfile stage.die.body

pub record IsNearGauge (gauge : GaugeRule) : Type 0 where
  pub near : IsNear gauge.near
  pub far : IsNear gauge.far
  pub inset : IsNear gauge.inset
  pub finger : IsNear gauge.finger
  pub gap : IsNear gauge.gap
  pub depth : IsNear gauge.depth
  pub above : IsNear gauge.above
  pub below : IsNear gauge.below

-- all coordinates of the setup lie within 1,000,000,000 micrometres of 0
pub record IsNearSetup (j : JobData) : Type 0 where
  pub bed_from : IsNear j.setup.bed.0
  pub bed_to : IsNear j.setup.bed.1
  pub frames_from : All (λ frame. IsNear frame.0) j.setup.frames
  pub frames_to : All (λ frame. IsNear frame.1) j.setup.frames
  pub upper : All IsNearBox j.setup.upper
  pub lower : All IsNearBox j.setup.lower
  pub stages : All IsNearStage j.setup.stages
  pub tools : All HasNearTools j.setup.stages
  pub gauge : IsNearGauge j.setup.gauge
