-- What a line behind the job keeps to: its numbers are those of the job.
use Rattle.std.specs.Prelude.{◌+◌, ◌^◌, ◌<◌, ◌≤◌}
use Rattle.brake_base.specs.declared.stroke.Step.{Step}
use Rattle.brake_base.specs.declared.reason.Reason.{Reason}
use Rattle.brake_base.specs.declared.reason.Reason.TheVariants.{Cover, Rest, Frame, Upper, Nose}
use Rattle.brake_base.specs.declared.reason.Reason.TheVariants.{Lower, SelfHit, NoGauge, Load}
use Rattle.job_setup.specs.Setup.{JobData, bend_count, stage_count}
use Rattle.handling_cost.specs.StepCost.{IsActionOf}
use Rattle.cert_lines.specs.declared.row_head.RowHead.{RowHead}
use Rattle.cert_lines.specs.Lines.{IsWorth}

-- a step of a bend, a stage and two faces of the job
pub record IsStep (job : JobData) (step : Step) : Type 0 where
  pub action : IsActionOf job step.action
  pub left : step.gauge.left_face ≤ bend_count job
  pub right : step.gauge.right_face ≤ bend_count job

-- a key of the job at which a bend is unfolded, and what is proved for it
pub record IsRow (job : JobData) (row : RowHead) : Type 0 where
  pub mask : row.key.mask.0 + 1 < 2 ^ bend_count job
  pub attitude : row.key.attitude < 24
  pub stage : row.key.stage < stage_count job
  pub worth : IsWorth row.worth

-- a box has a number of 0 to 24, an obstacle one of 0 to 63, a stage one of the job
abbrev pub IsReasonInRange : JobData → Reason → Type 0
IsReasonInRange job Cover = Unit {0}
IsReasonInRange job (Rest half) = Unit {0}
IsReasonInRange job (Frame box) = box ≤ 24
IsReasonInRange job (Upper box quarter index) = (box ≤ 24) × (index ≤ 63)
IsReasonInRange job (Nose box quarter stage) = (box ≤ 24) × (stage < stage_count job)
IsReasonInRange job (Lower box quarter index) = (box ≤ 24) × (index ≤ 63)
IsReasonInRange job (SelfHit box quarter other) = (box ≤ 24) × (other ≤ 24)
IsReasonInRange job NoGauge = Unit {0}
IsReasonInRange job Load = Unit {0}
