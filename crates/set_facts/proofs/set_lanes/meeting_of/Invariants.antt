use Rattle.std.proofs.Common.{◌≡◌, ◌<◌, ℕ, false, length, get_or}
use Rattle.brake_base.specs.Masks.{has}
use Rattle.job_setup.specs.StrokeGroup.{in_group}
use Rattle.job_setup.specs.StageOf.{stage_of}
use Rattle.job_setup.specs.Reasons.{meets}
use Rattle.set_facts.proofs.set_lanes.meeting_of.Given as goal

abbrev pub invariant-loop-stage : goal.invariant-loop-stage
invariant-loop-stage l = record {
  count : length l.meeting ≡ 6;
  each : (stage : ℕ) → stage < l.stage → get_or l.meeting stage false ≡ meets l.job (in_group l.job (has l.mask) l.bend) (stage_of l.job stage);
}
