use Rattle.std.proofs.Common.{◌≡◌, filter}
use Rattle.std.specs.List.{range_with_len}
use Rattle.brake_base.specs.Masks.{has}
use Rattle.job_setup.specs.StrokeGroup.{in_group}
use Rattle.job_setup.specs.StageOf.{stage_of}
use Rattle.job_setup.specs.Reasons.{meets}
use Rattle.handling_cost.specs.Nearest.{nearest_of_some}
use Rattle.handling_cost.proofs.lower_bound.nearest_among.Given as goal

abbrev pub invariant-loop-stage : goal.invariant-loop-stage
invariant-loop-stage l = l.nearest ≡ nearest_of_some l.from (filter (λ stage. meets l.job (in_group l.job (has l.mask) l.bend) (stage_of l.job stage)) (range_with_len 0 l.stage))
